-- Who sends a message. Assumes nothing.
use Rattle.std.specs.Prelude.{◌≡◌, []}
use Rattle.texts.specs.Bytes.{said}
use Rattle.bench_words.specs.declared.session.Sender.{Sender}

abbrev pub says_nothing : Sender → Type 0
says_nothing s = (said s.name.bytes ≡ []) × (said s.password.bytes ≡ [])
