-- What the fields of a Missed Message Request hold, by the words that a person wrote. Assumes nothing.
use Rattle.std.specs.Prelude.{ℕ, if◌then◌else◌, List, [], ◌∷◌, ℤ, Some, None, Option, nat_lt}
use Rattle.layout.specs.Layout.{Content}
use Rattle.layout.specs.Layout.Content.{figure, int8}
use Rattle.layout.specs.declared.sequence.TheConstants.{SEQUENCE_LIMIT}
use Rattle.bench_words.specs.declared.misread.Misread.{Misread}
use Rattle.bench_words.specs.declared.misread.Misread.TheVariants as why

abbrev pub missed_asked : ℤ → ℕ → List Content
missed_asked partition last = int8 partition ∷ figure last ∷ []

abbrev pub missed_wrong : ℕ → Option Misread
missed_wrong last = if nat_lt last SEQUENCE_LIMIT then None else Some why.Number
