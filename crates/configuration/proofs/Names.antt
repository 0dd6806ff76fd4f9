-- A name in its field. Assumes nothing.
use Rattle.std.proofs.Common.{◌≡◌, ℕ, ◌<◌, true, leb, List, length, ap, ◌∙◌}
use Rattle.std.proofs.lemmas.Bool.{and_parts}
use Rattle.texts.specs.Bytes.{all_printable, named, padded}
use Rattle.texts.specs.Texts.{fitting}
use Rattle.texts.proofs.Padding.{named-padded}

pub name_given : (w : ℕ) (t bs : List ℕ) → fitting w t ≡ true → bs ≡ padded w t → 0 < length t → named bs ≡ true
name_given w t bs f e l = ap named e ∙ named-padded w t (and_parts (leb (length t) w) (all_printable t) f).1 l
