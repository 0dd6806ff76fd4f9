-- Printable bytes are text. Assumes nothing.
use Rattle.std.proofs.Common.{◌≡◌, ℕ, ◌<◌, ◌≤◌, zero, suc, true, List, [], ◌∷◌, arith, slice_index, leb-true}
use Rattle.std.specs.Prelude.{nat_le}
use Rattle.std.proofs.lemmas.Bool.{and_parts}
use Rattle.std.specs.Str.{IsUtf8}
use Rattle.std.proofs.lemmas.Str.{IsUtf8-from_ascii}
use Rattle.texts.specs.Bytes.{printable, all_printable}

small : (b : ℕ) → printable b ≡ true → b < 128
small b h = let p = and_parts (nat_le 32 b) (nat_le b 126) h in let l : b ≤ 126 = leb-true b 126 p.1 in omega arith

ascii_from : (bs : List ℕ) → all_printable bs ≡ true → (i : ℕ) → slice_index bs i < 128
ascii_from [] h i = grind arith
ascii_from (b ∷ bs) h zero = small b (and_parts (printable b) (all_printable bs) h).0
ascii_from (b ∷ bs) h (suc i) = ascii_from bs (and_parts (printable b) (all_printable bs) h).1 i

pub printable_utf8 : (bs : List ℕ) → all_printable bs ≡ true → IsUtf8 bs
printable_utf8 bs h = IsUtf8-from_ascii bs (ascii_from bs h)
