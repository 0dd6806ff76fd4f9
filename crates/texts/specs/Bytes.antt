-- Bytes as numbers and as text. Assumes nothing.
use Rattle.std.specs.Prelude.{ℕ, zero, suc, ◌+◌, ◌-◌, ◌*◌, ◌/◌, ◌%◌, Bool, ◌&&◌, List, [], ◌∷◌, ◌++◌, length, take, drop, replicate, ◌==◌, nat_le, nat_lt}
use Rattle.std.specs.List.{list_all, prefix_len}

-- the bytes of the field at a place, of a width
abbrev pub part : ℕ → ℕ → List ℕ → List ℕ
part at width bs = take width (drop at bs)

-- the number that bytes write, the lowest first
abbrev pub le : List ℕ → ℕ
le [] = 0
le (b ∷ bs) = b + 256 * le bs

-- the bytes of a number, the lowest first, in a width
abbrev pub to_le : ℕ → ℕ → List ℕ
to_le zero n = []
to_le (suc w) n = n % 256 ∷ to_le w (n / 256)

abbrev pub printable : ℕ → Bool
printable b = nat_le 32 b && nat_le b 126

abbrev pub all_printable : List ℕ → Bool
all_printable bs = list_all printable bs

abbrev pub all_null : List ℕ → Bool
all_null bs = list_all (λ b. b == 0) bs

-- where the text of a field ends: at its first byte that is not printable
abbrev pub text_end : List ℕ → ℕ
text_end f = prefix_len printable f

-- what a text field says: the bytes before that end
abbrev pub said : List ℕ → List ℕ
said f = take (text_end f) f

-- a field that holds text: behind what it says all is null
unfoldable pub is_text : List ℕ → Bool
is_text f = all_null (drop (text_end f) f)

-- a field that says something
unfoldable pub named : List ℕ → Bool
named f = nat_lt 0 (text_end f)

-- text, and nulls up to a width: the one form in which a field holds it
abbrev pub padded : ℕ → List ℕ → List ℕ
padded w t = t ++ replicate (w - length t) 0
