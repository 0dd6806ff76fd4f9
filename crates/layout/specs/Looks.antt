-- What one look at a text field tells: two masks of its bytes and of those behind it, the first byte's bit the lowest.
-- Assumes nothing.
use Rattle.std.specs.Prelude.{◌≡◌, ◌≤◌, ℕ, ◌%◌, ◌/◌, ◌^◌, Bool, not, List, map, if◌then◌else◌, ◌==◌}
use Rattle.std.specs.Int.{w64, trailing_zeros}
use lib.Lanes.{mask_l}
use Rattle.texts.specs.Bytes.{printable, text_end, is_text}
use Rattle.layout.specs.declared.look.Masks.{Masks}

-- a bit for each byte that is not printable, and for each that is not null
abbrev pub Masked : List ℕ → Masks → Type 0
Masked bs m = (m.stops ≡ mask_l (map (λ b. not (printable b)) bs)) × (m.given ≡ mask_l (map (λ b. not (b == 0)) bs))

-- where the text of a field of w bytes ends: at the lowest bit of its stops, or behind the field
abbrev pub end_told : ℕ → ℕ → ℕ
end_told stops w = if stops % 2 ^ w == 0 then w else trailing_zeros w64 (stops % 2 ^ w)

-- whether the field holds text: behind that end none of its bytes is given
abbrev pub text_told : Masks → ℕ → Bool
text_told m w = m.given % 2 ^ w / 2 ^ end_told m.stops w == 0

-- the masks tell of a field: where its text ends, and whether it holds text
abbrev pub Tells : List ℕ → ℕ → Masks → Type 0
Tells f w m = (w ≤ 32) × (end_told m.stops w ≡ text_end f) × (text_told m w ≡ is_text f)
