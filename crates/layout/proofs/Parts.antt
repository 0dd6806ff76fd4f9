-- What stands in a field of one, two, four or eight bytes. Assumes nothing.
use Rattle.std.proofs.Common.{◌≡◌, ℕ, suc, ◌+◌, ◌-◌, ◌*◌, ◌<◌, ◌≤◌, List, ◌∷◌, length, get_or, take, drop, ap, ◌∙◌, add_assoc, add-one, arith, drop-cons, length-drop}
use Rattle.std.specs.List.{prefix_len}
use Rattle.std.proofs.lemmas.Slice.{between_to_end}
use Rattle.std.proofs.lemmas.List.{take-take, drop-take, drop-drop, length-take-le}
use Rattle.texts.specs.Bytes.{part, le, all_null, printable, is_text, text_end}
use Rattle.texts.proofs.Padding.{end_within}

pub part_more : (w at : ℕ) (bs : List ℕ) → at < length bs → part at (suc w) bs ≡ get_or bs at 0 ∷ part (at + 1) w bs
part_more w at bs h = rw (add-one, drop-cons bs at 0 h)

pub le_more : (w at : ℕ) (bs : List ℕ) → at < length bs → le (part at (suc w) bs)
    ≡ get_or bs at 0 + 256 * le (part (at + 1) w bs)
le_more w at bs h = ap le (part_more w at bs h)

pub le_1 : (at : ℕ) (bs : List ℕ) → at + 1 ≤ length bs → le (part at 1 bs) ≡ get_or bs at 0
le_1 at bs h = let h₀ : at < length bs = omega arith in omega (arith, le_more 0 at bs h₀)

pub le_2 : (at : ℕ) (bs : List ℕ) → at + 2 ≤ length bs → le (part at 2 bs) ≡ get_or bs at 0 + 256 * get_or bs (at + 1) 0
le_2 at bs h =
    let h₀ : at < length bs = omega arith in let h₁ : at + 1 + 1 ≤ length bs = omega arith in omega
    (arith, le_more 1 at bs h₀, le_1 (at + 1) bs h₁)

pub le_4 : (at : ℕ) (bs : List ℕ) → at + 4 ≤ length bs → le (part at 4 bs)
    ≡ get_or bs at 0 + 256 * get_or bs (at + 1) 0 + 65536 * get_or bs (at + 2) 0 + 16777216 * get_or bs (at + 3) 0
le_4 at bs h =
    let h₀ : at < length bs = omega arith in
    let h₁ : at + 1 < length bs = omega arith in
    let h₂ : at + 2 + 2 ≤ length bs = omega arith in
    let e : le (part (at + 2) 2 bs) ≡ get_or bs (at + 2) 0 + 256 * get_or bs (at + 3) 0 = rw add_assoc at
    (le_2 (at + 2) bs h₂) in
    let d : le (part (at + 1) 3 bs) ≡ get_or bs (at + 1) 0 + 256 * le (part (at + 2) 2 bs) = rw add_assoc at
    (le_more 2 (at + 1) bs h₁) in
    omega (arith, le_more 3 at bs h₀)

pub le_8 : (at : ℕ) (bs : List ℕ) → at + 8 ≤ length bs
    → le (part at 8 bs) ≡ get_or bs at 0 + 256 * get_or bs (at + 1) 0 + 65536 * get_or bs
    (at + 2) 0 + 16777216 * get_or bs (at + 3) 0 + 4294967296 * get_or bs (at + 4) 0 + 1099511627776 * get_or bs
    (at + 5) 0 + 281474976710656 * get_or bs (at + 6) 0 + 72057594037927936 * get_or bs (at + 7) 0
le_8 at bs h =
    let h₀ : at < length bs = omega arith in
    let h₁ : at + 1 < length bs = omega arith in
    let h₂ : at + 2 < length bs = omega arith in
    let h₃ : at + 3 < length bs = omega arith in
    let h₄ : at + 4 + 4 ≤ length bs = omega arith in
    let e₁ : le (part (at + 1) 7 bs) ≡ get_or bs (at + 1) 0 + 256 * le (part (at + 2) 6 bs) = rw add_assoc at
    (le_more 6 (at + 1) bs h₁) in
    let e₂ : le (part (at + 2) 6 bs) ≡ get_or bs (at + 2) 0 + 256 * le (part (at + 3) 5 bs) = rw add_assoc at
    (le_more 5 (at + 2) bs h₂) in
    let e₃ : le (part (at + 3) 5 bs) ≡ get_or bs (at + 3) 0 + 256 * le (part (at + 4) 4 bs) = rw add_assoc at
    (le_more 4 (at + 3) bs h₃) in
    let e₄ : le (part (at + 4) 4 bs) ≡ get_or bs (at + 4) 0 + 256 * get_or bs (at + 5) 0 + 65536 * get_or bs
    (at + 6) 0 + 16777216 * get_or bs (at + 7) 0 = simp add_assoc (simp add_assoc at (le_4 (at + 4) bs h₄)) in
    omega (arith, le_more 7 at bs h₀)

-- a field, as `&src[at..at + width]` cuts it out
pub cut : (at w : ℕ) (bs : List ℕ) → take (at + w - at) (drop at bs) ≡ part at w bs
cut at w bs = let e : at + w - at ≡ w = omega arith in rw e

-- what is tested past the n printable bytes of a field
pub is_text_rest : (f : List ℕ) (n : ℕ) → n ≡ prefix_len printable f → all_null (take (length f - n) (drop n f))
    ≡ is_text f
unfolding is_text
is_text_rest f n e = let le : length f ≤ length f = omega arith in rw (between_to_end f n (length f) le, e)

pub part_long : (at w : ℕ) (bs : List ℕ) → at + w ≤ length bs → length (part at w bs) ≡ w
part_long at w bs h = let l = length-drop at bs in length-take-le w (drop at bs) (omega arith)

pub end_at : (at w n : ℕ) (bs : List ℕ) → at + w ≤ length bs → n ≡ text_end (part at w bs) → n ≤ w
end_at at w n bs h e = let l = part_long at w bs h in let k = end_within (part at w bs) in omega arith

-- a field of eight bytes as two of four
pub first_half : (at : ℕ) (bs : List ℕ) → take 4 (part at 8 bs) ≡ part at 4 bs
first_half at bs = take-take 4 8 (drop at bs) (omega arith)

pub second_half : (at : ℕ) (bs : List ℕ) → take 4 (drop 4 (part at 8 bs)) ≡ part (at + 4) 4 bs
second_half at bs =
    ap (take 4) (drop-take 4 4 (drop at bs)) ∙ take-take 4 4 (drop 4 (drop at bs)) (omega arith) ∙ ap (take 4)
    (drop-drop 4 at bs)
