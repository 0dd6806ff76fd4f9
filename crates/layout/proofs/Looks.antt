-- What the masks of bytes that are looked at side by side tell of the field at their front. Assumes nothing.
use Rattle.std.proofs.Common.{◌≡◌, ℕ, zero, suc, ◌+◌, ◌*◌, ◌/◌, ◌%◌, ◌^◌, ◌≤◌, Bool, true, false, cond, eqb, not, ◌&&◌, List, [], ◌∷◌, map, length, take, drop, refl, ap, ap₂, ◌∙◌, sym, arith, Fits, w8, pow-suc}
use Rattle.std.proofs.Math.Bool.{not-not}
use Rattle.std.proofs.Math.Nat.{div-div-eq-div-mul, zero-div}
use Rattle.std.proofs.lemmas.Bool.{agree_below, agree_below_at}
use Rattle.std.proofs.lemmas.Bool.Decides.{nat_tests}
use Rattle.std.proofs.lemmas.List.{take-take, take-map, drop-map, length-map}
use Rattle.std.proofs.lemmas.Nat.{mod-pow-add}
use Rattle.std.proofs.lemmas.Simd.{map-map, mask_l-mod, first_set_mask_l}
use Rattle.std.specs.List.{prefix_len}
use lib.Lanes.{Each1, mask_l, top}
use Rattle.texts.specs.Bytes.{part, printable, all_null, is_text, text_end}
use Rattle.layout.specs.Looks.{Masked, Tells, end_told}
use Rattle.layout.specs.declared.look.Masks.{Masks}
use Rattle.layout.proofs.Parts.{part_long}

-- the mask of a front, and of what is behind it
bit_take : (b : Bool) (m n : ℕ) → (cond b 1 0 + 2 * m) % 2 ^ (n + 1) ≡ cond b 1 0 + 2 * (m % 2 ^ n)
bit_take true m n = let h : (1 + 2 * m) / 2 ≡ m = omega arith in omega (arith, mod-pow-add (1 + 2 * m) n 1, ap (λ k. k % 2 ^ n) h)
bit_take false m n = let h : (0 + 2 * m) / 2 ≡ m = omega arith in omega (arith, mod-pow-add (0 + 2 * m) n 1, ap (λ k. k % 2 ^ n) h)

mask_take : (ms : List Bool) (n : ℕ) → mask_l ms % 2 ^ n ≡ mask_l (take n ms)
mask_take ms zero = omega arith
mask_take [] (suc n) = mask_l-mod [] (suc n) (omega arith)
mask_take (b ∷ ms) (suc n) =
    let e : suc n ≡ n + 1 = omega arith in
    ap (λ k. (cond b 1 0 + 2 * mask_l ms) % 2 ^ k) e ∙ bit_take b (mask_l ms) n ∙ ap (λ k. cond b 1 0 + 2 * k) (mask_take ms n)

bit_drop : (b : Bool) (m : ℕ) → (cond b 1 0 + 2 * m) / 2 ≡ m
bit_drop true m = omega arith
bit_drop false m = omega arith

mask_drop : (ms : List Bool) (n : ℕ) → mask_l ms / 2 ^ n ≡ mask_l (drop n ms)
mask_drop ms zero = omega arith
mask_drop [] (suc n) = zero-div (2 ^ suc n)
mask_drop (b ∷ ms) (suc n) =
    let k : 2 ^ suc n ≡ 2 * 2 ^ n = omega (arith, pow-suc 2 n) in
    rw k (sym (div-div-eq-div-mul (cond b 1 0 + 2 * mask_l ms) 2 (2 ^ n)) ∙ ap (λ m. m / 2 ^ n) (bit_drop b (mask_l ms)) ∙ mask_drop ms n)

-- a mask with no bit
no_bit : (p : Bool) (m : ℕ) (r : Bool) → eqb m 0 ≡ r → eqb (cond (not p) 1 0 + 2 * m) 0 ≡ (p && r)
no_bit true zero r h = h
no_bit true (suc m) r h = grind (arith, nat_tests)
no_bit false m r h = grind (arith, nat_tests)

mask_none : (xs : List ℕ) → eqb (mask_l (map (λ b. not (eqb b 0)) xs)) 0 ≡ all_null xs
mask_none [] = refl
mask_none (x ∷ xs) = no_bit (eqb x 0) (mask_l (map (λ b. not (eqb b 0)) xs)) (all_null xs) (mask_none xs)

-- the mask of lanes whose top bits tell a test of the bytes
map_agree : (a p : ℕ → Bool) (v : List ℕ) → agree_below a p 256 ≡ true → Each1 (Fits w8) v → map a v ≡ map p v
map_agree a p [] h fits = refl
map_agree a p (x ∷ v) h fits = ap₂ (λ b bs. b ∷ bs) (agree_below_at a p 256 x h fits.0.fits) (map_agree a p v h fits.1)

pub mask_is : (p : ℕ → Bool) (f : ℕ → ℕ) (v z : List ℕ) → length v ≤ 64 → Each1 (Fits w8) v → z ≡ map f v
    → agree_below (λ x. top 7 (f x)) p 256 ≡ true → mask_l (map (top 7) z) % 2 ^ 64 ≡ mask_l (map p v)
mask_is p f v z few fits e h =
    let m : map (top 7) z ≡ map p v =
    ap (map (top 7)) e ∙ map-map (top 7) f v ∙ map_agree (λ x. top 7 (f x)) p v h fits in
    ap (λ ms. mask_l ms % 2 ^ 64) m ∙ mask_l-mod (map p v) 64 (omega (arith, length-map v p))

front_mask : (p : ℕ → Bool) (bs : List ℕ) (at w n m : ℕ) → w ≤ n → m ≡ mask_l (map p (part at n bs))
    → m % 2 ^ w ≡ mask_l (map p (part at w bs))
front_mask p bs at w n m le e =
    ap (λ k. k % 2 ^ w) e ∙ mask_take (map p (part at n bs)) w ∙ ap mask_l (take-map p w (part at n bs))
    ∙ ap (λ l. mask_l (map p l)) (take-take w n (drop at bs) le)

-- masks of as many bytes as a field has, or more, tell of the field
pub told : (bs : List ℕ) (at w n : ℕ) (m : Masks) → at + w ≤ length bs → w ≤ n → w ≤ 32 → Masked (part at n bs) m
    → Tells (part at w bs) w m
unfolding is_text
told bs at w n m room le few h =
    let f = part at w bs in
    let stops = front_mask (λ b. not (printable b)) bs at w n m.stops le h.0 in
    let given = front_mask (λ b. not (eqb b 0)) bs at w n m.given le h.1 in
    let first = first_set_mask_l (λ b. not (printable b)) f w (part_long at w bs room) (omega arith) in
    let twice : prefix_len (λ b. not (not (printable b))) f ≡ text_end f = simp not-not in
    let e : end_told m.stops w ≡ text_end f = rw stops (first ∙ twice) in
    let rest : m.given % 2 ^ w / 2 ^ end_told m.stops w ≡ mask_l (map (λ b. not (eqb b 0)) (drop (text_end f) f)) =
    ap₂ (λ a b. a / 2 ^ b) given e ∙ mask_drop (map (λ b. not (eqb b 0)) f) (text_end f)
    ∙ ap mask_l (drop-map (λ b. not (eqb b 0)) (text_end f) f) in
    (few, e, ap (λ k. eqb k 0) rest ∙ mask_none (drop (text_end f) f))
