-- An identifier that was read is the one that its number is written as. Assumes nothing.
use Rattle.std.proofs.Common.{◌≡◌, ◌&&◌, ℕ, zero, suc, ◌+◌, ◌*◌, ◌/◌, ◌%◌, ◌^◌, ◌<◌, ◌≤◌, Bool, true, false, cond, eqb, ltb, List, [], ◌∷◌, length, get_or, drop, Some, None, Option, sym, refl, ap, ◌∙◌, mul-le-mul_right, mul_assoc, mul_comm, add-mul, pow-suc, arith, ltb-true, eqb-true}
use Rattle.std.proofs.lemmas.Bool.{and_parts}
use Rattle.std.proofs.lemmas.Nat.{div-add-mod', div_below, mod_below, mod-mul-add, div-mul-add}
use Rattle.texts.specs.Identifiers.{digit, worth, base62, id_of, after, number_of}

digit-worth : (c : ℕ) → worth c < 62 → digit (worth c) ≡ c
digit-worth c h = grind arith

base62-front : (j d m : ℕ) → d < 62 → m < 62 ^ j → base62 (suc j) (d * 62 ^ j + m) ≡ digit d ∷ base62 j m
unfolding base62
base62-front zero d m h l =
    let e : d * 62 ^ zero + m ≡ 0 * 62 + d = omega arith in
    rw (e, mod-mul-add 0 62 d h)
base62-front (suc j) d m h l =
    let p : 0 < 62 = omega arith in
    let l' : m < 62 ^ j * 62 = rw pow-suc at l in
    let k = div_below m 62 (62 ^ j) p l' in
    let r = mod_below m 62 p in
    let s = div-add-mod' m 62 in
    let t : d * (62 ^ j * 62) ≡ d * 62 ^ j * 62 = sym (mul_assoc d (62 ^ j) 62) in
    let e : d * 62 ^ suc j + m ≡ (d * 62 ^ j + m / 62) * 62 + m % 62 = rw
    (pow-suc, t, add-mul (d * 62 ^ j) (m / 62) 62) (omega arith) in
    rw (
      e,
      mod-mul-add (d * 62 ^ j + m / 62) 62 (m % 62) r,
      div-mul-add (d * 62 ^ j + m / 62) 62
          (m % 62) r,
      base62-front j d (m / 62) h k,
    )

-- digits that write a number are those of the number
abbrev Digits : ℕ → List ℕ → ℕ → Type 0
Digits a ds n = (m : ℕ) × (m < 62 ^ length ds) × (n ≡ a * 62 ^ length ds + m) × (ds ≡ base62 (length ds) m)

passed : (p : Bool) (r : Option ℕ) (n : ℕ) → cond p r None ≡ Some n → (p ≡ true) × (r ≡ Some n)
passed true r n e = (refl, e)
passed false r n e = cc

digits : (ds : List ℕ) (a n : ℕ) → after a ds ≡ Some n → Digits a ds n
unfolding base62
digits [] a n e = let k : a ≡ n = cc in (0, omega arith, omega arith, refl)
digits (c ∷ cs) a n e =
    let w = worth c in
    let q = passed (ltb w 62 && ltb (a * 62 + w) (2 ^ 64)) (after (a * 62 + w) cs) n e in
    let h : w < 62 = ltb-true w 62 (and_parts (ltb w 62) (ltb (a * 62 + w) (2 ^ 64)) q.0).0 in
    let i = digits cs (a * 62 + w) n q.1 in
    let P = 62 ^ length cs in
    let m = i.0 in
    let v : w * P ≤ 61 * P = mul-le-mul_right P (omega arith) in
    let b : w * P + m < 62 ^ suc (length cs) = rw (pow-suc 62 (length cs)) (omega (arith, v, i.1)) in
    let t : (a * 62 + w) * P ≡ a * (P * 62) + w * P = add-mul (a * 62) w P ∙ ap (λ x. x + w * P)
    (mul_assoc a 62 P ∙ ap (λ x. a * x) (mul_comm 62 P)) in
    let f : n ≡ a * 62 ^ suc (length cs) + (w * P + m) = rw (pow-suc 62 (length cs)) (omega (arith, t, i.2)) in
    (w * P + m, b, f, (let g = base62-front (length cs) w m h i.1 in let d = digit-worth c h in let u = i.3 in cc))

first : (bs : List ℕ) (letter n : ℕ) → length bs ≡ 12 → get_or bs 0 0 ≡ letter → Digits 0 (drop 1 bs) n → bs
    ≡ id_of letter n
first [] letter n l g d = absurd (omega arith)
first (x ∷ xs) letter n l g d =
    let k : length xs ≡ 11 = omega arith in
    let e : d.0 ≡ n = omega (arith, d.2) in
    let q : xs ≡ base62 11 d.0 = d.3 ∙ ap (λ j. base62 j d.0) k in
    rw (q, e, g)

pub unique : (letter n : ℕ) (bs : List ℕ) → number_of letter bs ≡ Some n → bs ≡ id_of letter n
unique letter n bs e =
    let q = passed (eqb (length bs) 12 && eqb (get_or bs 0 0) letter) (after 0 (drop 1 bs)) n e in
    let t = and_parts (eqb (length bs) 12) (eqb (get_or bs 0 0) letter) q.0 in
    first bs letter n (eqb-true (length bs) 12 t.0) (eqb-true (get_or bs 0 0) letter t.1) (digits (drop 1 bs) 0 n q.1)
