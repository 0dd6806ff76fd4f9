-- Digits of base 62. Assumes nothing.
use Rattle.std.proofs.Common.{◌≡◌, ◌&&◌, ℕ, zero, suc, ◌+◌, ◌-◌, ◌*◌, ◌/◌, ◌%◌, ◌^◌, ◌<◌, ◌≤◌, Bool, true, false, cond, eqb, ltb, List, [], ◌∷◌, ◌++◌, length, take, drop, set, replicate, Some, None, Option, sym, refl, ap, ◌∙◌, append_assoc, pow-suc, arith, length-append, lt-ltb, eq-eqb}
use Rattle.std.proofs.lemmas.List.{drop-set, take-set, take-take, take-replicate, take-append-drop, replicate-append-replicate}
use Rattle.std.proofs.lemmas.List.Folds.{list_all-append}
use Rattle.texts.proofs.Padding.{said_all}
use Rattle.std.proofs.lemmas.Nat.{div-add-mod', div_below, mod_below}
use Rattle.texts.specs.Bytes.{printable, all_printable, said}
use Rattle.texts.specs.Identifiers.{digit, worth, base62, id_of, after, number_of, Returns}

-- one more digit is read
abbrev pub next : ℕ → ℕ → Option ℕ
next n c = cond (ltb (worth c) 62 && ltb (n * 62 + worth c) (2 ^ 64)) (Some (n * 62 + worth c)) None

by-test : (p : Bool) (r s t : Option ℕ) (m : ℕ) → (r ≡ Some m → s ≡ t) → cond p r None ≡ Some m → cond p s None ≡ t
by-test true r s t m f e = f e
by-test false r s t m f e = cc

after_push : (xs : List ℕ) (a m c : ℕ) → after a xs ≡ Some m → after a (xs ++ (c ∷ [])) ≡ next m c
after_push [] a m c e = let k : a ≡ m = cc in rw k
after_push (x ∷ xs) a m c e =
    by-test (ltb (worth x) 62 && ltb (a * 62 + worth x) (2 ^ 64)) (after (a * 62 + worth x) xs)
    (after (a * 62 + worth x) (xs ++ (c ∷ []))) (next m c) m
    (λ d. after_push xs (a * 62 + worth x) m c d) e

worth-digit : (d : ℕ) → d < 62 → worth (digit d) ≡ d
worth-digit d h = grind arith

pub after-base62 : (k n : ℕ) → n < 62 ^ k → n < 2 ^ 64 → after 0 (base62 k n) ≡ Some n
unfolding base62
after-base62 zero n h l = let e : n ≡ 0 = omega arith in rw e
after-base62 (suc k) n h l =
    let h' : n < 62 ^ k * 62 = rw pow-suc at h in
    let p : 0 < 62 = omega arith in
    let s : n / 62 < 62 ^ k = div_below n 62 (62 ^ k) p h' in
    let r : n % 62 < 62 = mod_below n 62 p in
    let j : n / 62 < 2 ^ 64 = omega arith in
    let w : worth (digit (n % 62)) ≡ n % 62 = worth-digit (n % 62) r in
    let d : n / 62 * 62 + n % 62 ≡ n = div-add-mod' n 62 in
    after_push (base62 k (n / 62)) 0 (n / 62) (digit (n % 62)) (after-base62 k (n / 62) s j)
    ∙ rw (w, d, lt-ltb (n % 62) 62 r, lt-ltb n (2 ^ 64) l)

length-base62 : (k n : ℕ) → length (base62 k n) ≡ k
unfolding base62
length-base62 zero n = refl
length-base62 (suc k) n =
    length-append (base62 k (n / 62)) (digit (n % 62) ∷ []) ∙ rw (length-base62 k (n / 62)) (omega arith)

pub length-id_of : (letter n : ℕ) → length (id_of letter n) ≡ 12
length-id_of letter n = ap suc (length-base62 11 n)

printable-digit : (d : ℕ) → d < 62 → printable (digit d) ≡ true
printable-digit d h = grind arith

printable-base62 : (k n : ℕ) → all_printable (base62 k n) ≡ true
unfolding base62
printable-base62 zero n = refl
printable-base62 (suc k) n =
    list_all-append printable (base62 k (n / 62)) (digit (n % 62) ∷ [])
    ∙ rw (printable-base62 k (n / 62), printable-digit (n % 62) (mod_below n 62 (omega arith)))

pub printable-id_of : (letter n : ℕ) → 65 ≤ letter → letter ≤ 90 → all_printable (id_of letter n) ≡ true
printable-id_of letter n a b = let q : printable letter ≡ true = grind arith in rw q (printable-base62 11 n)

pub said-id_of : (letter n : ℕ) → 65 ≤ letter → letter ≤ 90 → said (id_of letter n) ≡ id_of letter n
said-id_of letter n a b = said_all (id_of letter n) (printable-id_of letter n a b)

returned : (letter n : ℕ) → n < 2 ^ 64 → number_of letter (id_of letter n) ≡ Some n
returned letter n h =
    let e : eqb letter letter ≡ true = eq-eqb letter letter refl in
    rw (length-base62 11 n, e) (after-base62 11 n (omega arith) h)

some_same : (o : Option ℕ) (m n : ℕ) → o ≡ Some m → o ≡ Some n → m ≡ n
some_same o m n p q = cc

pub returns_of : (letter n : ℕ) → n < 2 ^ 64 → Returns letter n
returns_of letter n h = (
  returned letter n h,
  λ m l e. some_same (number_of letter (id_of letter n)) m n
      (sym (ap (number_of letter) e) ∙ returned letter m l) (returned letter n h),
)

-- a turn of the writing: the digit at k
pub write-turn : (k n : ℕ) (out : List ℕ) → 0 < k → k < length out → base62 k n ++ drop (k + 1) out
    ≡ base62 (k - 1) (n / 62) ++ drop (k - 1 + 1) (set out k (digit (n % 62)))
unfolding base62
write-turn zero n out p h = absurd (omega arith)
write-turn (suc j) n out p h =
    let a : suc j - 1 ≡ j = omega arith in
    let b : j + 1 ≡ suc j = omega arith in
    let d = drop-set out (suc j) (digit (n % 62)) h in
    rw (a, b, d, append_assoc)

zeros : (k : ℕ) → base62 k 0 ≡ replicate k 48
unfolding base62
zeros zero = refl
zeros (suc k) =
    let j : k + 1 ≡ suc k = omega arith in
    ap (λ ds. ds ++ (48 ∷ [])) (zeros k) ∙ replicate-append-replicate k 1 48 ∙ ap (λ m. replicate m 48) j

-- of a number that is nothing any more, or with no room, only zeros are left to write
pub rest_zeros : (k n : ℕ) → n ≡ 0 → base62 k n ≡ replicate k 48
rest_zeros k n e = rw e (zeros k)

pub no_room : (k n : ℕ) → k ≡ 0 → base62 k n ≡ replicate k 48
unfolding base62
no_room k n e = rw e refl

-- before the digit at k the zeros stay
pub write-zeros : (k letter d : ℕ) (out : List ℕ) → 0 < k → take (k + 1) out ≡ letter ∷ replicate k 48 → take (k - 1 + 1)
    (set out k d) ≡ letter ∷ replicate (k - 1) 48
write-zeros zero letter d out p h = absurd (omega arith)
write-zeros (suc j) letter d out p h =
    let a : suc j - 1 ≡ j = omega arith in
    let b : j + 1 ≡ suc j = omega arith in
    let t : take (suc j) out ≡ take (suc j) (letter ∷ replicate (suc j) 48) =
    sym (take-take (suc j) (suc j + 1) out (omega arith)) ∙ ap (take (suc j)) h in
    rw (a, b) (take-set out (suc j) d ∙ t ∙ ap (λ zs. letter ∷ zs) (take-replicate j (suc j) 48 (omega arith)))

-- the writing ends where there is nothing left, or no room
pub write-end : (letter number n k : ℕ) (out : List ℕ) → base62 k n ≡ replicate k 48 → take (k + 1) out ≡ letter
    ∷ replicate k 48 → base62 11 number ≡ base62 k n ++ drop (k + 1) out → out ≡ id_of letter number
write-end letter number n k out z h e =
    sym (take-append-drop (k + 1) out) ∙ ap (λ front. front ++ drop (k + 1) out) h
    ∙ ap (λ ds. letter ∷ ds) (ap (λ ds. ds ++ drop (k + 1) out) (sym z) ∙ sym e)
