-- What parse reads as a whole number. Assumes nothing.
use Rattle.std.proofs.Common.{◌≡◌, ◌≢◌, ℕ, ◌^◌, ◌<◌, ◌≤◌, Bool, true, false, ◌&&◌, List, length, drop, Ok, Err, Some, None, Option, Result, arith, ap, refl, sym, ◌∙◌, cond, inl, inr, ltb-true, leb-true, slice_index}
use Rattle.std.specs.Prelude.{ℤ, nat_lt, nat_le}
use Rattle.std.specs.Int.{w8, w32}
use mir.Syntax.{Width}
use mir.Val.{hbits}
use Rattle.std.specs.Result.{OkIff, result_ok}
use Rattle.std.specs.Str.{all_ascii_digits}
use Rattle.std.specs.Str.Parse.{ParsesUnsigned, ParsesSigned, digits_value, without_leading_plus}
use Rattle.std.proofs.lemmas.Bool.{and_parts, cases_Bool}
use Rattle.std.proofs.lemmas.Bool.Decides.{eqb_tells, nat_tests}
use Rattle.std.proofs.lemmas.Str.Parse.{IsNumeralModel, numerals_by_value, tells_all_ascii_digits, parse_signed_minus, parse_signed_plain, parse_signed_plus, without_leading_plus_none, without_leading_plus_plus}
use Rattle.bench_words.specs.Prices.{digits_of, is_numeral}
use Rattle.bench_words.specs.Words.{negative_of, positive_of, signed_of, whole_of}

own : IsNumeralModel (λ ds. all_ascii_digits ds ≡ true) (digits_value 10)
own = numerals_by_value _ tells_all_ascii_digits

-- a result that is Ok just where a test passes
by_test : {A E : Type 0} (r : Result A E) (P : Type 0) (t : Bool) (v : A) → OkIff r P v → (P → t ≡ true)
    → (t ≡ true → P) → result_ok r ≡ cond t (Some v) None
by_test (Ok x) P t v h to from = ap Some h.1 ∙ sym (ap (λ b. cond b (Some v) None) (to h.0))
by_test (Err e) P t v h to from =
    elim (cases_Bool t) [ inl y ↦ absurd (h (from y)) | inr n ↦ sym (ap (λ b. cond b (Some v) None) n) ]

nested : (a b : Bool) (v : Option ℕ) → cond (a && b) v None ≡ cond a (cond b v None) None
nested true b v = refl
nested false b v = refl

below : (ds : List ℕ) (m : ℕ) → (0 < length ds) → all_ascii_digits ds ≡ true → digits_value 10 ds < m
    → (is_numeral ds && nat_lt (digits_value 10 ds) m) ≡ true
below ds m l d v = grind (arith, nat_tests)

upto : (ds : List ℕ) (m : ℕ) → (0 < length ds) → all_ascii_digits ds ≡ true → digits_value 10 ds ≤ m
    → (is_numeral ds && nat_le (digits_value 10 ds) m) ≡ true
upto ds m l d v = grind (arith, nat_tests)

numeral : (ds : List ℕ) → is_numeral ds ≡ true → (0 < length ds) × (all_ascii_digits ds ≡ true)
numeral ds h = let p = and_parts (nat_lt 0 (length ds)) (all_ascii_digits ds) h in (ltb-true 0 (length ds) p.0, p.1)

is_below : (ds : List ℕ) (m : ℕ) → (is_numeral ds && nat_lt (digits_value 10 ds) m) ≡ true
    → (all_ascii_digits ds ≡ true) × (0 < length ds) × (digits_value 10 ds < m)
is_below ds m h =
    let p = and_parts (is_numeral ds) (nat_lt (digits_value 10 ds) m) h in
    let q = numeral ds p.0 in (q.1, q.0, ltb-true (digits_value 10 ds) m p.1)

is_upto : (ds : List ℕ) (m : ℕ) → (is_numeral ds && nat_le (digits_value 10 ds) m) ≡ true
    → (all_ascii_digits ds ≡ true) × (0 < length ds) × (digits_value 10 ds ≤ m)
is_upto ds m h =
    let p = and_parts (is_numeral ds) (nat_le (digits_value 10 ds) m) h in
    let q = numeral ds p.0 in (q.1, q.0, leb-true (digits_value 10 ds) m p.1)

pub read_whole : {E : Type 0} (k : ℕ) (bs : List ℕ) (r : Result ℕ E) → ParsesUnsigned k 10 bs r → result_ok r
    ≡ whole_of k bs
read_whole k bs r h =
    let ds = without_leading_plus bs in
    by_test r _ _ _ h
    (λ p. below ds (2 ^ k) p.0.0 (own.from ds p.0.1) p.1)
    (λ t. let q = is_below ds (2 ^ k) t in ((q.1, own.to ds q.0), q.2))

-- with no plus in front
pub read_digits : {E : Type 0} (bs : List ℕ) (r : Result ℕ E) → ParsesUnsigned 64 10 bs r → slice_index bs 0 ≢ 43
    → result_ok r ≡ digits_of bs
unfolding digits_of
read_digits bs r h n =
    let alone : List ℕ → Option ℕ = λ ds. cond (is_numeral ds && nat_lt (digits_value 10 ds) (2 ^ 64))
    (Some (digits_value 10 ds)) None in
    read_whole 64 bs r h ∙ ap alone (without_leading_plus_none bs n) ∙ nested (is_numeral bs) _ _

-- behind a minus
below_zero : {E : Type 0} (w : Width) (bs : List ℕ) (r : Result ℤ E) → ParsesSigned w 10 bs r → slice_index bs 0 ≡ 45
    → result_ok r ≡ negative_of (hbits w) (drop 1 bs)
below_zero w bs r h e =
    by_test r _ _ _ (parse_signed_minus own w bs r h e)
    (λ p. upto (drop 1 bs) (2 ^ hbits w) p.1 p.0 p.2)
    (λ t. is_upto (drop 1 bs) (2 ^ hbits w) t)

-- behind a plus, and with no sign
not_below_zero : {E : Type 0} (w : Width) (bs : List ℕ) (r : Result ℤ E) → ParsesSigned w 10 bs r
    → slice_index bs 0 ≢ 45 → result_ok r ≡ positive_of (hbits w) (without_leading_plus bs)
not_below_zero w bs r h n =
    elim (eqb_tells (slice_index bs 0) 43) [
      | inl y ↦
          by_test r _ _ _ (parse_signed_plus own w bs r h y.1)
          (λ p. below (drop 1 bs) (2 ^ hbits w) p.1 p.0 p.2)
          (λ t. is_below (drop 1 bs) (2 ^ hbits w) t)
          ∙ ap (positive_of (hbits w)) (sym (without_leading_plus_plus bs y.1))
      | inr m ↦
          by_test r _ _ _ (parse_signed_plain own w bs r h m.1 n)
          (λ p. below bs (2 ^ hbits w) p.1 p.0 p.2)
          (λ t. is_below bs (2 ^ hbits w) t)
          ∙ ap (positive_of (hbits w)) (sym (without_leading_plus_none bs m.1))
    ]

read_width : {E : Type 0} (w : Width) (bs : List ℕ) (r : Result ℤ E) → ParsesSigned w 10 bs r → result_ok r
    ≡ signed_of (hbits w) bs
read_width w bs r h =
    let choice : Bool → Option ℤ = λ b. cond b (negative_of (hbits w) (drop 1 bs))
    (positive_of (hbits w) (without_leading_plus bs)) in
    elim (eqb_tells (slice_index bs 0) 45) [
      | inl y ↦ below_zero w bs r h y.1 ∙ sym (ap choice y.0)
      | inr n ↦ not_below_zero w bs r h n.1 ∙ sym (ap choice n.0)
    ]

pub read_signed_32 : {E : Type 0} (bs : List ℕ) (r : Result ℤ E) → ParsesSigned w32 10 bs r → result_ok r
    ≡ signed_of 31 bs
read_signed_32 bs r h = read_width w32 bs r h

pub read_signed_8 : {E : Type 0} (bs : List ℕ) (r : Result ℤ E) → ParsesSigned w8 10 bs r → result_ok r ≡ signed_of 7 bs
read_signed_8 bs r h = read_width w8 bs r h
