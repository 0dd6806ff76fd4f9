-- Orders counted in turn. Assumes nothing.
use Rattle.std.proofs.Common.{◌≡◌, ℕ, zero, suc, ◌+◌, ◌*◌, ◌≤◌, Bool, true, false, ◌&&◌, cond, eqb, List, [], ◌∷◌, ◌++◌, take, length, Some, None, Option, refl, ap, ◌∙◌, arith}
use Rattle.std.specs.Prelude.{filter, slice_get, nat_le}
use Rattle.std.specs.List.{sum_by}
use Rattle.std.proofs.lemmas.Bool.{and_parts, eqb-true, leb-true}
use Rattle.std.proofs.lemmas.List.{append-nil, length-append}
use Rattle.std.proofs.lemmas.List.Elements.{filter-append}
use Rattle.std.proofs.lemmas.List.Sums.{sum_by-cons, sum_by_push}
use Rattle.codes.specs.Session.{same_partition}
use Rattle.codes.specs.declared.session.Partition.{Partition}
use Rattle.codes.specs.declared.session.Partition.TheVariants.{One, Two, Three}
use Rattle.configuration.specs.declared.instrument.Instrument.{Instrument}
use Rattle.gateway.specs.Counting.{Few, among, counted, counted_in, going_in, going_of, is_in, more}
use Rattle.gateway.specs.declared.preview.Going.{Going}
use Rattle.limits.specs.declared.TheConstants.{ORDERS, SHARES}
use Rattle.orders.specs.Kept.{kept_from}
use Rattle.orders.specs.Rows.{balanced, orderly, untouched}
use Rattle.orders.specs.declared.row.Row.{Row}
use Rattle.partitions.specs.PerPartition.{at, with_at}
use Rattle.partitions.specs.declared.per_partition.PerPartition.{PerPartition}

-- ---- one order more

abbrev tally : List Row → Going
tally rs = record { orders = length rs; shares = sum_by (λ (r : Row). r.leaves) rs }

going_same : (a b c d : ℕ) → a ≡ b → c ≡ d
    → ◌≡◌ {A = Going} (record { orders = a; shares = c }) (record { orders = b; shares = d })
going_same a b c d e f = cc

abbrev three : Going → Going → Going → PerPartition Going
three a b c = record { one = a; two = b; three = c }

three_same : (a b c a' b' c' : Going) → a ≡ a' → b ≡ b' → c ≡ c' → three a b c ≡ three a' b' c'
three_same a b c a' b' c' e f g = cc

module _ (q : Row → Bool) (is : List Instrument) (xs : List Row) (r : Row) where
  step_in : (p : Partition) → going_in q is (xs ++ r ∷ []) p
      ≡ cond (q r && is_in p (slice_get is r.terms.instrument)) (more r.leaves (going_in q is xs p)) (going_in q is xs p)
  step_in p =
      ap tally (filter-append (λ (y : Row). q y && is_in p (slice_get is y.terms.instrument)) xs (r ∷ []))
      ∙ go (q r && is_in p (slice_get is r.terms.instrument))
    where
      go : (b : Bool) → tally (among q is xs p ++ cond b (r ∷ []) [])
          ≡ cond b (more r.leaves (going_in q is xs p)) (going_in q is xs p)
      go true = going_same _ _ _ _ (length-append (among q is xs p) (r ∷ []))
          (sum_by_push (λ (y : Row). y.leaves) (among q is xs p) r)
      go false = ap tally (append-nil (among q is xs p))

  in_one_of : (g : PerPartition Going) (x : Partition) → three
      (cond (same_partition x One) (more r.leaves g.one) g.one)
      (cond (same_partition x Two) (more r.leaves g.two) g.two)
      (cond (same_partition x Three) (more r.leaves g.three) g.three) ≡ with_at g x (more r.leaves (at g x))
  in_one_of g One = refl
  in_one_of g Two = refl
  in_one_of g Three = refl

  by_test : (g : PerPartition Going) (b : Bool) (o : Option Instrument) → three
      (cond (b && is_in One o) (more r.leaves g.one) g.one)
      (cond (b && is_in Two o) (more r.leaves g.two) g.two)
      (cond (b && is_in Three o) (more r.leaves g.three) g.three) ≡ cond b (counted_in o r.leaves g) g
  by_test g false o = refl
  by_test g true None = refl
  by_test g true (Some i) = in_one_of g i.partition

  counted_more : going_of q is (xs ++ r ∷ []) ≡ counted q is (Some r) (going_of q is xs)
  counted_more =
      three_same _ _ _ _ _ _ (step_in One) (step_in Two) (step_in Three)
      ∙ by_test (going_of q is xs) (q r) (slice_get is r.terms.instrument)

abbrev as_list : Option Row → List Row
as_list None = []
as_list (Some r) = r ∷ []

take_next : (k : ℕ) (xs : List Row) → take (suc k) xs ≡ take k xs ++ as_list (slice_get xs k)
take_next zero [] = refl
take_next zero (x ∷ xs) = refl
take_next (suc k) [] = refl
take_next (suc k) (x ∷ xs) = ap (λ ys. x ∷ ys) (take_next k xs)

-- the next of the orders is counted
pub counted_next : (q : Row → Bool) (is : List Instrument) (k : ℕ) (rows : List Row)
    → going_of q is (take (suc k) rows) ≡ counted q is (slice_get rows k) (going_of q is (take k rows))
counted_next q is k rows = ap (going_of q is) (take_next k rows) ∙ by_row (slice_get rows k)
  where
    by_row : (o : Option Row) → going_of q is (take k rows ++ as_list o) ≡ counted q is o (going_of q is (take k rows))
    by_row None = ap (going_of q is) (append-nil (take k rows))
    by_row (Some r) = counted_more q is (take k rows) r

-- ---- a day's orders are few enough

leaves_bound : (r : Row) → orderly r ≡ true → r.leaves ≤ SHARES
leaves_bound r h =
    let p = and_parts (balanced r) _ h in
    let q = and_parts (nat_le r.ordered SHARES) (untouched r) p.1 in
    let e : r.ordered ≡ r.executed + r.leaves + r.withdrawn = eqb-true _ _ p.0 in
    let l : r.ordered ≤ SHARES = leb-true _ _ q.0 in
    omega arith

parts : (n : ℕ) (r : Row) (rs : List Row) → kept_from n (r ∷ rs) ≡ true
    → (r.leaves ≤ SHARES) × (kept_from (suc n) rs ≡ true)
unfolding kept_from
parts n r rs h =
    let p = and_parts (eqb r.number n) (orderly r && kept_from (suc n) rs) h in
    let q = and_parts (orderly r) (kept_from (suc n) rs) p.1 in
    (leaves_bound r q.0, q.1)

-- rows are no more than so many, and have no more shares open than so many orders have at most
pub record Within (n : ℕ) (rs : List Row) : Type 0 where
  pub orders : length rs ≤ n
  pub shares : sum_by (λ (r : Row). r.leaves) rs ≤ n * SHARES

one_more : (n : ℕ) (r : Row) (rs : List Row) → r.leaves ≤ SHARES → Within n rs → Within (suc n) (r ∷ rs)
one_more n r rs l w = record {
  orders = omega (arith, w.orders);
  shares =
      let e = sum_by-cons (λ (y : Row). y.leaves) r rs in
      omega (arith, w.shares);
}

none_more : (n : ℕ) (rs : List Row) → Within n rs → Within (suc n) rs
none_more n rs w = record { orders = omega (arith, w.orders); shares = omega (arith, w.shares) }

bounded : (f : Row → Bool) (n k : ℕ) (rows : List Row) → kept_from n rows ≡ true
    → Within (length rows) (filter f (take k rows))
bounded f n zero rows h = record { orders = omega arith; shares = omega arith }
bounded f n (suc k) [] h = record { orders = omega arith; shares = omega arith }
bounded f n (suc k) (x ∷ rs) h = go (f x) (parts n x rs h).0 (bounded f (suc n) k rs (parts n x rs h).1)
  where
    go : (b : Bool) → x.leaves ≤ SHARES → Within (length rs) (filter f (take k rs))
        → Within (suc (length rs)) (cond b (x ∷ filter f (take k rs)) (filter f (take k rs)))
    go true l rest = one_more (length rs) x (filter f (take k rs)) l rest
    go false l rest = none_more (length rs) (filter f (take k rs)) rest

module _ (q : Row → Bool) (is : List Instrument) (k : ℕ) (rows : List Row) where
  few_in : kept_from 1 rows ≡ true → length rows ≤ ORDERS → (p : Partition)
      → ((going_in q is (take k rows) p).orders ≤ ORDERS) × ((going_in q is (take k rows) p).shares ≤ ORDERS * SHARES)
  few_in h l p =
      let b = bounded (λ (y : Row). q y && is_in p (slice_get is y.terms.instrument)) 1 k rows h in
      (omega arith, omega arith)

  pub few : kept_from 1 rows ≡ true → length rows ≤ ORDERS → Few (going_of q is (take k rows))
  few h l One = few_in h l One
  few h l Two = few_in h l Two
  few h l Three = few_in h l Three
