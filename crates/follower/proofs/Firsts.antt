-- The first of the known orders from a number on, one further. Assumes nothing.
use Rattle.std.specs.Prelude.{IfSome}
use Rattle.std.proofs.Common.{◌≡◌, ℕ, zero, suc, ◌+◌, ◌<◌, ◌≤◌, ◌⊎◌, inl, inr, Bool, true, false, cond, List, [], ◌∷◌, length, nat_le, nat_lt, Some, None, Option, refl, sym, ap, ◌∙◌, subst, arith}
use Rattle.std.specs.List.{slice_get}
use Rattle.std.specs.FinMap.{get}
use Rattle.std.proofs.lemmas.Bool.{leb-true, ltb-true, ltb-false, ne_eqb, leb-false}
use Rattle.std.proofs.Math.Nat.{eq-or-lt_of_le}
use Rattle.std.proofs.lemmas.Option.{slice_get_within}
use Rattle.keyed.specs.Look.{look}
use Rattle.keyed.proofs.Keyed.{get-keyed}
use Rattle.keyed.proofs.Looks.{look_past}
use Rattle.reports.specs.declared.standings.Known.{Known}
use Rattle.reports.specs.Known.{known, number_of, standing_of}
use Rattle.follower.specs.Orders.{FirstFrom, earlier, earlier_of}

-- a number that the best so far does not come behind
abbrev pub Past : ℕ → Option Known → ℕ → Type 0
Past from None n = n < from
Past from (Some b) n = from ≤ n → b.number ≤ n

-- the best of the first orders of a list
pub record Seen (from : ℕ) (ks : List Known) (i : ℕ) (b : Option Known) : Type 0 where
  pub past : (j : ℕ) (k : Known) → j < i → slice_get ks j ≡ Some k → Past from b k.number
  pub stands : IfSome b (λ o. (from ≤ o.number) × (get (known ks) o.number ≡ Some o.standing))

pub begins : (from : ℕ) (ks : List Known) → Seen from ks 0 None
begins from ks = record { past = λ j k lt e. absurd (let no : ⊥ = omega arith in no); stands = tt }

-- what an order more makes of the best so far
record Bettered (from : ℕ) (ks : List Known) (b : Option Known) (k : Known) (c : Option Known) : Type 0 where
  keeps : (n : ℕ) → Past from b n → Past from c n
  itself : Past from c k.number
  stands : IfSome c (λ o. (from ≤ o.number) × (get (known ks) o.number ≡ Some o.standing))

abbrev Stands : ℕ → List Known → Option Known → Type 0
Stands from ks b = IfSome b (λ o. (from ≤ o.number) × (get (known ks) o.number ≡ Some o.standing))

by_first : (from : ℕ) (ks : List Known) (k : Known) (t : Bool) → nat_le from k.number ≡ t → get (known ks) k.number
    ≡ Some k.standing → Bettered from ks None k (cond t (Some k) None)
by_first from ks k true e g =
    let le = leb-true from k.number e in
    record { keeps = λ n p q. omega arith; itself = λ q. omega arith; stands = (le, g) }
by_first from ks k false e g = record { keeps = λ n p. p; itself = leb-false from k.number e; stands = tt }

by_lower : (from : ℕ) (ks : List Known) (b k : Known) (t : Bool) → nat_lt k.number b.number ≡ t → from ≤ k.number
    → Stands from ks (Some b) → get (known ks) k.number ≡ Some k.standing
    → Bettered from ks (Some b) k (cond t (Some k) (Some b))
by_lower from ks b k true e le s g =
    let lt = ltb-true k.number b.number e in
    record { keeps = λ n p q. (let l = p q in omega arith); itself = λ q. omega arith; stands = (le, g) }
by_lower from ks b k false e le s g =
    let ge = ltb-false k.number b.number e in
    record { keeps = λ n p. p; itself = λ q. ge; stands = s }

by_from : (from : ℕ) (ks : List Known) (b k : Known) (t : Bool) → nat_lt k.number from ≡ t → Stands from ks (Some b)
    → get (known ks) k.number ≡ Some k.standing
    → Bettered from ks (Some b) k (cond t (Some b) (cond (nat_lt k.number b.number) (Some k) (Some b)))
by_from from ks b k true e s g =
    let lt = ltb-true k.number from e in
    record { keeps = λ n p. p; itself = λ q. omega arith; stands = s }
by_from from ks b k false e s g = by_lower from ks b k (nat_lt k.number b.number) refl (ltb-false k.number from e) s g

bettered : (from : ℕ) (ks : List Known) (b : Option Known) (k : Known) → Stands from ks b → get (known ks) k.number
    ≡ Some k.standing → Bettered from ks b k (earlier from b k)
bettered from ks None k s g = by_first from ks k (nat_le from k.number) refl g
bettered from ks (Some b) k s g = by_from from ks b k (nat_lt k.number from) refl s g

past_more : (from : ℕ) (ks : List Known) (i : ℕ) (b : Option Known) (k : Known) → Seen from ks i b → slice_get ks i
    ≡ Some k → (w : Bettered from ks b k (earlier from b k)) → (j : ℕ) (x : Known) → (j ≡ i) ⊎ (j < i) → slice_get ks j
    ≡ Some x → Past from (earlier from b k) x.number
past_more from ks i b k s g w j x (inl same) e =
    let found : k ≡ x = (let f : Some k ≡ Some x = sym g ∙ ap (slice_get ks) (sym same) ∙ e in cc) in
    subst (λ y. Past from (earlier from b k) y.number) found w.itself
past_more from ks i b k s g w j x (inr lt) e = w.keeps x.number (s.past j x lt e)

past_none : (from : ℕ) (ks : List Known) (i : ℕ) (b : Option Known) → Seen from ks i b → slice_get ks i ≡ None
    → (j : ℕ) (x : Known) → (j ≡ i) ⊎ (j < i) → slice_get ks j ≡ Some x → Past from b x.number
past_none from ks i b s g j x (inl same) e =
    absurd (let f : ◌≡◌ {A = Option Known} None (Some x) = sym g ∙ ap (slice_get ks) (sym same) ∙ e in cc)
past_none from ks i b s g j x (inr lt) e = s.past j x lt e

-- one order further
pub further : (from : ℕ) (ks : List Known) (i : ℕ) (b o : Option Known) → Seen from ks i b → o ≡ slice_get ks i
    → IfSome o (λ k. get (known ks) k.number ≡ Some k.standing) → Seen from ks (i + 1) (earlier_of from b o)
further from ks i b None s e g = record {
  past = λ j x lt f. past_none from ks i b s (sym e) j x (eq-or-lt_of_le (let le : j ≤ i = omega arith in le)) f;
  stands = s.stands;
}
further from ks i b (Some k) s e g =
    let w = bettered from ks b k s.stands g in
    record {
      past = λ j x lt f. past_more from ks i b k s (sym e) w j x
          (eq-or-lt_of_le (let le : j ≤ i = omega arith in le)) f;
      stands = w.stands;
    }

absent : (ks : List Known) (n : ℕ) → ((j : ℕ) (k : Known) → slice_get ks j ≡ Some k → k.number ≡ n → ⊥)
    → look number_of standing_of ks n ≡ None
absent [] n h = refl
absent (x ∷ ks) n h =
    look_past number_of standing_of x ks n (ne_eqb x.number n (h zero x refl)) ∙ absent ks n (λ j k e. h (suc j) k e)

unknown : (ks : List Known) (n : ℕ) → ((j : ℕ) (k : Known) → slice_get ks j ≡ Some k → k.number ≡ n → ⊥)
    → get (known ks) n ≡ None
unknown ks n h = get-keyed number_of standing_of ks n ∙ absent ks n h

-- the best of all
pub ends : (from : ℕ) (ks : List Known) (i : ℕ) (b : Option Known) → length ks ≤ i → Seen from ks i b
    → FirstFrom (known ks) from b
ends from ks i None e s =
    λ n le. unknown ks n (λ j k f same. (let within = slice_get_within ks j k f in let p = s.past j k
    (omega arith) f in let no : ⊥ = omega arith in no))
ends from ks i (Some b) e s = record {
  reached = s.stands.0;
  stands = s.stands.1;
  first = λ n le lt. unknown ks n (λ j k f same. (let within = slice_get_within ks j k f in let p = s.past j k
      (omega arith) f (omega arith) in let no : ⊥ = omega arith in no));
}
