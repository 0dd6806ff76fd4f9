-- Open orders withdrawn in turn. Assumes nothing.
use Rattle.std.proofs.Common.{◌≡◌, ℕ, zero, suc, ◌<◌, Bool, true, false, cond, List, [], ◌∷◌, ◌++◌, take, length, Some, None, Option, refl, sym, ap, ◌∙◌, subst, arith}
use Rattle.std.specs.Prelude.{filter, map, slice_get}
use Rattle.std.proofs.Math.Seq.{take-length}
use Rattle.changes.specs.Changes.{after}
use Rattle.changes.specs.declared.change.Change.{Change}
use Rattle.changes.specs.declared.change.Change.TheVariants.{Withdraw}
use Rattle.orders.specs.declared.row.Ending.TheVariants.{Cancelled, Expired}
use Rattle.configuration.specs.declared.instrument.Instrument.{Instrument}
use Rattle.keyed.specs.Numbers.{under}
use Rattle.keyed.proofs.Under.{under-others}
use Rattle.matching.specs.Asked.{Asked}
use Rattle.orders.proofs.Kept.{kept_at}
use Rattle.orders.specs.Kept.{kept_from}
use Rattle.orders.specs.declared.row.Row.{Row}
use Rattle.requests.specs.Selection.{ended_for, withdrawal, withdrawals}
use Rattle.requests.specs.declared.selection.Cause.{Cause}
use Rattle.requests.specs.declared.selection.Cause.TheVariants.{Request, LineLost}
use Rattle.texts.specs.declared.values.Time.{Time}
use Rattle.venue.proofs.Chains.{enacts_append, enacts_none}
use Rattle.venue.specs.Acts.{enact, enact_all, ledger_of}
use Rattle.venue.specs.Books.{Books, Over}
use Rattle.venue.specs.Enacting.{Enacts}
use Rattle.venue.specs.Ledger.{Ledger, rewritten}

-- one order more
one_more : (p : Row → Bool) (c : Cause) (k : ℕ) (xs : List Row) → withdrawals p c (take (suc k) xs)
    ≡ withdrawals p c (take k xs) ++ withdrawal p c (slice_get xs k)
one_more p c zero [] = refl
one_more p c (suc k) [] = refl
one_more p c zero (x ∷ xs) = go (p x)
  where
    go : (b : Bool) → map (ended_for c) (cond b (x ∷ []) []) ≡ cond b (ended_for c x ∷ []) []
    go true = refl
    go false = refl
one_more p c (suc k) (x ∷ xs) = go (p x) (one_more p c k xs)
  where
    go : (b : Bool) → map (ended_for c) (filter p (take (suc k) xs))
        ≡ map (ended_for c) (filter p (take k xs)) ++ withdrawal p c (slice_get xs k)
        → map (ended_for c) (cond b (x ∷ filter p (take (suc k) xs)) (filter p (take (suc k) xs)))
        ≡ map (ended_for c) (cond b (x ∷ filter p (take k xs)) (filter p (take k xs))) ++ withdrawal p c (slice_get xs k)
    go true h = ap (λ acts. ended_for c x ∷ acts) h
    go false h = h

-- a change of one order leaves the instruments and all other orders
rewritten_apart : (t : Time) (n m : ℕ) (c : Change) (o : Option Row) (is : List Instrument) (l : Ledger) → (m ≡ n → ⊥)
    → under (rewritten is t n c o l).rows m ≡ under l.rows m
rewritten_apart t n m c None is l ne = refl
rewritten_apart t n m c (Some r) is l ne = under-others l.rows n m r ne

pub ended_apart : (t : Time) (c : Cause) (r : Row) (m : ℕ) (b : Books) → (m ≡ r.number → ⊥)
    → under (enact t (ended_for c r) b).rows m ≡ under b.rows m
ended_apart t (Request i) r m b ne =
    let w = Withdraw Cancelled i in
    rewritten_apart t r.number m w (after r.number w (under b.rows r.number)) b.instruments (ledger_of b) ne
ended_apart t LineLost r m b ne =
    let w = Withdraw Expired r.client in
    rewritten_apart t r.number m w (after r.number w (under b.rows r.number)) b.instruments (ledger_of b) ne

ended_instruments : (t : Time) (c : Cause) (r : Row) (b : Books) → (enact t (ended_for c r) b).instruments
    ≡ b.instruments
ended_instruments t (Request i) r b = refl
ended_instruments t LineLost r b = refl

module _ (t : Time) (p : Row → Bool) (c : Cause) where
  withdrawn_apart : (o : Option Row) (n m : ℕ) (b : Books) → ((r : Row) → o ≡ Some r → r.number ≡ n) → (m ≡ n → ⊥)
      → under (enact_all t (withdrawal p c o) b).rows m ≡ under b.rows m
  withdrawn_apart None n m b is ne = refl
  withdrawn_apart (Some r) n m b is ne = go (p r)
    where
      go : (x : Bool) → under (enact_all t (cond x (ended_for c r ∷ []) []) b).rows m ≡ under b.rows m
      go true = ended_apart t c r m b (λ e. ne (e ∙ is r refl))
      go false = refl

  withdrawn_instruments : (o : Option Row) (b : Books) → (enact_all t (withdrawal p c o) b).instruments ≡ b.instruments
  withdrawn_instruments None b = refl
  withdrawn_instruments (Some r) b = go (p r)
    where
      go : (x : Bool) → (enact_all t (cond x (ended_for c r ∷ []) []) b).instruments ≡ b.instruments
      go true = ended_instruments t c r b
      go false = refl

  -- of the first so many orders those are withdrawn of which p is true, and all others are as they were
  pub record Swept {M : Type 0} (did : M → Asked → M → Type 0) (k : ℕ) (x y : Over Books M) : Type 0 where
    pub done : Enacts did t (withdrawals p c (take k x.state.rows)) x y
    pub instruments : y.state.instruments ≡ x.state.instruments
    pub rest : (n : ℕ) → k < n → under y.state.rows n ≡ under x.state.rows n

  module _ {M : Type 0} {did : M → Asked → M → Type 0} where
    pub swept_none : (x : Over Books M) → Swept did 0 x x
    swept_none x = record { done = enacts_none t x; instruments = refl; rest = λ n h. refl }

    pub swept_more : (k : ℕ) (x y z : Over Books M) → kept_from 1 x.state.rows ≡ true → Swept did k x y
        → Enacts did t (withdrawal p c (under y.state.rows (suc k))) y z → Swept did (suc k) x z
    swept_more k x y z numbered h one =
        let same = h.rest (suc k) (omega arith) in
        let next = subst (λ o. Enacts did t (withdrawal p c o) y z) same one in
        let number = λ (r : Row) (e : under x.state.rows (suc k) ≡ Some r). (kept_at x.state.rows (suc k) r numbered e).0 in
        record {
          done = subst (λ acts. Enacts did t acts x z) (sym (one_more p c k x.state.rows))
              (enacts_append t _ _ x y z h.done next);
          instruments = ap (λ (b : Books). b.instruments) next.books
              ∙ withdrawn_instruments (under x.state.rows (suc k)) y.state ∙ h.instruments;
          rest = λ n lt. ap (λ (b : Books). under b.rows n) next.books
              ∙ withdrawn_apart (under x.state.rows (suc k)) (suc k) n y.state number (omega arith)
              ∙ h.rest n (omega arith);
        }

    pub swept_all : (k : ℕ) (x y : Over Books M) → k ≡ length x.state.rows → Swept did k x y
        → Enacts did t (withdrawals p c x.state.rows) x y
    swept_all k x y e h =
        subst (λ rows. Enacts did t (withdrawals p c rows) x y)
        (ap (λ n. take n x.state.rows) e ∙ take-length x.state.rows) h.done
