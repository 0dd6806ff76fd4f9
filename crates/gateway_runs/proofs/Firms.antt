-- A call on a line leaves the orders of other firms. Assumes nothing.
use Rattle.std.specs.List.{AllByRecursion}
use Rattle.std.specs.Prelude.{slice_get}
use Rattle.std.proofs.Common.{◌≡◌, ℕ, zero, suc, List, [], ◌∷◌, ◌++◌, Some, None, Option, refl, sym, ap, ◌∙◌, subst}
use Rattle.changes.specs.declared.change.Change.{Change}
use Rattle.configuration.specs.declared.instrument.Instrument.{Instrument}
use Rattle.gateway.specs.Doing.{acted}
use Rattle.gateway.specs.Hearing.{firm}
use Rattle.gateway.specs.State.{State}
use Rattle.keyed.proofs.Under.{none-some, under-others}
use Rattle.keyed.specs.Numbers.{under}
use Rattle.gateway_runs.proofs.Acted.{Follows, On, OnLine, call_on}
use Rattle.gateway_runs.specs.Laws.{FirmOf, FirmsApart, line_of}
use Rattle.orders.specs.declared.row.Row.{Row}
use Rattle.texts.specs.declared.values.Time.{Time}
use Rattle.venue.specs.Acts.{Act, Open, Alter, Note, Take, Void, enact, enact_all, ledger_of}
use Rattle.venue.specs.Books.{Books, Sound}
use Rattle.venue.specs.Ledger.{Ledger, rewritten}

-- a row stays under its number when another comes behind
still_there : (rows : List Row) (x r : Row) (i : ℕ) → slice_get rows i ≡ Some r → slice_get (rows ++ x ∷ []) i ≡ Some r
still_there [] x r i e = none-some r e
still_there (y ∷ ys) x r zero e = e
still_there (y ∷ ys) x r (suc i) e = still_there ys x r i e

still_under : (rows : List Row) (x r : Row) (n : ℕ) → under rows n ≡ Some r → under (rows ++ x ∷ []) n ≡ Some r
still_under rows x r zero e = none-some r e
still_under rows x r (suc i) e = still_there rows x r i e

-- a change of another order leaves it
changed_apart : (is : List Instrument) (t : Time) (k : ℕ) (c : Change) (l : Ledger) (n : ℕ) (o : Option Row)
    → (n ≡ k → ⊥) → under (rewritten is t k c o l).rows n ≡ under l.rows n
changed_apart is t k c l n None ne = refl
changed_apart is t k c l n (Some x) ne = under-others l.rows k n x ne

module _ (s : State) (line n : ℕ) (r : Row) (sound : Sound s.venue) (was : under s.venue.rows n ≡ Some r)
    (apart : firm s r.terms.owner ≡ firm s line → ⊥) where
  -- the order of another firm is not the one that is changed
  others : (k : ℕ) → FirmOf s line (under s.venue.rows k) → n ≡ k → ⊥
  others k mine e = apart (subst (FirmOf s line) (ap (under s.venue.rows) (sym e) ∙ was) mine)

  act_apart : (t : Time) (a : Act) (b : Books) → OnLine s line a → under b.rows n ≡ Some r
      → under (enact t a b).rows n ≡ Some r
  act_apart t (Open terms ask) b f e = still_under b.rows _ r n e
  act_apart t (Alter k c) b (there, f) e =
      changed_apart b.instruments t k c (ledger_of b) n _ (others k (f.2 sound)) ∙ e
  act_apart t (Note p x) b f e = e
  act_apart t (Take x) b (there, f) e = absurd f
  act_apart t (Void k) b (there, f) e = absurd f

  acts_apart : (t : Time) (acts : List Act) (b : Books) → AllByRecursion (OnLine s line) acts → under b.rows n ≡ Some r
      → under (enact_all t acts b).rows n ≡ Some r
  acts_apart t [] b f e = e
  acts_apart t (a ∷ acts) b (x, f) e = acts_apart t acts (enact t a b) f (act_apart t a b x e)

pub firms_apart : FirmsApart
firms_apart s d w line n r sound (j, h) e was far =
    call_on (λ t u acts. w ≡ acted t acts u) (λ u acts. w ≡ u) (under w.venue.rows n ≡ Some r) s d does stays j h
  where
    before : (u : State) → u.venue ≡ s.venue → under u.venue.rows n ≡ Some r
    before u same = ap (λ (b : Books). under b.rows n) same ∙ was

    does : (t : Time) → Follows (λ u acts. w ≡ acted t acts u) (under w.venue.rows n ≡ Some r) s (On s (line_of d))
    does t u acts same f k =
        let g = subst (λ (o : Option ℕ). AllByRecursion (On s o) acts) e f in
        ap (λ (z : State). under z.venue.rows n) k
        ∙ acts_apart s line n r sound was far t acts u.venue g (before u same)

    stays : (u : State) → u.venue ≡ s.venue → w ≡ u → under w.venue.rows n ≡ Some r
    stays u same k = ap (λ (z : State). under z.venue.rows n) k ∙ before u same
