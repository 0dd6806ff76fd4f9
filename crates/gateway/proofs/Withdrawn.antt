-- Which orders are open after those of a kind were withdrawn. Assumes nothing.
use Rattle.std.proofs.Common.{◌≡◌, ℕ, zero, suc, ◌+◌, ◌<◌, Bool, true, false, ◌&&◌, cond, eqb, List, [], ◌∷◌, length, map, Some, None, Option, refl, sym, ap, ◌∙◌, arith}
use Rattle.std.specs.Prelude.{filter, not, slice_get}
use Rattle.std.specs.List.{sum_by}
use Rattle.std.specs.Option.{option_map_or}
use Rattle.std.proofs.lemmas.Bool.{and_parts, eqb-true}
use Rattle.changes.specs.Changes.{after}
use Rattle.changes.specs.declared.change.Change.TheVariants.{Withdraw}
use Rattle.codes.specs.declared.session.Partition.{Partition}
use Rattle.configuration.specs.declared.instrument.Instrument.{Instrument}
use Rattle.gateway.specs.Counting.{going_in, is_in}
use Rattle.gateway.specs.Foretelling.{is_gone}
use Rattle.gateway.specs.declared.preview.Going.{Going}
use Rattle.keyed.proofs.Under.{none-some}
use Rattle.keyed.specs.Numbers.{put_under, under}
use Rattle.orders.proofs.Kept.{kept_at}
use Rattle.orders.specs.Kept.{kept_from}
use Rattle.orders.specs.Rows.{ended, is_open, orderly}
use Rattle.orders.specs.declared.row.Ending.{Ending}
use Rattle.orders.specs.declared.row.Ending.TheVariants.{Cancelled, Expired}
use Rattle.orders.specs.declared.row.Row.{Row}
use Rattle.requests.proofs.Found.{parts}
use Rattle.requests.proofs.Sweeping.{ended_apart}
use Rattle.requests.specs.Selection.{ended_for, withdrawals}
use Rattle.requests.specs.declared.selection.Cause.{Cause}
use Rattle.requests.specs.declared.selection.Cause.TheVariants.{Request, LineLost}
use Rattle.texts.specs.declared.fixed.FixedText.{FixedText}
use Rattle.texts.specs.declared.values.Time.{Time}
use Rattle.venue.specs.Acts.{enact, enact_all, ledger_of}
use Rattle.venue.specs.Books.{Books}
use Rattle.venue.specs.Ledger.{Ledger, rewritten}

-- ---- one withdrawal

abbrev open_as : Option Row → Bool
open_as o = option_map_or is_open o false

put_there : (rows : List Row) (n : ℕ) (x r : Row) → under rows n ≡ Some x → under (put_under rows n r) n ≡ Some r
put_there rows zero x r h = none-some x h
put_there [] (suc n) x r h = none-some x h
put_there (y ∷ rows) (suc zero) x r h = refl
put_there (y ∷ rows) (suc (suc n)) x r h = put_there rows (suc n) x r h

withdrawn : (t : Time) (n : ℕ) (e : Ending) (c : FixedText 20) (is : List Instrument) (l : Ledger)
    → open_as (under (rewritten is t n (Withdraw e c) (after n (Withdraw e c) (under l.rows n)) l).rows n) ≡ false
withdrawn t n e c is l = by_row (under l.rows n) refl
  where
    by_open : (r : Row) (b : Bool) → under l.rows n ≡ Some r → is_open r ≡ b
        → open_as (under (rewritten is t n (Withdraw e c) (cond b (Some (ended e r)) None) l).rows n) ≡ false
    by_open r true h k = ap open_as (put_there l.rows n r (ended e r) h)
    by_open r false h k = ap open_as h ∙ k

    by_row : (o : Option Row) → under l.rows n ≡ o
        → open_as (under (rewritten is t n (Withdraw e c) (after n (Withdraw e c) o) l).rows n) ≡ false
    by_row None h = ap open_as h
    by_row (Some r) h = by_open r (is_open r) h refl

closed : (t : Time) (c : Cause) (r : Row) (b : Books) (n : ℕ) → n ≡ r.number
    → open_as (under (enact t (ended_for c r) b).rows n) ≡ false
closed t (Request i) r b n e =
    ap (λ k. open_as (under (enact t (ended_for (Request i) r) b).rows k)) e
    ∙ withdrawn t r.number Cancelled i b.instruments (ledger_of b)
closed t LineLost r b n e =
    ap (λ k. open_as (under (enact t (ended_for LineLost r) b).rows k)) e
    ∙ withdrawn t r.number Expired r.client b.instruments (ledger_of b)

-- ---- those of which q is true

-- each of them is open
pub record OnlyOpen (q : Row → Bool) : Type 0 where
  pub is : (r : Row) → q r ≡ true → is_open r ≡ true

module _ (t : Time) (q : Row → Bool) (c : Cause) where
  -- a number below those of the rows is not touched
  below : (k m : ℕ) (rs : List Row) (b : Books) → kept_from k rs ≡ true → m < k
      → under (enact_all t (withdrawals q c rs) b).rows m ≡ under b.rows m
  below k m [] b h lt = refl
  below k m (x ∷ rs) b h lt =
      let p = parts k x rs h in go (q x) p.0 (λ d. below (suc k) m rs d p.1 (omega arith))
    where
      go : (a : Bool) → x.number ≡ k
          → ((d : Books) → under (enact_all t (withdrawals q c rs) d).rows m ≡ under d.rows m)
          → under (enact_all t (map (ended_for c) (cond a (x ∷ filter q rs) (filter q rs))) b).rows m ≡ under b.rows m
      go true p rest = rest (enact t (ended_for c x) b) ∙ ended_apart t c x m b (λ e. omega arith)
      go false p rest = rest b

  -- of the rows those are open no more of which q is true
  swept_open : (k i m : ℕ) (rs : List Row) (r : Row) (b : Books) → kept_from k rs ≡ true → m ≡ k + i
      → slice_get rs i ≡ Some r
      → open_as (under (enact_all t (withdrawals q c rs) b).rows m) ≡ cond (q r) false (open_as (under b.rows m))
  swept_open k i m [] r b h n e = none-some r e
  swept_open k zero m (x ∷ rs) r b h n e =
      let p = parts k x rs h in
      let is : x ≡ r = cc in
      first (q x) p.0 (λ d. below (suc k) m rs d p.1 (omega arith))
      ∙ ap (λ (y : Row). cond (q y) false (open_as (under b.rows m))) is
    where
      first : (a : Bool) → x.number ≡ k
          → ((d : Books) → under (enact_all t (withdrawals q c rs) d).rows m ≡ under d.rows m)
          → open_as (under (enact_all t (map (ended_for c) (cond a (x ∷ filter q rs) (filter q rs))) b).rows m)
          ≡ cond a false (open_as (under b.rows m))
      first true p rest = ap open_as (rest (enact t (ended_for c x) b)) ∙ closed t c x b m (omega arith)
      first false p rest = ap open_as (rest b)
  swept_open k (suc i) m (x ∷ rs) r b h n e =
      let p = parts k x rs h in later (q x) p.0 (λ d. swept_open (suc k) i m rs r d p.1 (omega arith) e)
    where
      later : (a : Bool) → x.number ≡ k
          → ((d : Books) → open_as (under (enact_all t (withdrawals q c rs) d).rows m)
          ≡ cond (q r) false (open_as (under d.rows m)))
          → open_as (under (enact_all t (map (ended_for c) (cond a (x ∷ filter q rs) (filter q rs))) b).rows m)
          ≡ cond (q r) false (open_as (under b.rows m))
      later true p rest =
          rest (enact t (ended_for c x) b)
          ∙ ap (λ o. cond (q r) false (open_as o)) (ended_apart t c x m b (λ f. omega arith))
      later false p rest = rest b

  swept_gone : (i : ℕ) (r : Row) (b : Books) → OnlyOpen q → kept_from 1 b.rows ≡ true → slice_get b.rows i ≡ Some r
      → q r ≡ is_gone (enact_all t (withdrawals q c b.rows) b).rows r
  swept_gone i r b only h e =
      let n : r.number ≡ suc i = (kept_at b.rows (suc i) r h e).0 in
      let after-it = ap (λ k. open_as (under (enact_all t (withdrawals q c b.rows) b).rows k)) n
      ∙ swept_open 1 i (suc i) b.rows r b h (omega arith) e ∙ ap (λ o. cond (q r) false (open_as o)) e in
      by_test (q r) refl (only.is r) ∙ ap (λ x. is_open r && not x) (sym after-it)
    where
      by_open : (x : Bool) → false ≡ (x && not x)
      by_open true = refl
      by_open false = refl

      by_test : (a : Bool) → q r ≡ a → (q r ≡ true → is_open r ≡ true)
          → q r ≡ (is_open r && not (cond (q r) false (is_open r)))
      by_test true k only = let o = only k in cc
      by_test false k only = let o = by_open (is_open r) in cc

-- ---- how many they are

same_filter : (f g : Row → Bool) (rows : List Row) → ((i : ℕ) (r : Row) → slice_get rows i ≡ Some r → f r ≡ g r)
    → filter f rows ≡ filter g rows
same_filter f g [] h = refl
same_filter f g (x ∷ rows) h = go (f x) (g x) (h zero x refl) (same_filter f g rows (λ i. h (suc i)))
  where
    go : (a b : Bool) → a ≡ b → filter f rows ≡ filter g rows
        → cond a (x ∷ filter f rows) (filter f rows) ≡ cond b (x ∷ filter g rows) (filter g rows)
    go a b e k = cc

abbrev tally : List Row → Going
tally rs = record { orders = length rs; shares = sum_by (λ (r : Row). r.leaves) rs }

same_going : (f g : Row → Bool) (is : List Instrument) (rows : List Row) (p : Partition)
    → ((i : ℕ) (r : Row) → slice_get rows i ≡ Some r → f r ≡ g r) → going_in f is rows p ≡ going_in g is rows p
same_going f g is rows p h =
    ap tally
    (same_filter (λ (r : Row). f r && is_in p (slice_get is r.terms.instrument))
    (λ (r : Row). g r && is_in p (slice_get is r.terms.instrument)) rows
    (λ i r e. ap (λ b. b && is_in p (slice_get is r.terms.instrument)) (h i r e)))

-- what goes where those are withdrawn of which q is true
pub swept_going : (t : Time) (q : Row → Bool) (c : Cause) (is : List Instrument) (b : Books) (p : Partition)
    → OnlyOpen q → kept_from 1 b.rows ≡ true
    → going_in q is b.rows p ≡ going_in (is_gone (enact_all t (withdrawals q c b.rows) b).rows) is b.rows p
swept_going t q c is b p only h =
    same_going q (is_gone (enact_all t (withdrawals q c b.rows) b).rows) is b.rows p
    (λ i r e. swept_gone t q c i r b only h e)

-- and where none is
none_of : (is : List Instrument) (rows : List Row) (p : Partition)
    → going_in (λ r. false) is rows p ≡ record { orders = 0; shares = 0 }
none_of is rows p = ap tally (nothing rows)
  where
    nothing : (rs : List Row) → filter (λ (r : Row). false && is_in p (slice_get is r.terms.instrument)) rs ≡ []
    nothing [] = refl
    nothing (x ∷ rs) = nothing rs

pub none_going : (is : List Instrument) (rows : List Row) (p : Partition) → kept_from 1 rows ≡ true
    → record { orders = 0; shares = 0 } ≡ going_in (is_gone rows) is rows p
none_going is rows p h = sym (none_of is rows p) ∙ same_going (λ r. false) (is_gone rows) is rows p there
  where
    by_open : (x : Bool) → false ≡ (x && not x)
    by_open true = refl
    by_open false = refl

    there : (i : ℕ) (r : Row) → slice_get rows i ≡ Some r → false ≡ is_gone rows r
    there i r e =
        let n : r.number ≡ suc i = (kept_at rows (suc i) r h e).0 in
        by_open (is_open r)
        ∙ ap (λ o. is_open r && not (open_as o)) (sym (ap (under rows) n ∙ e))
