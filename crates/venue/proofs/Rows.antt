-- What a change does to the rows. Assumes nothing.
use Rattle.std.specs.Prelude.{is_none, nat_le, nat_lt, slice_get}
use Rattle.std.proofs.Common.{◌≡◌, ℕ, zero, suc, ◌+◌, ◌<◌, true, List, [], ◌∷◌, ◌++◌, length, length-append, set, Some, None, Option, refl, sym, ap, ◌∙◌, subst, arith, get_or, leb-true, ltb-true}
use Rattle.std.proofs.lemmas.Bool.{and_parts, cond-true}
use Rattle.std.proofs.lemmas.Option.{slice_get-get_or}
use Rattle.texts.specs.declared.values.Time.{Time}
use Rattle.keyed.specs.Numbers.{under, put_under}
use Rattle.keyed.proofs.Under.{none-some, under-others}
use Rattle.limits.specs.declared.TheConstants.{ORDERS, SHARES}
use Rattle.orders.specs.declared.row.Row.{Row}
use Rattle.orders.specs.declared.row.Ask.{Ask}
use Rattle.orders.specs.declared.row.Terms.{Terms}
use Rattle.orders.specs.Rows.{orderly, orderable, accepted, replaced, ended, filled, undone}
use Rattle.orders.specs.Orders.{fillable, undoable, replace_fault}
use Rattle.orders.specs.Kept.{kept_from}
use Rattle.orders.proofs.Kept.{kept_at, kept_push, kept_set}
use Rattle.changes.specs.declared.change.Change.{Change}
use Rattle.changes.specs.declared.change.Change.TheVariants.{Accept, Replace, Withdraw, Fill, Undo}
use Rattle.changes.specs.declared.change.Heading.{Heading}
use Rattle.changes.specs.Changes.{after}
use Rattle.changes.specs.Telling.{report_of, restated_of}
use Rattle.changes.specs.Laws.{and_also}
use Rattle.reports.specs.declared.report.ExecutionReport.{ExecutionReport}
use Rattle.changes.proofs.Orderly.{figures, orderly_from, allowed, replaced_figures}
use Rattle.configuration.specs.declared.instrument.Instrument.{Instrument}
use Rattle.venue.specs.Ledger.{Ledger, ledger, report_count, told_at, told_in, appended, entries_of, changed, rewritten}
use Rattle.venue.proofs.Recording.{Rewrites}

-- ---- a list under numbers

module _ {X : Type 0} where
  pub put-here : (xs : List X) (n : ℕ) (x y : X) → under xs n ≡ Some x → under (put_under xs n y) n ≡ Some y
  put-here xs zero x y e = none-some x e
  put-here [] (suc n) x y e = none-some x e
  put-here (z ∷ xs) (suc zero) x y e = refl
  put-here (z ∷ xs) (suc (suc n)) x y e = put-here xs (suc n) x y e

  pub put-length : (xs : List X) (n : ℕ) (y : X) → length (put_under xs n y) ≡ length xs
  put-length xs zero y = refl
  put-length [] (suc n) y = refl
  put-length (z ∷ xs) (suc zero) y = refl
  put-length (z ∷ xs) (suc (suc n)) y = ap suc (put-length xs (suc n) y)

  pub push_here : (xs : List X) (n : ℕ) (y : X) → n ≡ length xs + 1 → under (xs ++ y ∷ []) n ≡ Some y
  push_here xs zero y e = absurd (let no : ⊥ = omega arith in no)
  push_here [] (suc zero) y e = refl
  push_here [] (suc (suc n)) y e = absurd (let no : ⊥ = omega arith in no)
  push_here (z ∷ xs) (suc zero) y e = absurd (let no : ⊥ = omega arith in no)
  push_here (z ∷ xs) (suc (suc n)) y e = push_here xs (suc n) y (omega arith)

  pub push_apart : (xs : List X) (m : ℕ) (y : X) → (m ≡ length xs + 1 → ⊥) → under (xs ++ y ∷ []) m ≡ under xs m
  push_apart xs zero y ne = refl
  push_apart [] (suc zero) y ne = absurd (ne refl)
  push_apart [] (suc (suc m)) y ne = refl
  push_apart (z ∷ xs) (suc zero) y ne = refl
  push_apart (z ∷ xs) (suc (suc m)) y ne = push_apart xs (suc m) y (λ e. ne (omega arith))

  pub past_none : (xs : List X) (n : ℕ) → length xs < n → under xs n ≡ None
  past_none xs zero h = absurd (let no : ⊥ = omega arith in no)
  past_none [] (suc n) h = refl
  past_none (z ∷ xs) (suc zero) h = absurd (let no : ⊥ = omega arith in no)
  past_none (z ∷ xs) (suc (suc n)) h = past_none xs (suc n) (omega arith)

-- ---- what a change keeps of an order

pub record Keeps (b r : Row) : Type 0 where
  pub number : r.number ≡ b.number
  pub terms : r.terms ≡ b.terms
  pub orderly : orderly r ≡ true

as_is : (b x : Row) → orderly x ≡ true → x.number ≡ b.number → x.terms ≡ b.terms → (r : Row) → x ≡ r → Keeps b r
as_is b x o n t r e = subst (Keeps b) e (record { number = n; terms = t; orderly = o })

pub keeps : (n : ℕ) (c : Change) (b r : Row) → orderly b ≡ true → after n c (Some b) ≡ Some r → Keeps b r
keeps n (Accept t a) b r o h = absurd (cc)
keeps n (Replace a) b r o h =
    let q = allowed (is_none (replace_fault a.quantity b)) _ _ h in
    as_is b (replaced a b) (orderly_from (replaced a b) (replaced_figures a b o q.0)) refl refl r q.1
keeps n (Withdraw e i) b r o h =
    let q = allowed (nat_lt 0 b.leaves) _ _ h in
    let f = figures b o in
    as_is b (ended e b) (orderly_from (ended e b)
    (record {
      sum = omega (arith, f.sum);
      limit = f.limit;
      whole = λ x. absurd
          (let no : ⊥ = omega (arith, x) in no);
    })) refl refl r q.1
keeps n (Fill g) b r o h =
    let q = allowed (fillable g.quantity b) _ _ h in
    let f = figures b o in
    let p = and_parts (nat_lt 0 g.quantity) (nat_le g.quantity b.leaves) q.0 in
    let l = leb-true g.quantity b.leaves p.1 in
    let m = ltb-true 0 g.quantity p.0 in
    as_is b (filled g.quantity b) (orderly_from (filled g.quantity b)
    (record { sum = omega (arith, f.sum, l); limit = f.limit; whole = λ x. f.whole (omega (arith, l, m)) })) refl refl
    r q.1
keeps n (Undo u) b r o h =
    let q = allowed (undoable u.quantity b) _ _ h in
    let f = figures b o in
    let p = and_parts (nat_lt 0 u.quantity) (nat_le u.quantity b.executed) q.0 in
    let l = leb-true u.quantity b.executed p.1 in
    as_is b (undone u.quantity b) (orderly_from (undone u.quantity b)
    (record { sum = omega (arith, f.sum, l); limit = omega (arith, f.limit); whole = f.whole })) refl refl r q.1

-- ---- a change of an order that is there

kept_put : (rows : List Row) (n : ℕ) (b r : Row) → kept_from 1 rows ≡ true → under rows n ≡ Some b → r.number ≡ n
    → orderly r ≡ true → kept_from 1 (put_under rows n r) ≡ true
kept_put rows zero b r h e a o = none-some b e
kept_put rows (suc n) b r h e a o = kept_set rows (set rows n r) n r h refl (omega arith) o

pub rewrites_there : (is : List Instrument) (n : ℕ) (c : Change) (rows : List Row) (b r : Row) (i : Instrument)
    → kept_from 1 rows ≡ true → under rows n ≡ Some b → b.terms.instrument < length is
    → after n c (Some b) ≡ Some r → slice_get is r.terms.instrument ≡ Some i
    → Rewrites is n c rows r i (put_under rows n r)
rewrites_there is n c rows b r i k e inside h at_i =
    let was = kept_at rows n b k e in
    let w = keeps n c b r was.1 h in
    record {
      here = put-here rows n b r e;
      apart = λ m ne. under-others rows n m r ne;
      numbered = kept_put rows n b r k e (w.number ∙ was.0) w.orderly;
      made = ap (after n c) e ∙ h;
      instrument = at_i;
      inside = subst (λ (t : Terms). t.instrument < length is) (sym w.terms) inside;
      terms = λ x f. let same : b ≡ x = let g = sym e ∙ f in cc in ap (λ (y : Row). y.terms) (sym same) ∙ sym w.terms;
      longer = let l = put-length rows n r in omega arith;
      new = λ none. none-some b (sym none ∙ e);
    }

-- ---- a new order

pub rewrites_new : (is : List Instrument) (rows : List Row) (t : Terms) (a : Ask) (i : Instrument) → kept_from 1 rows
    ≡ true → length rows < ORDERS → orderable a.quantity ≡ true → t.instrument < length is → slice_get is t.instrument
    ≡ Some i
    → Rewrites is (length rows + 1) (Accept t a) rows (accepted (length rows + 1) t a) i
    (rows ++ accepted (length rows + 1) t a ∷ [])
rewrites_new is rows t a i k room q inside at_i =
    let n = length rows + 1 in
    let none : under rows (length rows + 1) ≡ None = past_none rows _ (omega arith) in
    let x = accepted (length rows + 1) t a in
    let l = leb-true a.quantity SHARES (and_parts (nat_lt 0 a.quantity) (nat_le a.quantity SHARES) q).1 in
    record {
      here = push_here rows _ x refl;
      apart = λ m ne. push_apart rows m x ne;
      numbered = kept_push rows _ x k refl refl
          (orderly_from x (record { sum = omega arith; limit = l; whole = λ y. (refl, refl) }));
      made = ap (after (length rows + 1) (Accept t a)) none ∙ cond-true _ _ _ q;
      instrument = at_i;
      inside = inside;
      terms = λ b e. none-some b (sym none ∙ e);
      longer = omega (arith, length-append {A = Row});
      new = λ e. (room, length-append rows (x ∷ []));
    }

-- the row and the reports that were written are those of the change
pub change_told : (is : List Instrument) (t : Time) (n : ℕ) (c : Change) (l l' : Ledger) (b b' r : Row)
    (i : Instrument) (e : ExecutionReport) (f : Option ExecutionReport) → kept_from 1 l.rows ≡ true → Some b
    ≡ under l.rows n → b' ≡ b
    → i ≡ get_or is b'.terms.instrument i → b'.terms.instrument < length is → after n c (Some b) ≡ Some r → e
    ≡ report_of (told_at i t) c r → f ≡ restated_of (told_at i t) c r
    → l'.rows ≡ put_under l.rows r.number r → l'.kept
    ≡ appended l.kept i.partition (entries_of b'.terms.owner (and_also e f)) → l' ≡ changed is t n c l
change_told is t n c l l' b b' r i e f k at_n same at_i inside made told again rows kept =
    let was = kept_at l.rows n b k (sym at_n) in
    let w = keeps n c b r was.1 made in
    let terms : r.terms ≡ b'.terms = w.terms ∙ ap (λ (x : Row). x.terms) (sym same) in
    let there : slice_get is r.terms.instrument
    ≡ Some i = ap (λ (x : Terms). slice_get is x.instrument) terms ∙ slice_get-get_or is b'.terms.instrument i inside ∙
    ap Some (sym at_i) in
    let first : l'.rows ≡ put_under l.rows n r = rows ∙ ap (λ m. put_under l.rows m r) (w.number ∙ was.0) in
    let second : l'.kept ≡ told_in t c r (slice_get is r.terms.instrument) l.kept =
    kept ∙ ap (λ (x : Terms). appended l.kept i.partition (entries_of x.owner (and_also e f))) (sym terms)
    ∙ ap (λ x. appended l.kept i.partition (entries_of r.terms.owner (and_also x f))) told
    ∙ ap (λ x. appended l.kept i.partition (entries_of r.terms.owner (and_also (report_of (told_at i t) c r) x))) again
    ∙ sym (ap (λ o. told_in t c r o l.kept) there) in
    ap (λ x. ledger x l'.kept) first ∙ ap (λ x. ledger (put_under l.rows n r) x) second
    ∙ sym (ap (λ x. rewritten is t n c (after n c x) l) (sym at_n) ∙ ap (λ x. rewritten is t n c x l) made)

-- as many reports tell it as are counted
pub told_count : (t : Heading) (c : Change) (r : Row) (e : ExecutionReport) (f : Option ExecutionReport)
    → f ≡ restated_of t c r → length (and_also e f) ≡ report_count c
told_count t (Accept s a) r e f h = ap (λ x. length (and_also e x)) h
told_count t (Replace a) r e f h = ap (λ x. length (and_also e x)) h
told_count t (Withdraw d i) r e f h = ap (λ x. length (and_also e x)) h
told_count t (Fill g) r e f h = ap (λ x. length (and_also e x)) h
told_count t (Undo u) r e f h = ap (λ x. length (and_also e x)) h
