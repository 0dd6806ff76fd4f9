-- Owners are configured lines. Assumes nothing.
use Rattle.std.specs.Prelude.{slice_get, is_none, nat_lt}
use Rattle.std.proofs.Common.{◌≡◌, ◌⊎◌, inl, inr, ℕ, zero, suc, ◌+◌, ◌<◌, Bool, true, false, cond, eqb, List, [], ◌∷◌, ◌++◌, Some, None, Option, length, refl, sym, ap, ◌∙◌, subst}
use Rattle.std.proofs.lemmas.Bool.{eqb-true, eq-eqb}
use Rattle.changes.specs.Changes.{after}
use Rattle.changes.specs.Laws.{reports_of}
use Rattle.changes.specs.declared.change.Change.{Change}
use Rattle.changes.specs.declared.change.Change.TheVariants.{Accept, Replace, Withdraw, Fill, Undo}
use Rattle.codes.specs.declared.session.Partition.{Partition}
use Rattle.codes.specs.Session.{same_partition}
use Rattle.configuration.specs.declared.instrument.Instrument.{Instrument}
use Rattle.keyed.proofs.Under.{none-some, under-others}
use Rattle.keyed.specs.Numbers.{under, put_under}
use Rattle.gateway_runs.proofs.Leading.{Leads, call_leads}
use Rattle.gateway_runs.proofs.Lines.{same_many}
use Rattle.gateway_runs.proofs.Moving.{put_there}
use Rattle.gateway_runs.specs.Laws.{OfLines, StayOwned}
use Rattle.orders.specs.Orders.{replace_fault, fillable, undoable}
use Rattle.orders.specs.Rows.{accepted}
use Rattle.orders.specs.declared.row.Row.{Row}
use Rattle.orders.specs.declared.row.Terms.{Terms}
use Rattle.partitions.specs.PerPartition.{at}
use Rattle.reports.specs.declared.report.Entry.{Entry}
use Rattle.reports.specs.declared.report.ExecutionReport.{ExecutionReport}
use Rattle.reports.specs.declared.report.Report.TheVariants.{Execution}
use Rattle.store.specs.Kept.{Kept}
use Rattle.texts.specs.declared.values.Time.{Time}
use Rattle.venue.proofs.Recording.{same_or_apart, appended-here, appended-apart}
use Rattle.venue.specs.Ledger.{Ledger, appended, entries_of, told_at, told_in, rewritten}
use Rattle.venue.specs.Acts.{ledger_of}

-- ---- a change keeps the terms

if_same : (b : Bool) (x : Row) (terms : Terms) (r : Row) → x.terms ≡ terms → cond b (Some x) None ≡ Some r → r.terms
    ≡ terms
if_same true x terms r e h = let is : x ≡ r = cc in ap (λ (y : Row). y.terms) (sym is) ∙ e
if_same false x terms r e h = none-some r h

terms_stay : (n : ℕ) (c : Change) (b r : Row) → after n c (Some b) ≡ Some r → r.terms ≡ b.terms
terms_stay n (Accept t a) b r h = none-some r h
terms_stay n (Replace a) b r h = if_same (is_none (replace_fault a.quantity b)) _ b.terms r refl h
terms_stay n (Withdraw e i) b r h = if_same (nat_lt 0 b.leaves) _ b.terms r refl h
terms_stay n (Fill f) b r h = if_same (fillable f.quantity b) _ b.terms r refl h
terms_stay n (Undo u) b r h = if_same (undoable u.quantity b) _ b.terms r refl h

-- ---- reports of one owner

told_owner : (o : ℕ) (es : List ExecutionReport) (i : ℕ) (e : Entry) → slice_get (entries_of o es) i ≡ Some e → e.owner
    ≡ o
told_owner o [] i e h = none-some e h
told_owner o (x ∷ es) zero e h =
    let first : Entry = record { owner = o; report = Execution x } in
    let is : first ≡ e = cc in ap (λ (y : Entry). y.owner) (sym is)
told_owner o (x ∷ es) (suc i) e h = told_owner o es i e h

split : (xs ys : List Entry) (i : ℕ) (e : Entry) → slice_get (xs ++ ys) i ≡ Some e → (slice_get xs i ≡ Some e)
    ⊎ ((j : ℕ) × (slice_get ys j ≡ Some e))
split [] ys i e h = inr (i, h)
split (x ∷ xs) ys zero e h = inl h
split (x ∷ xs) ys (suc i) e h = split xs ys i e h

-- reports of which each is of one of so many lines
abbrev Of : ℕ → List Entry → Type 0
Of lines es = (i : ℕ) (e : Entry) → slice_get es i ≡ Some e → e.owner < lines

both_of : (lines : ℕ) (xs ys : List Entry) → Of lines xs → Of lines ys → Of lines (xs ++ ys)
both_of lines xs ys f g i e h = part (split xs ys i e h)
  where
    part : (slice_get xs i ≡ Some e) ⊎ ((j : ℕ) × (slice_get ys j ≡ Some e)) → e.owner < lines
    part (inl k) = f i e k
    part (inr (j, k)) = g j e k

told_of : (lines o : ℕ) (es : List ExecutionReport) → o < lines → Of lines (entries_of o es)
told_of lines o es l i e h = subst (λ x. x < lines) (sym (told_owner o es i e h)) l

abbrev AllOf : ℕ → Kept → Type 0
AllOf lines k = (p : Partition) → Of lines (at k p)

appended_at : (lines : ℕ) (k : Kept) (q p : Partition) (es : List Entry) → (q ≡ p) ⊎ (same_partition q p ≡ false)
    → AllOf lines k → Of lines es → Of lines (at (appended k q es) p)
appended_at lines k q p es (inl e) f g =
    subst (Of lines) (sym (subst (λ u. at (appended k q es) u ≡ at k u ++ es) e (appended-here k q es)))
    (both_of lines (at k p) es (f p) g)
appended_at lines k q p es (inr a) f g = subst (Of lines) (sym (appended-apart k q p es a)) (f p)

appended_of : (lines : ℕ) (k : Kept) (q : Partition) (es : List Entry) → AllOf lines k → Of lines es
    → AllOf lines (appended k q es)
appended_of lines k q es f g p = appended_at lines k q p es (same_or_apart q p) f g

told_all : (lines : ℕ) (t : Time) (c : Change) (r : Row) (i : Option Instrument) (k : Kept) → r.terms.owner < lines
    → AllOf lines k → AllOf lines (told_in t c r i k)
told_all lines t c r None k l f = f
told_all lines t c r (Some i) k l f =
    appended_of lines k i.partition (entries_of r.terms.owner (reports_of (told_at i t) c r)) f
    (told_of lines r.terms.owner (reports_of (told_at i t) c r) l)

-- from numbers to places, and back
placed : (lines : ℕ) (l : Ledger) → OfLines lines l → AllOf lines l.kept
placed lines l o p i e h = o.reports p (suc i) e h

numbered : (lines : ℕ) (k : Kept) → AllOf lines k → (p : Partition) (n : ℕ) (e : Entry) → under (at k p) n ≡ Some e
    → e.owner < lines
numbered lines k f p zero e h = none-some e h
numbered lines k f p (suc i) e h = f p i e h

-- ---- the steps

abbrev pub Stay : ℕ → Ledger → Ledger → Type 0
Stay lines l l' = OfLines lines l → OfLines lines l'

row_of : (lines : ℕ) (rows : List Row) (n : ℕ) (b r : Row) → under rows n ≡ Some b → r.terms.owner < lines
    → ((m : ℕ) (x : Row) → under rows m ≡ Some x → x.terms.owner < lines)
    → (m : ℕ) (x : Row) (same : Bool) → eqb m n ≡ same → under (put_under rows n r) m ≡ Some x → x.terms.owner < lines
row_of lines rows n b r was l f m x true e h =
    let is : m ≡ n = eqb-true m n e in
    let at_n : under (put_under rows n r) n ≡ Some x = subst (λ i. under (put_under rows n r) i ≡ Some x) is h in
    let it : r ≡ x = let g = sym (put_there rows n b r was) ∙ at_n in cc in
    subst (λ (y : Row). y.terms.owner < lines) it l
row_of lines rows n b r was l f m x false e h =
    f m x (sym (under-others rows n m r (λ k. let t : eqb m n
    ≡ true = eq-eqb m n k in absurd (let z : true ≡ false = sym t ∙ e in cc))) ∙ h)

changed_stay : (lines : ℕ) (is : List Instrument) (t : Time) (n : ℕ) (c : Change) (l : Ledger) (b o : Option Row)
    → ((k : ℕ) → after k c None ≡ None) → under l.rows n ≡ b → after n c b ≡ o
    → Stay lines l (rewritten is t n c o l)
changed_stay lines is t n c l b None k e h f = f
changed_stay lines is t n c l None (Some r) k e h f = none-some r (sym (k n) ∙ h)
changed_stay lines is t n c l (Some b) (Some r) k e h f =
    let owner : r.terms.owner < lines = subst (λ (x : Terms). x.owner < lines) (sym (terms_stay n c b r h))
    (f.orders n b e) in
    record {
      orders = λ m x g. row_of lines l.rows n b r e owner f.orders m x (eqb m n) refl g;
      reports = numbered lines _
          (told_all lines t c r (slice_get is r.terms.instrument) l.kept owner (placed lines l f));
    }

new_row : (lines : ℕ) (rows : List Row) (r : Row) → r.terms.owner < lines
    → ((m : ℕ) (x : Row) → under rows m ≡ Some x → x.terms.owner < lines) → (m : ℕ) (x : Row)
    → under (rows ++ r ∷ []) m ≡ Some x → x.terms.owner < lines
new_row lines rows r l f zero x h = none-some x h
new_row lines [] r l f (suc zero) x h = let is : r ≡ x = cc in subst (λ (y : Row). y.terms.owner < lines) is l
new_row lines [] r l f (suc (suc i)) x h = none-some x h
new_row lines (y ∷ ys) r l f (suc zero) x h = f 1 x h
new_row lines (y ∷ ys) r l f (suc (suc i)) x h = new_row lines ys r l (behind lines y ys f) (suc i) x h
  where
    behind : (lines : ℕ) (y : Row) (ys : List Row)
        → ((m : ℕ) (x : Row) → under (y ∷ ys) m ≡ Some x → x.terms.owner < lines) → (m : ℕ) (x : Row)
        → under ys m ≡ Some x
        → x.terms.owner < lines
    behind lines y ys f zero x h = none-some x h
    behind lines y ys f (suc m) x h = f (suc (suc m)) x h

one_of : (lines : ℕ) (e : Entry) → e.owner < lines → Of lines (e ∷ [])
one_of lines e l zero x h = let is : e ≡ x = cc in subst (λ (y : Entry). y.owner < lines) is l
one_of lines e l (suc i) x h = none-some x h

stay : (lines : ℕ) → Leads (Stay lines) lines
stay lines = record {
  same = λ l f. f;
  then = λ a b c f g o. g (f o);
  change = λ is t n c l k. changed_stay lines is t n c l (under l.rows n) (after n c (under l.rows n)) k refl refl;
  note = λ p e l h f. record {
    orders = f.orders;
    reports = numbered lines _ (appended_of lines l.kept p (e ∷ []) (placed lines l f) (one_of lines e h));
  };
  add = λ is t s a l h f. record {
    orders = new_row lines l.rows (accepted (length l.rows + 1) s a) h f.orders;
    reports = numbered lines _ (told_all lines t (Accept s a) (accepted (length l.rows + 1) s a)
        (slice_get is s.instrument) l.kept h (placed lines l f));
  };
}

pub stay_owned : StayOwned
stay_owned s d w h f =
    subst (λ n. OfLines n (ledger_of w.venue)) (sym (same_many s d w h))
    (call_leads (Stay (length s.lines)) s (stay (length s.lines)) d w h f)
