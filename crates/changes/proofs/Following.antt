-- Whoever folds the reports of a change knows the order as it is after it. Assumes nothing.
use Rattle.std.specs.Prelude.{◌-ℤ◌, is_none, nat_le, nat_lt}
use Rattle.std.proofs.Common.{◌≡◌, ℕ, ◌+◌, ◌-◌, ◌<◌, ◌≤◌, Bool, true, false, cond, ◌&&◌, ◌==◌, pos, [], ◌∷◌, Some, None, Ok, refl, sym, ap, ◌∙◌, subst, arith, leb-true, ltb-true, lt-ltb, le-leb}
use Rattle.std.proofs.lemmas.Bool.{and_parts, cond-true}
use Rattle.std.proofs.lemmas.Int.{ints}
use Rattle.std.specs.FinMap.{get, insert, len}
use Rattle.keyed.proofs.Keyed.{same, get-put, put-here}
use Rattle.codes.specs.declared.session.Partition.{Partition}
use Rattle.codes.specs.declared.report.Status.{Status}
use Rattle.limits.specs.declared.TheConstants.{ORDERS, SHARES}
use Rattle.orders.specs.declared.row.Row.{Row}
use Rattle.orders.specs.declared.row.Ask.{Ask}
use Rattle.orders.specs.declared.row.Terms.{Terms}
use Rattle.orders.specs.declared.row.Ending.TheVariants.{Cancelled, Expired}
use Rattle.terms.specs.declared.execution.Execution.TheVariants.{Restated}
use Rattle.orders.specs.Rows.{orderable, accepted, replaced, ended, filled, undone, status_of}
use Rattle.orders.specs.Orders.{fillable, undoable, replace_fault}
use Rattle.reports.specs.declared.report.ExecutionReport.{ExecutionReport}
use Rattle.reports.specs.declared.standing.Standing.{Standing}
use Rattle.reports.specs.declared.standing.Told.{Told}
use Rattle.reports.specs.Changes.{stands, changed, bounded, natural, filled_to, added}
use Rattle.reports.specs.Fold.{Knowledge, fold_order, fold_new, fold_known}
use Rattle.terms.specs.Execution.{kind_of}
use Rattle.changes.specs.declared.change.Change.{Change}
use Rattle.changes.specs.declared.change.Change.TheVariants.{Accept, Replace, Withdraw, Fill, Undo}
use Rattle.changes.specs.declared.change.Heading.{Heading}
use Rattle.changes.specs.Changes.{after}
use Rattle.changes.specs.Telling.{told_as, report_of}
use Rattle.changes.specs.Laws.{Knows, Follows, standing_of, reports_of, fold_all}
use Rattle.changes.proofs.Orderly.{figures, allowed}

-- ---- maps

twice : {V : Type 0} (b : Bool) (x y : V) → cond b x (cond b x y) ≡ cond b x y
twice true x y = refl
twice false x y = refl

insert_again : (k : Knowledge) (n : ℕ) (s : Standing) → insert (insert k n s) n s ≡ insert k n s
insert_again k n s =
    same _ _ (λ q. get-put (insert k n s) n (Some s) q ∙ ap (cond (n == q) (Some s)) (get-put k n (Some s) q)
    ∙ twice (n == q) (Some s) (get k q) ∙ sym (get-put k n (Some s) q))

-- ---- one report of an order that is known, or is new

known : (p : Partition) (t : Told) (k : Knowledge) (m n : ℕ) (s s' : Standing) → m ≡ n → get k n ≡ Some s
    → changed t s ≡ Some s' → fold_order p t k m (get k m) ≡ Ok (insert k n s')
known p t k m n s s' e g c = ap (λ i. fold_order p t k i (get k i)) e ∙ ap (fold_order p t k n) g
    ∙ ap (fold_known k n) c

new : (p : Partition) (t : Told) (k : Knowledge) (n : ℕ) (s : Standing) → get k n ≡ None → added p t ≡ Some s
    → len k < ORDERS → fold_order p t k n (get k n) ≡ Ok (insert k n s)
new p t k n s g a l = ap (fold_order p t k n) g ∙ ap (fold_new k n) a ∙ cond-true _ _ _ (lt-ltb (len k) ORDERS l)

-- ---- figures

within_bounds : (p : Partition) (s : Status) (l e : ℕ) → e ≤ SHARES → bounded p s l (Some e) ≡ Some (stands p s e l)
within_bounds p s l e h = cond-true _ _ _ (le-leb e SHARES h)

taken_off : (q l e : ℕ) (p : Partition) (s : Status) → (nat_lt 0 q && nat_le q l) ≡ true
    → filled_to (Some q) (l - q) (stands p s e l) ≡ Some (e + q)
taken_off q l e p s h =
    let f = and_parts (nat_lt 0 q) (nat_le q l) h in
    let a = ltb-true 0 q f.0 in
    let b = leb-true q l f.1 in
    grind arith

given_back : (q e : ℕ) → q ≤ e → natural (pos e -ℤ pos q) ≡ Some (e - q)
given_back q e h = grind (arith, ints)

-- ---- each change

abbrev tells : ExecutionReport → Told
tells e =
    record { order = e.order; kind = kind_of e.execution; status = e.status; quantity = e.quantity; leaves = e.leaves }

accepts : (p : Partition) (t : Heading) (n : ℕ) (m : Terms) (a : Ask) (k : Knowledge) → Knows p n None k
    → fold_all p (reports_of t (Accept m a) (accepted n m a)) (Ok k) ≡ Ok (insert k n (standing_of p (accepted n m a)))
accepts p t n m a k w =
    let x = accepted n m a in
    new p (tells (report_of t (Accept m a) x)) k n (standing_of p x) w.stands refl (w.room refl)

changes : (p : Partition) (t : Heading) (n : ℕ) (c : Change) (b r : Row) (k : Knowledge) → Knows p n (Some b) k
    → after n c (Some b) ≡ Some r → fold_all p (reports_of t c r) (Ok k) ≡ Ok (insert k n (standing_of p r))
changes p t n (Accept m a) b r k w h = absurd (cc)
changes p t n (Replace a) b r k w h =
    let q = allowed (is_none (replace_fault a.quantity b)) _ _ h in
    let f = figures b w.number.1 in
    subst (λ x. fold_all p (reports_of t (Replace a) x) (Ok k) ≡ Ok (insert k n (standing_of p x))) q.1
    (known p (tells (report_of t (Replace a) (replaced a b))) k b.number n (standing_of p b)
    (standing_of p (replaced a b)) w.number.0 w.stands (within_bounds p _ _ b.executed (omega (arith, f.sum, f.limit))))
changes p t n (Withdraw Cancelled i) b r k w h =
    let q = allowed (nat_lt 0 b.leaves) _ _ h in
    let f = figures b w.number.1 in
    subst (λ x. fold_all p (reports_of t (Withdraw Cancelled i) x) (Ok k) ≡ Ok (insert k n (standing_of p x))) q.1
    (known p (tells (report_of t (Withdraw Cancelled i) (ended Cancelled b))) k b.number n (standing_of p b)
    (standing_of p (ended Cancelled b)) w.number.0 w.stands
    (within_bounds p _ _ b.executed (omega (arith, f.sum, f.limit))))
changes p t n (Withdraw Expired i) b r k w h =
    let q = allowed (nat_lt 0 b.leaves) _ _ h in
    let f = figures b w.number.1 in
    subst (λ x. fold_all p (reports_of t (Withdraw Expired i) x) (Ok k) ≡ Ok (insert k n (standing_of p x))) q.1
    (known p (tells (report_of t (Withdraw Expired i) (ended Expired b))) k b.number n (standing_of p b)
    (standing_of p (ended Expired b)) w.number.0 w.stands
    (within_bounds p _ _ b.executed (omega (arith, f.sum, f.limit))))
changes p t n (Fill g) b r k w h =
    let q = allowed (fillable g.quantity b) _ _ h in
    let f = figures b w.number.1 in
    let l = leb-true g.quantity b.leaves (and_parts (nat_lt 0 g.quantity) (nat_le g.quantity b.leaves) q.0).1 in
    subst (λ x. fold_all p (reports_of t (Fill g) x) (Ok k) ≡ Ok (insert k n (standing_of p x))) q.1
    (known p (tells (report_of t (Fill g) (filled g.quantity b))) k b.number n (standing_of p b)
    (standing_of p (filled g.quantity b)) w.number.0 w.stands
    (ap (bounded p _ (b.leaves - g.quantity)) (taken_off g.quantity b.leaves b.executed p (status_of b) q.0)
    ∙ within_bounds p _ _ (b.executed + g.quantity) (omega (arith, f.sum, f.limit, l))))
changes p t n (Undo u) b r k w h =
    let q = allowed (undoable u.quantity b) _ _ h in
    let f = figures b w.number.1 in
    let l = leb-true u.quantity b.executed (and_parts (nat_lt 0 u.quantity) (nat_le u.quantity b.executed) q.0).1 in
    let x = undone u.quantity b in
    let s = standing_of p x in
    let first = known p (tells (report_of t (Undo u) x)) k b.number n (standing_of p b) s w.number.0 w.stands
    (ap (bounded p _ b.leaves) (given_back u.quantity b.executed l) ∙ within_bounds p _ _ (b.executed - u.quantity)
    (omega (arith, f.sum, f.limit))) in
    let second = known p (tells (told_as t x.client Restated x)) (insert k n s) b.number n s s w.number.0
    (put-here k n (Some s)) (within_bounds p _ _ (b.executed - u.quantity) (omega (arith, f.sum, f.limit))) in
    subst (λ y. fold_all p (reports_of t (Undo u) y) (Ok k) ≡ Ok (insert k n (standing_of p y))) q.1
    (ap (fold_all p (told_as t x.client Restated x ∷ [])) first ∙ second ∙ ap Ok (insert_again k n s))

firsts : (p : Partition) (t : Heading) (n : ℕ) (c : Change) (r : Row) (k : Knowledge) → Knows p n None k → after n c None
    ≡ Some r → fold_all p (reports_of t c r) (Ok k) ≡ Ok (insert k n (standing_of p r))
firsts p t n (Accept m a) r k w h =
    let q = allowed (orderable a.quantity) _ _ h in
    subst (λ x. fold_all p (reports_of t (Accept m a) x) (Ok k) ≡ Ok (insert k n (standing_of p x))) q.1
    (accepts p t n m a k w)
firsts p t n (Replace a) r k w h = absurd (cc)
firsts p t n (Withdraw e i) r k w h = absurd (cc)
firsts p t n (Fill g) r k w h = absurd (cc)
firsts p t n (Undo u) r k w h = absurd (cc)

pub follows : Follows
follows p t n c None r k w h = firsts p t n c r k w h
follows p t n c (Some b) r k w h = changes p t n c b r k w h
