-- What is kept over a list of changes of one order. Assumes nothing.
use Rattle.std.proofs.Common.{◌≡◌, ℕ, ◌+◌, true, false, not, List, [], ◌∷◌, Some, None, refl, ap, ◌∙◌, arith, subst, leb-true, ltb-true}
use Rattle.std.specs.Prelude.{is_none, nat_le, nat_lt, sum_by}
use Rattle.std.proofs.lemmas.Bool.{and_parts, cond-true}
use Rattle.std.proofs.lemmas.List.Sums.{sum_by-cons, take_while-cons}
use Rattle.std.specs.List.{take_while}
use Rattle.limits.specs.declared.TheConstants.{SHARES}
use Rattle.orders.specs.declared.row.Row.{Row}
use Rattle.orders.specs.declared.row.Terms.{Terms}
use Rattle.orders.specs.declared.row.Ask.{Ask}
use Rattle.orders.specs.Rows.{orderable, accepted, replaced, ended, filled, undone}
use Rattle.orders.specs.Orders.{fillable, undoable, replace_fault}
use Rattle.changes.specs.declared.change.Change.{Change}
use Rattle.changes.specs.declared.change.Change.TheVariants.{Accept, Replace, Withdraw, Fill, Undo}
use Rattle.changes.specs.Changes.{after}
use Rattle.changes.specs.Laws.{Makes, Conserved, Conserves, accepts, all_filled, all_undone, filled_by, undone_by, undone_since}
use Rattle.changes.proofs.Orderly.{figures, orderly_from, allowed, replaceable, replaced_figures}

none_made : (n : ℕ) (cs : List Change) → Makes n cs None → (all_filled cs ≡ 0) × (all_undone cs ≡ 0)
none_made n [] m = (refl, refl)
none_made n (c ∷ cs) m = absurd (cc)

taken : (n : ℕ) (t : Terms) (a : Ask) (cs : List Change) → Makes n cs None → orderable a.quantity ≡ true
    → Conserved (Accept t a ∷ cs) (accepted n t a)
taken n t a cs m o =
    let z = none_made n cs m in
    let l = leb-true a.quantity SHARES (and_parts (nat_lt 0 a.quantity) (nat_le a.quantity SHARES) o).1 in record {
      accepted = omega arith;
      executed = omega (arith, z.0, z.1);
      orderly = orderly_from (accepted n t a) (record { sum = omega arith; limit = l; whole = λ h. (refl, refl) });
    }

-- what was undone since the newest quantity grows by what a change undoes that puts none in force
carried : (c : Change) (cs : List Change) → accepts c ≡ false
    → undone_since (c ∷ cs) ≡ undone_by c + undone_since cs
carried c cs h =
    let on = λ (d : Change). not (accepts d) in
    ap (sum_by undone_by) (take_while-cons on c cs ∙ cond-true (on c) _ _ (ap not h))
    ∙ sum_by-cons undone_by c (take_while on cs)

steps : (n : ℕ) (c : Change) (cs : List Change) (b r : Row) → Conserved cs b → after n c (Some b) ≡ Some r
    → Conserved (c ∷ cs) r
steps n (Accept t a) cs b r k h = absurd (cc)
steps n (Replace a) cs b r k h =
    let q = allowed (is_none (replace_fault a.quantity b)) _ _ h in
    let f = replaced_figures a b k.orderly q.0 in
    let w = (figures b k.orderly).whole (replaceable a.quantity b q.0).0 in
    subst (Conserved (Replace a ∷ cs)) q.1 (record {
      accepted = omega (arith, k.executed, w.0);
      executed = omega (arith, k.executed);
      orderly = orderly_from (replaced a b) f;
    })
steps n (Withdraw e c) cs b r k h =
    let q = allowed (nat_lt 0 b.leaves) _ _ h in
    let f = figures b k.orderly in
    let w = carried (Withdraw e c) cs refl in
    subst (Conserved (Withdraw e c ∷ cs)) q.1 (record {
      accepted = omega (arith, k.accepted, w);
      executed = omega (arith, k.executed);
      orderly = orderly_from (ended e b) (record {
        sum = omega (arith, f.sum);
        limit = f.limit;
        whole = λ x. absurd
            (let no : ⊥ = omega (arith, x) in no);
      });
    })
steps n (Fill g) cs b r k h =
    let q = allowed (fillable g.quantity b) _ _ h in
    let f = figures b k.orderly in
    let p = and_parts (nat_lt 0 g.quantity) (nat_le g.quantity b.leaves) q.0 in
    let l = leb-true g.quantity b.leaves p.1 in
    let m = ltb-true 0 g.quantity p.0 in
    let w = carried (Fill g) cs refl in
    let more = sum_by-cons filled_by (Fill g) cs in
    subst (Conserved (Fill g ∷ cs)) q.1 (record {
      accepted = omega (arith, k.accepted, l, w);
      executed = omega (arith, k.executed, more);
      orderly = orderly_from (filled g.quantity b)
          (record { sum = omega (arith, f.sum, l); limit = f.limit; whole = λ x. f.whole (omega (arith, l, m)) });
    })
steps n (Undo u) cs b r k h =
    let q = allowed (undoable u.quantity b) _ _ h in
    let f = figures b k.orderly in
    let p = and_parts (nat_lt 0 u.quantity) (nat_le u.quantity b.executed) q.0 in
    let l = leb-true u.quantity b.executed p.1 in
    let w = carried (Undo u) cs refl in
    let more = sum_by-cons undone_by (Undo u) cs in
    subst (Conserved (Undo u ∷ cs)) q.1 (record {
      accepted = omega (arith, k.accepted, l, w);
      executed = omega (arith, k.executed, l, more);
      orderly = orderly_from (undone u.quantity b)
          (record { sum = omega (arith, f.sum, l); limit = omega (arith, f.limit); whole = f.whole });
    })

firsts : (n : ℕ) (c : Change) (cs : List Change) (r : Row) → Makes n cs None → after n c None ≡ Some r
    → Conserved (c ∷ cs) r
firsts n (Accept t a) cs r m h =
    let q = allowed (orderable a.quantity) _ _ h in subst (Conserved (Accept t a ∷ cs)) q.1 (taken n t a cs m q.0)
firsts n (Replace a) cs r m h = absurd (cc)
firsts n (Withdraw e c) cs r m h = absurd (cc)
firsts n (Fill f) cs r m h = absurd (cc)
firsts n (Undo u) cs r m h = absurd (cc)

pub conserves : Conserves
conserves n [] r m = absurd (cc)
conserves n (c ∷ cs) r (None, m, h, s) = firsts n c cs r m h
conserves n (c ∷ cs) r (Some b, m, h, s) = steps n c cs b r (conserves n cs b m) h
