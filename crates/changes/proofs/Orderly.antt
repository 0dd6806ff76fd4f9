-- An order's figures, and that each change leaves them in agreement. Assumes nothing.
use Rattle.std.proofs.Common.{zero, suc, ◌≡◌, ℕ, ◌+◌, ◌<◌, ◌≤◌, Bool, true, false, cond, not, ◌&&◌, ◌||◌, Some, None, Option, refl, arith}
use Rattle.std.specs.Prelude.{is_none, nat_le, nat_lt, nat_eq}
use Rattle.std.proofs.lemmas.Bool.{and_parts, and_from, eqb-true, eq-eqb, ne_eqb, leb-true, le-leb, ltb-true}
use Rattle.std.proofs.lemmas.Grind.{common_steps}
use Rattle.limits.specs.declared.TheConstants.{SHARES}
use Rattle.orders.specs.declared.row.Ask.{Ask}
use Rattle.orders.specs.declared.row.Row.{Row}
use Rattle.orders.specs.declared.row.Ending.{Ending}
use Rattle.orders.specs.Rows.{balanced, untouched, orderly, orderable, is_open, replaced}
use Rattle.orders.specs.Orders.{replace_fault}
use Rattle.refusals.specs.declared.Refusal.{Refusal}
use Rattle.changes.specs.Changes.{where_allowed}

-- a change that gave a row was allowed, and gave just that row
pub allowed : (b : Bool) (x y : Row) → where_allowed b x ≡ Some y → (b ≡ true) × (x ≡ y)
allowed true x y h = (refl, cc)
allowed false x y h = absurd (cc)

-- what an order's row keeps
pub record Figures (r : Row) : Type 0 where
  pub sum : r.ordered ≡ r.executed + r.leaves + r.withdrawn
  pub limit : r.ordered ≤ SHARES
  pub whole : 0 < r.leaves → (r.withdrawn ≡ 0) × (is_none r.ending ≡ true)

either : (l w : ℕ) (e : Option Ending) → (nat_eq l 0 || (nat_eq w 0 && is_none e)) ≡ true → 0 < l → (w ≡ 0)
    × (is_none e ≡ true)
either l w e h p = grind (arith, common_steps)

pub figures : (r : Row) → orderly r ≡ true → Figures r
figures r h =
    let p = and_parts (balanced r) (nat_le r.ordered SHARES && untouched r) h in
    let q = and_parts (nat_le r.ordered SHARES) (untouched r) p.1 in record {
      sum = eqb-true _ _ p.0;
      limit = leb-true _ _ q.0;
      whole = either r.leaves r.withdrawn r.ending q.1;
    }

rest : (l w : ℕ) (e : Option Ending) → (0 < l → (w ≡ 0) × (is_none e ≡ true))
    → (nat_eq l 0 || (nat_eq w 0 && is_none e)) ≡ true
rest zero w e f = refl
rest (suc l) w e f =
    let p = f (omega arith) in
    let z : nat_eq (suc l) 0 ≡ false = ne_eqb (suc l) 0 (λ h. absurd (let no : ⊥ = omega (arith, h) in no)) in
    rw z (and_from (nat_eq w 0) (is_none e) (eq-eqb w 0 p.0) p.1)

pub orderly_from : (r : Row) → Figures r → orderly r ≡ true
orderly_from r f =
    and_from (balanced r) (nat_le r.ordered SHARES && untouched r) (eq-eqb _ _ f.sum)
    (and_from (nat_le r.ordered SHARES) (untouched r) (le-leb _ _ f.limit) (rest r.leaves r.withdrawn r.ending f.whole))

refused : (x y : Bool) (i j : Refusal) → is_none (cond (not x) (Some i) (cond (not y) (Some j) None)) ≡ true
    → (x ≡ true) × (y ≡ true)
refused false y i j h = absurd (cc)
refused true false i j h = absurd (cc)
refused true true i j h = (refl, refl)

-- an order that can be replaced, and a quantity that it can be replaced by
pub replaceable : (q : ℕ) (r : Row) → is_none (replace_fault q r) ≡ true → (0 < r.leaves) × (q ≤ SHARES)
replaceable q r h =
    let p = refused (is_open r) (orderable q) _ _ h in
    (ltb-true 0 r.leaves p.0, leb-true q SHARES (and_parts (nat_lt 0 q) (nat_le q SHARES) p.1).1)

-- the replaced order's figures
pub replaced_figures : (a : Ask) (r : Row) → orderly r ≡ true → is_none (replace_fault a.quantity r) ≡ true
    → Figures (replaced a r)
replaced_figures a r o h =
    let f = figures r o in
    let e = replaceable a.quantity r h in
    let w = f.whole e.0 in
    record { sum = omega (arith, w.0); limit = omega (arith, e.1, f.sum, f.limit); whole = λ x. w }
