-- Changes of orders, one behind the other. Assumes nothing.
use Rattle.std.specs.Prelude.{◌≢◌, is_some, filter, map, ◌==◌}
use Rattle.std.proofs.Common.{◌≡◌, ℕ, zero, suc, ◌+◌, Bool, true, false, cond, eqb, List, [], ◌∷◌, ◌++◌, length, set, Some, None, Option, refl, sym, ap, ◌∙◌, subst, arith}
use Rattle.std.proofs.lemmas.Bool.{eqb-true, eq-eqb}
use Rattle.std.specs.List.{slice_get}
use Rattle.changes.specs.Changes.{after}
use Rattle.changes.specs.Laws.{Makes}
use Rattle.changes.specs.declared.change.Change.{Change}
use Rattle.changes.specs.declared.change.Change.TheVariants.{Accept}
use Rattle.keyed.proofs.Under.{none-some, under-others}
use Rattle.keyed.specs.Numbers.{under, put_under}
use Rattle.gateway_runs.proofs.Fitting.{Alters}
use Rattle.gateway_runs.specs.Moves.{Move, of_order, taken}
use Rattle.orders.specs.Rows.{accepted, orderable}
use Rattle.orders.specs.declared.row.Ask.{Ask}
use Rattle.orders.specs.declared.row.Row.{Row}
use Rattle.orders.specs.declared.row.Terms.{Terms}
use Rattle.texts.specs.declared.values.Time.{Time}
use Rattle.configuration.specs.declared.instrument.Instrument.{Instrument}
use Rattle.venue.specs.Ledger.{Ledger, changed, rewritten}

-- the rows after one change: the row of its order is made by it, and all others stay
pub record Changes (m : Move) (before after_ : List Row) : Type 0 where
  pub made : after m.0 m.1 (under before m.0) ≡ under after_ m.0
  pub there : is_some (under after_ m.0) ≡ true
  pub others : (k : ℕ) → k ≢ m.0 → under after_ k ≡ under before k

-- the rows after a list of changes, the newest first
abbrev pub Moved : List Row → List Move → List Row → Type 0
Moved a [] b = b ≡ a
Moved a (m ∷ ms) b = (x : List Row) × Moved a ms x × Changes m x b

pub moved_on : (a b : List Row) (ms : List Move) (c : List Row) (ns : List Move) → Moved a ms b → Moved b ns c
    → Moved a (ns ++ ms) c
moved_on a b ms c [] f g = subst (Moved a ms) (sym g) f
moved_on a b ms c (n ∷ ns) f (x, g, h) = (x, moved_on a b ms x ns f g, h)

-- ---- one change of an order that is there

there : (xs : List Row) (i : ℕ) (b x : Row) → slice_get xs i ≡ Some b → slice_get (set xs i x) i ≡ Some x
there [] i b x e = none-some b e
there (y ∷ ys) zero b x e = refl
there (y ∷ ys) (suc i) b x e = there ys i b x e

pub put_there : (xs : List Row) (n : ℕ) (b x : Row) → under xs n ≡ Some b → under (put_under xs n x) n ≡ Some x
put_there xs zero b x e = none-some b e
put_there xs (suc n) b x e = there xs n b x e

rewrites : (is : List Instrument) (t : Time) (n : ℕ) (c : Change) (l : Ledger) (b o : Option Row) → Alters c
    → under l.rows n ≡ b → after n c b ≡ o
    → Moved l.rows (cond (is_some o) ((n, c) ∷ []) []) (rewritten is t n c o l).rows
rewrites is t n c l b None k e h = refl
rewrites is t n c l None (Some r) k e h = none-some r (sym (k n) ∙ h)
rewrites is t n c l (Some b) (Some r) k e h = (
  l.rows,
  refl,
  record {
    made = ap (after n c) e ∙ h ∙ sym (put_there l.rows n b r e);
    there = ap is_some (put_there l.rows n b r e);
    others = λ m ne. under-others l.rows n m r ne;
  },
)

pub changes : (is : List Instrument) (t : Time) (n : ℕ) (c : Change) (l : Ledger) → Alters c
    → Moved l.rows (taken n c l.rows) (changed is t n c l).rows
changes is t n c l k = rewrites is t n c l (under l.rows n) (after n c (under l.rows n)) k refl refl

-- ---- a new order

last_there : (xs : List Row) (x : Row) → slice_get (xs ++ x ∷ []) (length xs) ≡ Some x
last_there [] x = refl
last_there (y ∷ ys) x = last_there ys x

none_past : (xs : List Row) → slice_get xs (length xs) ≡ None
none_past [] = refl
none_past (y ∷ ys) = none_past ys

apart_get : (xs : List Row) (x : Row) (i : ℕ) → (i ≡ length xs → ⊥) → slice_get (xs ++ x ∷ []) i ≡ slice_get xs i
apart_get [] x zero ne = absurd (ne refl)
apart_get [] x (suc i) ne = refl
apart_get (y ∷ ys) x zero ne = refl
apart_get (y ∷ ys) x (suc i) ne = apart_get ys x i (λ e. ne (ap suc e))

apart_under : (xs : List Row) (x : Row) (k : ℕ) → (k ≡ suc (length xs) → ⊥) → under (xs ++ x ∷ []) k ≡ under xs k
apart_under xs x zero ne = refl
apart_under xs x (suc i) ne = apart_get xs x i (λ e. ne (ap suc e))

added_by : (rows : List Row) (s : Terms) (a : Ask) (n : ℕ) → n ≡ suc (length rows) → orderable a.quantity ≡ true
    → Moved rows ((n, Accept s a) ∷ []) (rows ++ accepted n s a ∷ [])
added_by rows s a n e o =
    let here : under (rows ++ accepted n s a ∷ []) n
    ≡ Some (accepted n s a) = ap (under (rows ++ accepted n s a ∷ [])) e ∙ last_there rows (accepted n s a) in
    let none : under rows n ≡ None = ap (under rows) e ∙ none_past rows in (
      rows,
      refl,
      record {
        made = ap (after n (Accept s a)) none ∙ ap (λ b. cond b (Some (accepted n s a)) None) o ∙ sym here;
        there = ap is_some here;
        others = λ k ne. apart_under rows (accepted n s a) k (λ f. ne (f ∙ sym e));
      },
    )

pub adds : (rows : List Row) (s : Terms) (a : Ask) → orderable a.quantity ≡ true
    → Moved rows ((length rows + 1, Accept s a) ∷ []) (rows ++ accepted (length rows + 1) s a ∷ [])
adds rows s a o = added_by rows s a (length rows + 1) (omega arith) o

-- ---- the changes of one order make its row

one : (n : ℕ) (k : ℕ) (c : Change) (ms : List Move) (b : List Row) (x : List Row) (same : Bool) → eqb k n ≡ same
    → Changes (k, c) x b → Makes n (of_order n ms) (under x n)
    → Makes n (map (λ m. m.1) (cond same ((k, c) ∷ filter (λ m. m.0 == n) ms) (filter (λ m. m.0 == n) ms))) (under b n)
one n k c ms b x true e m was =
    let is : k ≡ n = eqb-true k n e in (
      under x n,
      was,
      subst (λ i. after i c (under x i) ≡ under b i) is m.made,
      subst
          (λ i. is_some (under b i) ≡ true) is m.there,
    )
one n k c ms b x false e m was =
    subst (Makes n (of_order n ms)) (sym (m.others n
    (λ f. let t : eqb k n ≡ true = eq-eqb k n (sym f) in absurd (let z : true ≡ false = sym t ∙ e in cc)))) was

pub order_made : (n : ℕ) (ms : List Move) (b : List Row) → Moved [] ms b → Makes n (of_order n ms) (under b n)
order_made n [] b e = ap (λ rows. under rows n) e ∙ nothing n
  where
    nothing : (k : ℕ) → under {X = Row} [] k ≡ None
    nothing zero = refl
    nothing (suc k) = refl
order_made n ((k, c) ∷ ms) b (x, f, m) = one n k c ms b x (eqb k n) refl m (order_made n ms x f)
