-- Rows in the order of their numbers, each of which holds an order. Assumes nothing.
use Rattle.std.specs.Prelude.{find, reverse}
use Rattle.std.proofs.lemmas.List.{reverse-append}
use Rattle.std.proofs.lemmas.List.Folds.{find-append}
use Rattle.std.proofs.Common.{◌≡◌, Bool, cond, false, ℕ, zero, suc, ◌+◌, true, ◌&&◌, eqb, List, [], ◌∷◌, ◌++◌, length, set, Some, None, Option, sym, refl, ap, ◌∙◌, arith}
use Rattle.std.proofs.lemmas.Bool.{and_parts, and_from, eqb-true, eq-eqb, both_ways}
use Rattle.std.specs.List.{slice_get}
use Rattle.std.specs.Option.{option_or}
use Rattle.orders.specs.Orders.{Makes}
use Rattle.orders.specs.declared.row.Row.{Row}
use Rattle.orders.specs.Rows.{orderly}
use Rattle.keyed.specs.Numbers.{under}
use Rattle.orders.specs.Kept.{kept_from}
use Rattle.orders.specs.Tables.{goes_by, latest}
use Rattle.keyed.proofs.Under.{none-some}

parts : (n : ℕ) (r : Row) (rs : List Row) → kept_from n (r ∷ rs) ≡ true → (r.number ≡ n) × (orderly r ≡ true)
    × (kept_from (suc n) rs ≡ true)
unfolding kept_from
parts n r rs h =
    let p = and_parts (eqb r.number n) (orderly r && kept_from (suc n) rs) h in
    let q = and_parts (orderly r) (kept_from (suc n) rs) p.1 in
    (eqb-true _ _ p.0, q.0, q.1)

join : (n : ℕ) (r : Row) (rs : List Row) → r.number ≡ n → orderly r ≡ true → kept_from (suc n) rs ≡ true
    → kept_from n (r ∷ rs) ≡ true
unfolding kept_from
join n r rs a b c = and_from _ _ (eq-eqb _ _ a) (and_from _ _ b c)

kept-none : (n : ℕ) → kept_from n [] ≡ true
unfolding kept_from
kept-none n = refl

pub kept_none : (rs : List Row) → rs ≡ [] → kept_from 1 rs ≡ true
kept_none rs e = ap (kept_from 1) e ∙ kept-none 1

kept-push : (n : ℕ) (rs : List Row) (r : Row) → kept_from n rs ≡ true → r.number ≡ length rs + n → orderly r ≡ true
    → kept_from n (rs ++ (r ∷ [])) ≡ true
kept-push n [] r h a b = join n r [] (omega arith) b (kept-none (suc n))
kept-push n (x ∷ rs) r h a b =
    let p = parts n x rs h in
    join n x (rs ++ (r ∷ [])) p.0 p.1 (kept-push (suc n) rs r p.2 (omega arith) b)

kept-set : (n : ℕ) (rs : List Row) (i : ℕ) (r : Row) → kept_from n rs ≡ true → r.number ≡ i + n → orderly r ≡ true
    → kept_from n (set rs i r) ≡ true
kept-set n [] i r h a b = kept-none n
kept-set n (x ∷ rs) zero r h a b = let p = parts n x rs h in join n r rs (omega arith) b p.2
kept-set n (x ∷ rs) (suc i) r h a b =
    let p = parts n x rs h in
    join n x (set rs i r) p.0 p.1 (kept-set (suc n) rs i r p.2 (omega arith) b)

pub kept_push : (rs rs' : List Row) (r : Row) → kept_from 1 rs ≡ true → rs' ≡ rs ++ r ∷ [] → r.number ≡ length rs + 1
    → orderly r ≡ true → kept_from 1 rs' ≡ true
kept_push rs rs' r h e a b = ap (kept_from 1) e ∙ kept-push 1 rs r h a b

pub kept_set : (rs rs' : List Row) (i : ℕ) (r : Row) → kept_from 1 rs ≡ true → rs' ≡ set rs i r → r.number ≡ i + 1
    → orderly r ≡ true → kept_from 1 rs' ≡ true
kept_set rs rs' i r h e a b = ap (kept_from 1) e ∙ kept-set 1 rs i r h a b

kept-nth : (n : ℕ) (rs : List Row) (i : ℕ) (r : Row) → kept_from n rs ≡ true → slice_get rs i ≡ Some r
    → (r.number ≡ i + n) × (orderly r ≡ true)
kept-nth n [] i r h e = none-some r e
kept-nth n (x ∷ rs) zero r h e =
    let p = parts n x rs h in
    let same : x ≡ r = cc in
    (sym (ap (λ (y : Row). y.number) same) ∙ p.0 ∙ omega arith, sym (ap orderly same) ∙ p.1)
kept-nth n (x ∷ rs) (suc i) r h e =
    let p = parts n x rs h in
    let q = kept-nth (suc n) rs i r p.2 e in
    (omega arith, q.1)

-- the row of a number has that number, and holds an order
pub kept_at : (rs : List Row) (n : ℕ) (r : Row) → kept_from 1 rs ≡ true → under rs n ≡ Some r → (r.number ≡ n)
    × (orderly r ≡ true)
kept_at rs zero r h e = none-some r e
kept_at rs (suc m) r h e = let q = kept-nth 1 rs m r h e in (omega arith, q.1)

pub orderly_under : (rs : List Row) (n : ℕ) (r : Row) → kept_from 1 rs ≡ true → under rs n ≡ Some r → orderly r ≡ true
orderly_under rs n r h e = (kept_at rs n r h e).1

-- a row that holds an order gives it
pub order_made : (r : Row) (o : Option Row) → orderly r ≡ true → Makes (orderly r) r o → o ≡ Some r
order_made r None h m = absurd (both_ways (orderly r) m h)
order_made r (Some o) h m = ap Some m.1

-- a row that is found from the back holds an order
pub orderly-found : (p : Row → Bool) (n : ℕ) (rs : List Row) (r : Row) → kept_from n rs ≡ true → find p (reverse rs)
    ≡ Some r → orderly r ≡ true
orderly-found p n [] r h e = none-some r e
orderly-found p n (x ∷ rs) r h e =
    let q = parts n x rs h in
    here-or-behind (find p (reverse rs)) (p x) (orderly-found p (suc n) rs r q.2) q.1
    (sym (ap (find p) (reverse-append (x ∷ []) rs) ∙ find-append p (reverse rs) (x ∷ [])) ∙ e)
  where
    here-or-behind : (o : Option Row) (b : Bool) → (o ≡ Some r → orderly r ≡ true) → orderly x ≡ true
        → option_or o (cond b (Some x) None) ≡ Some r → orderly r ≡ true
    here-or-behind (Some y) b behind here same = behind same
    here-or-behind None true behind here same = let is : x ≡ r = cc in ap orderly (sym is) ∙ here
    here-or-behind None false behind here same = none-some r same

-- what is made of a row that is found from the back
pub held_latest : (rs : List Row) (o : ℕ) (c c' : List ℕ) (r : Row) (out : Option Row) → kept_from 1 rs ≡ true → Some r
    ≡ latest o c rs → c ≡ c' → Makes (orderly r) r out → out ≡ latest o c' rs
held_latest rs o c c' r out h e same m =
    order_made r out (orderly-found (goes_by o c) 1 rs r h (sym e)) m ∙ e ∙ ap (λ t. latest o t rs) same
