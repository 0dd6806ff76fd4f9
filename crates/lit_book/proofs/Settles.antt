-- The orders at rest stay uncrossed. Assumes nothing.
use Rattle.std.proofs.Common.{◌≡◌, ℕ, Bool, true, false, cond, not, ◌&&◌, eqb, List, [], ◌∷◌, ◌++◌, Some, None, Option, refl, ap}
use Rattle.std.proofs.lemmas.Bool.{and_from, and_parts}
use Rattle.order_book.specs.Lists.{changed, remains}
use Rattle.order_book.specs.Orders.{rests}
use Rattle.order_book.specs.declared.order.Order.{Order}
use Rattle.order_book.proofs.Bests.{Misses}
use Rattle.lit_book.specs.Lists.{clear_of, settled}
use Rattle.lit_book.specs.Orders.{crosses}
use Rattle.lit_book.specs.Rules.{lit_rule}

-- a change of one order
clear_changed : (o : Order) (n : ℕ) (w : Option ℕ) (xs : List Order) → clear_of o xs ≡ true
    → clear_of o (changed n w xs) ≡ true
clear_changed o n w [] h = refl
clear_changed o n w (x ∷ xs) h =
    let p = and_parts (not (crosses x o)) (clear_of o xs) h in
    go (eqb x.number n) w p.0 p.1 (clear_changed o n w xs p.1)
  where
    go : (b : Bool) (v : Option ℕ) → not (crosses x o) ≡ true → clear_of o xs ≡ true → clear_of o (changed n w xs)
        ≡ true → clear_of o (cond b (remains x v ++ xs) (x ∷ changed n w xs)) ≡ true
    go true None f g ih = g
    go true (Some q) f g ih = and_from _ _ f g
    go false v f g ih = and_from _ _ f ih

pub settled_changed : (n : ℕ) (w : Option ℕ) (xs : List Order) → settled xs ≡ true → settled (changed n w xs) ≡ true
settled_changed n w [] h = refl
settled_changed n w (x ∷ xs) h =
    let p = and_parts (rests x) (clear_of x xs && settled xs) h in
    let s = and_parts (clear_of x xs) (settled xs) p.1 in
    go (eqb x.number n) w p.0 s.0 s.1 (clear_changed x n w xs s.0) (settled_changed n w xs s.1)
  where
    go : (b : Bool) (v : Option ℕ) → rests x ≡ true → clear_of x xs ≡ true → settled xs ≡ true
        → clear_of x (changed n w xs) ≡ true → settled (changed n w xs) ≡ true
        → settled (cond b (remains x v ++ xs) (x ∷ changed n w xs)) ≡ true
    go true None r c s f ih = s
    go true (Some q) r c s f ih = and_from _ _ r (and_from _ _ c s)
    go false v r c s f ih = and_from _ _ r (and_from _ _ f ih)

-- one more that crosses none
clear_push : (o a : Order) (xs : List Order) → clear_of o xs ≡ true → crosses a o ≡ false → clear_of o (xs ++ a ∷ [])
    ≡ true
clear_push o a [] h e = and_from _ _ (ap not e) refl
clear_push o a (x ∷ xs) h e =
    let p = and_parts (not (crosses x o)) (clear_of o xs) h in
    and_from _ _ p.0 (clear_push o a xs p.1 e)

pub settled_push : (a : Order) (xs : List Order) → settled xs ≡ true → rests a ≡ true → Misses lit_rule a xs
    → settled (xs ++ a ∷ []) ≡ true
settled_push a [] h r m = and_from _ _ r refl
settled_push a (x ∷ xs) h r m =
    let p = and_parts (rests x) (clear_of x xs && settled xs) h in
    let s = and_parts (clear_of x xs) (settled xs) p.1 in
    and_from _ _ p.0 (and_from _ _ (clear_push x a xs s.0 m.0) (settled_push a xs s.1 r m.1))
