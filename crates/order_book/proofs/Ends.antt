-- Every event leaves fewer orders open, so events come to an end. Assumes nothing.
use Rattle.std.proofs.Common.{◌≡◌, ℕ, zero, suc, ◌+◌, ◌-◌, ◌≤◌, Bool, true, false, cond, eqb, ltb, ◌⊎◌, List, [], ◌∷◌, ◌++◌, length, take, drop, is_some, Some, None, Option, sym, refl, ap, ◌∙◌, subst, inl, inr, arith}
use Rattle.std.proofs.lemmas.List.{length-append, length-drop, length-take-le}
use Rattle.std.proofs.lemmas.Bool.{both_ways, cases_lt, cond-false, cond-true, eq-eqb, le-ltb, lt-ltb}
use Rattle.std.specs.List.{slice_get}
use Rattle.matching.specs.declared.event.Event.{Event}
use Rattle.matching.specs.declared.event.Event.TheVariants.{Nothing, Expired, Trade}
use Rattle.order_book.specs.declared.order.Order.{Order}
use Rattle.order_book.specs.Orders.{with_quantity}
use Rattle.order_book.specs.Laws.{EnoughBy, Idle, after_events, open_orders}
use Rattle.order_book.specs.Pairing.{Keeps, Rule}
use Rattle.order_book.specs.Lists.{changed, order_in, remains}
use Rattle.order_book.specs.Rules.{Lists, altered, left_of, next_by, size_of, traded}
use Rattle.order_book.proofs.Bests.{best_some}
use Rattle.order_book.proofs.Nexts.{next_idle}
use Rattle.order_book.proofs.Stops.{Ends, all_same, stop}

abbrev known : List Order → ℕ → Bool
known xs n = is_some (order_in xs n)

no_more : (n : ℕ) (w : Option ℕ) (xs : List Order) → length (changed n w xs) ≤ length xs
no_more n w [] = omega arith
no_more n w (x ∷ xs) = go (eqb x.number n) w (no_more n w xs)
  where
    go : (b : Bool) (v : Option ℕ) → length (changed n w xs) ≤ length xs
        → length (cond b (remains x v ++ xs) (x ∷ changed n w xs)) ≤ length (x ∷ xs)
    go true None h = omega arith
    go true (Some q) h = omega arith
    go false v h = omega arith

one_less : (n : ℕ) (xs : List Order) → known xs n ≡ true → length (changed n None xs) + 1 ≡ length xs
one_less n [] h = absurd (both_ways false refl h)
one_less n (x ∷ xs) h = go (eqb x.number n) h (one_less n xs)
  where
    go : (b : Bool) → is_some (cond b (Some x) (order_in xs n)) ≡ true
        → (known xs n ≡ true → length (changed n None xs) + 1 ≡ length xs)
        → length (cond b (remains x None ++ xs) (x ∷ changed n None xs)) + 1 ≡ length (x ∷ xs)
    go true h ih = omega arith
    go false h ih = let e = ih h in omega arith

still_known : (m n q : ℕ) (xs : List Order) → known (changed m (Some q) xs) n ≡ known xs n
still_known m n q [] = refl
still_known m n q (x ∷ xs) = go (eqb x.number m) (still_known m n q xs)
  where
    more : (b : Bool) (v w : Option Order) → is_some v ≡ is_some w → is_some (cond b (Some x) v)
        ≡ is_some (cond b (Some x) w)
    more true v w e = refl
    more false v w e = e

    go : (b : Bool) → known (changed m (Some q) xs) n ≡ known xs n
        → known (cond b (remains x (Some q) ++ xs) (x ∷ changed m (Some q) xs)) n ≡ known (x ∷ xs) n
    go true h = over (eqb x.number n)
      where
        over : (b : Bool) → is_some (cond b (Some (with_quantity x q)) (order_in xs n))
            ≡ is_some (cond b (Some x) (order_in xs n))
        over true = refl
        over false = refl
    go false h = more (eqb x.number n) (order_in (changed m (Some q) xs) n) (order_in xs n) h

mid_known : (xs ys : List Order) (o : Order) → known (xs ++ o ∷ ys) o.number ≡ true
mid_known [] ys o = ap is_some (cond-true (eqb o.number o.number) _ _ (eq-eqb o.number o.number refl))
mid_known (x ∷ xs) ys o = go (eqb x.number o.number) (mid_known xs ys o)
  where
    go : (b : Bool) → known (xs ++ o ∷ ys) o.number ≡ true
        → is_some (cond b (Some x) (order_in (xs ++ o ∷ ys) o.number)) ≡ true
    go true h = refl
    go false h = h

fewer_after : (b : Lists) (n : ℕ) (w : Option ℕ) → open_orders (altered b n w) ≤ open_orders b
fewer_after b n w = let p = no_more n w b.resting in let q = no_more n w b.waiting in omega arith

resting_ends : (b : Lists) (n : ℕ) → known b.resting n ≡ true → open_orders (altered b n None) + 1 ≤ open_orders b
resting_ends b n h = let p = one_less n b.resting h in let q = no_more n None b.waiting in omega arith

waiting_ends : (b : Lists) (n : ℕ) → known b.waiting n ≡ true → open_orders (altered b n None) + 1 ≤ open_orders b
waiting_ends b n h = let p = one_less n b.waiting h in let q = no_more n None b.resting in omega arith

-- a trade with an order at rest ends one of the two
trade_ends : (rs ws before after : List Order) (a o : Order) → rs ≡ before ++ o ∷ after
    → open_orders (traded (record { resting = rs; waiting = a ∷ ws }) a o) + 1 ≤ length rs + length (a ∷ ws)
trade_ends rs ws before after a o split =
    let b : Lists = record { resting = rs; waiting = a ∷ ws } in
    let q = size_of a o in
    elim (cases_lt a.quantity o.quantity) [
      | inr le ↦
          (let none : left_of q o.quantity ≡ None = cond-false (ltb q o.quantity) _ _ (le-ltb _ _ (omega arith)) in
          let k : known rs o.number ≡ true = ap
          (λ (l : List Order). known l o.number) split ∙ mid_known before after o in
          let one : open_orders (altered b o.number (left_of q o.quantity)) + 1 ≤ open_orders b =
          subst (λ (w : Option ℕ). open_orders (altered b o.number w) + 1 ≤ open_orders b) (sym none)
          (resting_ends b o.number k) in
          let two = fewer_after (altered b o.number (left_of q o.quantity)) a.number (left_of q a.quantity) in
          omega arith)
      | inl lt ↦
          (let none : left_of q a.quantity ≡ None = cond-false (ltb q a.quantity) _ _ (le-ltb _ _ (omega arith)) in
          let some : left_of q o.quantity ≡ Some (o.quantity - q) = cond-true (ltb q o.quantity) _ _
          (lt-ltb _ _ (omega arith)) in
          let b' : Lists = altered b o.number (left_of q o.quantity) in
          let k : known b'.waiting a.number ≡ true =
          ap (λ (w : Option ℕ). known (changed o.number w (a ∷ ws)) a.number) some
          ∙ still_known o.number a.number (o.quantity - q) (a ∷ ws) ∙ mid_known [] ws a in
          let one = fewer_after b o.number (left_of q o.quantity) in
          let two : open_orders (altered b' a.number (left_of q a.quantity)) + 1 ≤ open_orders b' =
          subst (λ (w : Option ℕ). open_orders (altered b' a.number w) + 1 ≤ open_orders b') (sym none)
          (waiting_ends b' a.number k) in
          omega arith)
    ]

-- an event that is one leaves fewer orders open
spends_of : (r : Rule) → Keeps r → (rs ws : List Order) (x : Event × Lists) → Ends r rs ws x
    → (x.0 ≡ Nothing) ⊎ (open_orders x.1 + 1 ≤ length rs + length ws)
spends_of r k rs [] x h = inl (ap (λ (y : Event × Lists). y.0) h)
spends_of r k rs (a ∷ ws) x (inl h) =
    let t = best_some r k a h.other rs h.best_is in
    inr (subst (λ (y : Event × Lists). open_orders y.1 + 1 ≤ length rs + length (a ∷ ws)) (sym h.is)
    (trade_ends rs ws t.before t.after a h.other t.split))
spends_of r k rs (a ∷ ws) x (inr h) =
    inr (subst (λ (y : Event × Lists). open_orders y.1 + 1 ≤ length rs + length (a ∷ ws)) (sym h.is)
    (waiting_ends (record { resting = rs; waiting = a ∷ ws }) a.number (mid_known [] ws a)))

spends : (r : Rule) → Keeps r → (b : Lists) → ((next_by r b).0 ≡ Nothing)
    ⊎ (open_orders (next_by r b).1 + 1 ≤ open_orders b)
spends r k b =
    let s = stop r b.resting b.waiting in
    let l = sym (length-append s.at_rest s.in_wait) ∙ ap length
    (all_same r b.resting b.waiting s) ∙ length-append b.resting b.waiting in
    elim (spends_of r k s.at_rest s.in_wait (next_by r b) s.ends) [ inl e ↦ inl e | inr h ↦ inr (omega arith) ]

-- with no event nothing waits
idle_of : (r : Rule) (rs ws : List Order) (x : Event × Lists) → Ends r rs ws x → Idle x.0 x.1
idle_of r rs [] x h = subst (λ (y : Event × Lists). Idle y.0 y.1) (sym h) refl
idle_of r rs (a ∷ ws) x (inl h) = subst (λ (y : Event × Lists). Idle y.0 y.1) (sym h.is) tt
idle_of r rs (a ∷ ws) x (inr h) = subst (λ (y : Event × Lists). Idle y.0 y.1) (sym h.is) tt

idle_next : (r : Rule) (b : Lists) → Idle (next_by r b).0 (next_by r b).1
idle_next r b =
    let s = stop r b.resting b.waiting in idle_of r s.at_rest s.in_wait (next_by r b) s.ends

nothing_waits : (r : Rule) (b : Lists) → (next_by r b).0 ≡ Nothing → (next_by r b).1.waiting ≡ []
nothing_waits r b e = subst (λ (x : Event). Idle x (next_by r b).1) e (idle_next r b)

stays_idle : (r : Rule) (n : ℕ) (b : Lists) → b.waiting ≡ [] → EnoughBy r n b
stays_idle r zero b e =
    ap (λ (x : Event × Lists). x.0) (next_idle r b (ap (λ (l : List Order). slice_get l 0) e))
stays_idle r (suc n) b e =
    let i = next_idle r b (ap (λ (l : List Order). slice_get l 0) e) in
    ap (λ (x : Event × Lists). (next_by r (after_events r n x.1)).0) i ∙ stays_idle r n b e

pub enough : (r : Rule) → Keeps r → (n : ℕ) (b : Lists) → open_orders b ≤ n → EnoughBy r n b
enough r k zero b le =
    elim (spends r k b) [ inl e ↦ e | inr h ↦ absurd (let z : ⊥ = omega arith in z) ]
enough r k (suc n) b le =
    elim (spends r k b) [
      | inl e ↦ stays_idle r n (next_by r b).1 (nothing_waits r b e)
      | inr h ↦ enough r k n (next_by r b).1 (omega arith)
    ]

pub all_counted : (xs : List Order) (k n : ℕ) → n ≡ length xs → k ≤ length xs → n
    ≡ length (take k xs) + length (drop k xs)
all_counted xs k n e le =
    let t = length-take-le k xs le in
    let d = length-drop k xs in
    omega arith

pub idle : (r : Rule) (b c : Lists) (e : Event) → e ≡ (next_by r b).0 → c ≡ (next_by r b).1 → Idle e c
idle r b c e f g = subst (λ (x : Event). Idle x c) (sym f) (subst (Idle (next_by r b).0) (sym g) (idle_next r b))
