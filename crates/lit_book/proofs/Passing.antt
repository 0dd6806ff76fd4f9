-- Whom a trade passes over, and that no two at rest cross. Assumes nothing.
use Rattle.std.specs.Prelude.{◌≡◌, ℕ, zero, suc, ◌<◌, Bool, true, false, not, ◌&&◌, List, [], ◌∷◌, ◌++◌, length, get_or, Some, None, Option, MatchOption, refl}
use Rattle.std.proofs.Common.{eqb, sym, ap, ◌∙◌, subst, inl, inr, arith}
use Rattle.std.proofs.lemmas.List.{append_assoc}
use Rattle.std.proofs.lemmas.List.Elements.{All-cons, All-nil}
use Rattle.std.proofs.lemmas.Int.{ints}
use Rattle.std.proofs.lemmas.Bool.{and_cases, and_left, and_parts, and_right, both_ways, cases_Bool, eq-eqb, eqb-false, eqb-true, ne_eqb, not-true}
use Rattle.std.specs.List.{All}
use Rattle.codes.specs.declared.order.Side.{Side}
use Rattle.codes.specs.declared.order.Side.TheVariants.{Buy, Sell}
use Rattle.terms.specs.declared.lifetime.Lifetime.{Lifetime}
use Rattle.matching.specs.declared.event.Event.{Event}
use Rattle.terms.specs.declared.pricing.Pricing.{Pricing}
use Rattle.terms.specs.declared.pricing.Pricing.TheVariants.{Market, Limit}
use Rattle.terms.specs.Pricing.{price_of}
use Rattle.texts.specs.declared.values.Price.{Price}
use Rattle.order_book.specs.Laws.{at_rest_for, before}
use Rattle.order_book.specs.Lists.{all_apart}
use Rattle.order_book.specs.Orders.{accepts, lasting, opposes, price, rests}
use Rattle.order_book.specs.Rules.{Lists}
use Rattle.order_book.specs.declared.order.Order.{Order}
use Rattle.order_book.proofs.Bests.{AllBeaten, NoneBeats, best_some}
use Rattle.order_book.proofs.Fairs.{absent_before, met, mid_before, mid_in}
use Rattle.order_book.proofs.Stops.{Ends, Stop, all_same, stop}
use Rattle.lit_book.specs.Keeping.{crossed_parts, crosses_accepts, lit_keeps, not_better}
use Rattle.lit_book.specs.Laws.{FirstServed, NoBetter, Served, Uncrossed, Worse, alike}
use Rattle.lit_book.specs.Lists.{clear_of, settled}
use Rattle.lit_book.specs.Orders.{crosses, prefers, takes}
use Rattle.lit_book.specs.Rules.{best, lit_rule, next}
use Rattle.lit_book.proofs.Keeps.{settled_kept}

-- ---- whom a trade passes over

abbrev AllRest : List Order → Type 0
AllRest [] = Unit {0}
AllRest (x ∷ xs) = (rests x ≡ true) × AllRest xs

all_rest : (xs : List Order) → settled xs ≡ true → AllRest xs
all_rest [] s = tt
all_rest (x ∷ xs) s =
    let p = and_parts (rests x) (clear_of x xs && settled xs) s in
    (p.0, all_rest xs (and_parts (clear_of x xs) (settled xs) p.1).1)

rest_front : (xs ys : List Order) → AllRest (xs ++ ys) → AllRest xs
rest_front [] ys r = tt
rest_front (x ∷ xs) ys r = (r.0, rest_front xs ys r.1)

rest_back : (xs ys : List Order) → AllRest (xs ++ ys) → AllRest ys
rest_back [] ys r = r
rest_back (x ∷ xs) ys r = rest_back xs ys r.1

accepts_better : (s : Side) (t : Pricing) (p q : Price) → accepts s t p ≡ true → accepts s t q ≡ false → prefers s p q
    ≡ true
accepts_better s Market p q h k = absurd (both_ways true k refl)
accepts_better Buy (Limit l) p q h k = grind (arith, ints)
accepts_better Sell (Limit l) p q h k = grind (arith, ints)

better_one_way : (s : Side) (p q : Price) → prefers s p q ≡ true → prefers s q p ≡ false
better_one_way Buy p q h = grind (arith, ints)
better_one_way Sell p q h = grind (arith, ints)

refuses : (s : Side) (u t : Pricing) (f : Lifetime) → lasting t f ≡ true → takes s u t ≡ false
    → accepts s u (price_of t) ≡ false
refuses s u Market f h k = absurd (both_ways false refl h)
refuses s u (Limit p) f h k = k

facing : (s t v : Side) → opposes s t ≡ true → not (opposes t v) ≡ true → opposes s v ≡ true
facing Buy Buy v h k = absurd (both_ways false refl h)
facing Buy Sell Buy h k = absurd (both_ways false refl k)
facing Buy Sell Sell h k = refl
facing Sell Buy Buy h k = refl
facing Sell Buy Sell h k = absurd (both_ways false refl k)
facing Sell Sell v h k = absurd (both_ways false refl h)

third : (x y z : Bool) → x ≡ true → y ≡ true → (x && (y && z)) ≡ false → z ≡ false
third true true z h k e = e
third true false z h k e = absurd (both_ways false refl k)
third false y z h k e = absurd (both_ways false refl h)

-- an order like o that a does not cross is priced worse
uncrossed_worse : (a o x : Order) → crosses a o ≡ true → rests x ≡ true → alike o x ≡ true → crosses a x ≡ false
    → prefers a.side (price o) (price x) ≡ true
uncrossed_worse a o x c r l n =
    let p = crossed_parts a o c in
    let q = and_parts (eqb o.instrument x.instrument) (not (opposes o.side x.side)) l in
    let same = eq-eqb a.instrument x.instrument (p.0 ∙ eqb-true _ _ q.0) in
    let face = facing a.side o.side x.side p.1 q.1 in
    let k = third (eqb a.instrument x.instrument) (opposes a.side x.side)
    (takes a.side a.pricing x.pricing) same face n in
    accepts_better a.side a.pricing (price o) (price x) (crosses_accepts a o c)
    (refuses a.side a.pricing x.pricing x.lifetime r k)

all_worse : (a o : Order) (xs : List Order) → crosses a o ≡ true → AllRest xs → AllBeaten lit_rule a o xs
    → All (Worse a.side o) xs
all_worse a o [] c r w = All-nil (Worse a.side o)
all_worse a o (x ∷ xs) c r w =
    All-cons (Worse a.side o) x xs
    (λ l. elim (cases_Bool (crosses a x)) [ inl t ↦ w.0 t | inr n ↦ uncrossed_worse a o x c r.0 l n ])
    (all_worse a o xs c r.1 w.1)

none_after : (a o : Order) (xs : List Order) → crosses a o ≡ true → AllRest xs → NoneBeats lit_rule a o xs
    → All (NoBetter a.side o) xs
none_after a o [] c r w = All-nil (NoBetter a.side o)
none_after a o (x ∷ xs) c r w =
    All-cons (NoBetter a.side o) x xs
    (λ l. elim (cases_Bool (crosses a x)) [
      | inl t ↦ w.0 t
      | inr n ↦ better_one_way a.side (price o) (price x)
          (uncrossed_worse a o x c r.0 l n)
    ])
    (none_after a o xs c r.1 w.1)

-- none at all is better
none_better : (a o : Order) (xs ys : List Order) → crosses a o ≡ true → AllRest (xs ++ o ∷ ys) → AllBeaten lit_rule a o xs
    → NoneBeats lit_rule a o ys
    → All (NoBetter a.side o) (xs ++ o ∷ ys)
none_better a o [] ys c r w v =
    All-cons (NoBetter a.side o) o ys (λ l. not_better a.side (price o)) (none_after a o ys c r.1 v)
none_better a o (x ∷ xs) ys c r w v =
    All-cons (NoBetter a.side o) x (xs ++ o ∷ ys)
    (λ l. better_one_way a.side (price o) (price x)
    (elim (cases_Bool (crosses a x)) [ inl t ↦ w.0 t | inr n ↦ uncrossed_worse a o x c r.0 l n ]))
    (none_better a o xs ys c r.1 w.1 v)

first_served : (a o : Order) (rs ws : List Order) → all_apart (rs ++ a ∷ ws) ≡ true → settled rs ≡ true → best a rs
    ≡ Some o → FirstServed a o.number rs
first_served a o rs ws u s f =
    let t = best_some lit_rule lit_keeps a o rs f in
    let whole : rs ++ a ∷ ws ≡ t.before ++ o ∷ (t.after ++ a ∷ ws) = ap
    (λ (l : List Order). l ++ a ∷ ws) t.split ∙ append_assoc t.before (o ∷ t.after) (a ∷ ws) in
    let n = absent_before t.before (t.after ++ a ∷ ws) o (ap all_apart (sym whole) ∙ u) in
    let r = subst AllRest t.split (all_rest rs s) in
    let in_line : All (Worse a.side o) (before o.number (t.before ++ o ∷ t.after))
    × All (NoBetter a.side o) (t.before ++ o ∷ t.after) = (
      subst (All (Worse a.side o)) (sym (mid_before t.before t.after o n))
          (all_worse a o t.before t.fitting (rest_front t.before (o ∷ t.after) r) t.earlier),
      none_better a o t.before t.after t.fitting r t.earlier t.later,
    ) in
    subst (FirstServed a o.number) (sym t.split)
    (subst (λ (w : Option Order). MatchOption w ⊥
    (λ y. All (Worse a.side y) (before o.number (t.before ++ o ∷ t.after))
    × All (NoBetter a.side y) (t.before ++ o ∷ t.after)))
    (sym (mid_in t.before t.after o n)) in_line)

served_of : (b : Lists) (s : Stop lit_rule b.resting b.waiting (next b)) (rs ws : List Order) → rs ≡ s.at_rest
    → ws ≡ s.in_wait → all_apart (rs ++ ws) ≡ true → settled rs ≡ true
    → Ends lit_rule rs ws (next b) → Served b (next b).0
served_of b s rs [] p q u t h = subst (λ (x : Event × Lists). Served b x.0) (sym h) tt
served_of b s rs (a ∷ ws) p q u t (inr h) = subst (λ (x : Event × Lists). Served b x.0) (sym h.is) tt
served_of b s rs (a ∷ ws) p q u t (inl h) =
    let o = h.other in
    let m = met lit_rule lit_keeps b s rs ws a o p q u h.best_is in
    subst (λ (x : Event × Lists). Served b x.0) (sym h.is)
    (subst (λ (w : Option Order). MatchOption w ⊥ (λ y. FirstServed y o.number (at_rest_for a.number b)))
    (sym m.aggressive)
    (subst (FirstServed a o.number) (sym m.there) (first_served a o rs ws u t h.best_is)))

pub served_next : (b : Lists) → all_apart (b.resting ++ b.waiting) ≡ true → settled b.resting ≡ true
    → Served b (next b).0
served_next b u q =
    let s = stop lit_rule b.resting b.waiting in
    served_of b s s.at_rest s.in_wait refl refl
    (ap all_apart (all_same lit_rule b.resting b.waiting s) ∙ u) (s.keeps settled settled_kept q) s.ends

-- ---- no two at rest cross

self_uncrossed : (x : Order) → crosses x x ≡ false
self_uncrossed x = and_right (eqb x.instrument x.instrument) _ (and_left (opposes x.side x.side) _ (same x.side))
  where
    same : (s : Side) → opposes s s ≡ false
    same Buy = refl
    same Sell = refl

both_limits : (s s' : Side) (t t' : Pricing) (f f' : Lifetime) → lasting t f ≡ true → lasting t' f' ≡ true
    → (opposes s s' && takes s t t') ≡ false → (opposes s' s && takes s' t' t) ≡ false
both_limits s s' Market t' f f' h k e = absurd (both_ways false refl h)
both_limits s s' (Limit l) Market f f' h k e = absurd (both_ways false refl k)
both_limits Buy Buy (Limit l) (Limit m) f f' h k e = refl
both_limits Buy Sell (Limit l) (Limit m) f f' h k e = e
both_limits Sell Buy (Limit l) (Limit m) f f' h k e = e
both_limits Sell Sell (Limit l) (Limit m) f f' h k e = refl

either_way : (x y : Order) → rests x ≡ true → rests y ≡ true → crosses x y ≡ false → crosses y x ≡ false
either_way x y r q e =
    elim (and_cases (eqb x.instrument y.instrument) (opposes x.side y.side && takes x.side x.pricing y.pricing) e) [
      | inl n ↦ and_left (eqb y.instrument x.instrument) _
          (ne_eqb _ _ (λ i. eqb-false x.instrument y.instrument n (sym i)))
      | inr n ↦ and_right (eqb y.instrument x.instrument) _
          (both_limits x.side y.side x.pricing y.pricing x.lifetime y.lifetime r q n)
    ]

clear_at : (x : Order) (xs : List Order) (i : ℕ) (d : Order) → i < length xs → clear_of x xs ≡ true
    → crosses (get_or xs i d) x ≡ false
clear_at x [] i d lt h = absurd (let z : ⊥ = omega arith in z)
clear_at x (y ∷ xs) zero d lt h = not-true (crosses y x) (and_parts (not (crosses y x)) (clear_of x xs) h).0
clear_at x (y ∷ xs) (suc i) d lt h = clear_at x xs i d (omega arith) (and_parts (not (crosses y x)) (clear_of x xs) h).1

rest_at : (xs : List Order) (i : ℕ) (d : Order) → i < length xs → settled xs ≡ true → rests (get_or xs i d) ≡ true
rest_at [] i d lt h = absurd (let z : ⊥ = omega arith in z)
rest_at (x ∷ xs) zero d lt h = (and_parts (rests x) (clear_of x xs && settled xs) h).0
rest_at (x ∷ xs) (suc i) d lt h =
    rest_at xs i d (omega arith) (and_parts (clear_of x xs) (settled xs)
    (and_parts (rests x) (clear_of x xs && settled xs) h).1).1

pub uncrossed_rest : (xs : List Order) → settled xs ≡ true → Uncrossed xs
uncrossed_rest [] h i j d li lj = absurd (let z : ⊥ = omega arith in z)
uncrossed_rest (x ∷ xs) h zero zero d li lj = self_uncrossed x
uncrossed_rest (x ∷ xs) h zero (suc j) d li lj =
    let p = and_parts (rests x) (clear_of x xs && settled xs) h in
    let q = and_parts (clear_of x xs) (settled xs) p.1 in
    either_way (get_or xs j d) x (rest_at xs j d (omega arith) q.1) p.0 (clear_at x xs j d (omega arith) q.0)
uncrossed_rest (x ∷ xs) h (suc i) zero d li lj =
    let p = and_parts (rests x) (clear_of x xs && settled xs) h in
    clear_at x xs i d (omega arith) (and_parts (clear_of x xs) (settled xs) p.1).0
uncrossed_rest (x ∷ xs) h (suc i) (suc j) d li lj =
    let p = and_parts (rests x) (clear_of x xs && settled xs) h in
    uncrossed_rest xs (and_parts (clear_of x xs) (settled xs) p.1).1 i j d (omega arith) (omega arith)
