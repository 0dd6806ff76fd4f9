-- Two orders that trade: both are open, they differ, and they are of one instrument. Assumes nothing.
use Rattle.std.specs.Prelude.{◌≡◌, ℕ, zero, suc, ◌-◌, ◌<◌, ◌≤◌, true, false, List, [], ◌∷◌, length, get_or, take, drop, is_some, Some, None, Option, refl}
use Rattle.std.proofs.Common.{eqb, ltb, sym, ap, ◌∙◌, subst, arith}
use Rattle.std.proofs.lemmas.Option.{none-some}
use Rattle.std.proofs.lemmas.List.{get_or-take, length-take-le}
use Rattle.std.proofs.lemmas.Bool.{cond_both, cond-false, eqb-false, ne_eqb}
use Rattle.std.specs.FinMap.{get}
use Rattle.std.specs.List.{All, slice_get}
use Rattle.std.specs.Option.{option_map}
use Rattle.std.proofs.lemmas.Bool.{cond-true}
use Rattle.keyed.specs.Look.{Distinct}
use Rattle.keyed.proofs.Keyed.{put-apart}
use Rattle.keyed.proofs.Looks.{distinct_from, look_at, look_past, passes}
use Rattle.matching.specs.Meaning.{Allowed, Meaning, filled, instrument_of, left, quantity_of, resized, with_order}
use Rattle.matching.specs.declared.matcher.Held.{Held}
use Rattle.matching.specs.declared.event.Event.TheVariants.{Trade}
use Rattle.texts.specs.declared.values.Price.{Price}
use Rattle.order_book.specs.declared.order.Order.{Order}
use Rattle.order_book.specs.Lists.{FoundOrder, all_apart, changed, order_held, order_number, orders_of}
use Rattle.order_book.specs.Rules.{Lists, altered, left_of, size_of, traded}
use Rattle.order_book.specs.Books.{booked}
use Rattle.order_book.specs.Pairing.{BestAt, Rule, best}
use Rattle.order_book.specs.Steps.{Stands, TurnIs, remaining}
use Rattle.order_book.specs.declared.book.Turn.TheVariants.{Trades}
use Rattle.order_book.proofs.Changes.{at, rest_absent}
use Rattle.order_book.proofs.Tables.{head_is, held, lists}

-- numbers are apart, so every order is found under its number
found_in : (xs : List Order) (i : ℕ) (o : Order) → Distinct order_number order_held xs → i < length xs → o
    ≡ get_or xs i o → FoundOrder xs o.number (Some i)
found_in [] i o u lt read = absurd (let z : ⊥ = omega arith in z)
found_in (x ∷ xs) zero o u lt read = (lt, refl, λ d. ap order_number (sym read))
found_in (x ∷ xs) (suc i) o u lt read =
    let f = found_in xs i o u.1 (omega arith) read in
    let held = look_at order_number order_held xs i o.number o f.0 f.1 f.2 in
    let ne : eqb x.number o.number ≡ false = ne_eqb _ _ (λ q. none-some _ (sym u.0 ∙ ap (at xs) q ∙ held)) in
    (lt, look_past order_number order_held x (take i xs) o.number ne ∙ f.1, f.2)

pub own_place : (xs : List Order) (i : ℕ) (o : Order) → all_apart xs ≡ true → i < length xs → o ≡ get_or xs i o
    → FoundOrder xs o.number (Some i)
own_place xs i o u lt read = found_in xs i o (distinct_from order_number order_held xs u) lt read

-- the first of the waiting, by its place
oldest_at : (xs : List Order) (k : ℕ) (a : Order) → slice_get (drop k xs) 0 ≡ Some a → (k < length xs)
    × (a ≡ get_or xs k a)
oldest_at [] zero a e = absurd (none-some a e)
oldest_at [] (suc k) a e = absurd (none-some a e)
oldest_at (x ∷ xs) zero a e = (omega arith, cc)
oldest_at (x ∷ xs) (suc k) a e = let h = oldest_at xs k a e in (let l = h.0 in omega arith, h.1)

pub oldest_place : (xs : List Order) (k : ℕ) (a : Order) → all_apart xs ≡ true → slice_get (drop k xs) 0 ≡ Some a
    → FoundOrder xs a.number (Some k)
oldest_place xs k a u e = let p = oldest_at xs k a e in own_place xs k a u p.0 p.1

pub oldest_held : (xs : List Order) (k : ℕ) (a : Order) → all_apart xs ≡ true → slice_get (drop k xs) 0 ≡ Some a
    → get (orders_of xs) a.number ≡ Some (order_held a)
oldest_held xs k a u e = held xs k a.number a (oldest_place xs k a u e) (oldest_at xs k a e).1

pub oldest_known : (xs : List Order) (k : ℕ) (a : Order) → all_apart xs ≡ true → slice_get (drop k xs) 0 ≡ Some a
    → is_some (get (orders_of xs) a.number) ≡ true
oldest_known xs k a u e = ap is_some (oldest_held xs k a u e)

-- a, the oldest waiting order, and o, which is picked for it and stands at i
pub record Matched (xs : List Order) (k i : ℕ) (a o : Order) : Type 0 where
  pub place : FoundOrder xs o.number (Some i)
  pub passive : get (orders_of xs) o.number ≡ Some (order_held o)
  pub aggressive : get (orders_of xs) a.number ≡ Some (order_held a)
  pub apart : o.number ≡ a.number → ⊥
  pub instrument : o.instrument ≡ a.instrument
  pub passive_some : 0 < o.quantity
  pub aggressive_some : 0 < a.quantity

pub matched : (xs : List Order) (k i : ℕ) (a o : Order) → k ≤ length xs → all_apart xs ≡ true
    → All (λ o. 0 < o.quantity) xs → slice_get (drop k xs) 0 ≡ Some a
    → Stands (take k xs) i o → a.instrument ≡ o.instrument → Matched xs k i a o
matched xs k i a o le u h e s same =
    let d = distinct_from order_number order_held xs u in
    let p = oldest_at xs k a e in
    let long = length-take-le k xs le in
    let l = s.0 in
    let lt : i < k = omega arith in
    let read : o ≡ get_or xs i o = s.1 ∙ get_or-take k xs i o lt in
    let f = own_place xs i o u (omega arith) read in
    let gone : at (drop k xs) o.number ≡ None = rest_absent xs i k o.number d f lt in
    let off : at (a ∷ drop 1 (drop k xs)) o.number ≡ None =
    ap (λ (l : List Order). at l o.number) (sym (head_is (drop k xs) a e)) ∙ gone in
    let ne = (passes order_number order_held a (drop 1 (drop k xs)) o.number off).0 in
    record {
      place = f;
      passive = held xs i o.number o f read;
      aggressive = oldest_held xs k a u e;
      apart = λ q. eqb-false a.number o.number ne (sym q);
      instrument = sym same;
      passive_some = subst (λ (x : Order). 0 < x.quantity) (sym read) (h i o (omega arith));
      aggressive_some = subst (λ (x : Order). 0 < x.quantity) (sym p.1) (h k a p.0);
    }

-- after a change of the passive order the aggressive one is still the oldest
pub still_oldest : (xs : List Order) (k i : ℕ) (a o : Order) (w : Option ℕ) (b : Lists) → Matched xs k i a o
    → slice_get (drop k xs) 0 ≡ Some a
    → b ≡ altered (lists xs k) o.number w → slice_get b.waiting 0 ≡ Some a
still_oldest xs k i a o w b t e f =
    ap (λ (x : Lists). slice_get x.waiting 0) f
    ∙ ap (λ (l : List Order). slice_get (changed o.number w l) 0) (head_is (drop k xs) a e)
    ∙ ap (λ (l : List Order). slice_get l 0)
    (cond-false (eqb a.number o.number) _ _ (ne_eqb _ _ (λ q. t.apart (sym q))))

-- what is left, as the meaning of an engine has it
remaining_filled : (m : Meaning) (n q : ℕ) (h : Held) → get m.orders n ≡ Some h → remaining m n (left_of q h.quantity)
    ≡ filled m q (Some n)
remaining_filled m n q h e =
    cond_both (ltb q h.quantity) (Some (h.quantity - q)) None (λ (w : Option ℕ). remaining m n w ≡ filled m q (Some n))
    (λ t. resized_is t ∙ sym (left_is (cond-true (ltb q h.quantity) _ _ t)))
    (λ t. sym (left_is (cond-false (ltb q h.quantity) _ _ t)))
  where
    resized_is : ltb q h.quantity ≡ true → resized m n (h.quantity - q)
        ≡ with_order m n (Some (record h { quantity = h.quantity - q }))
    resized_is t = ap (λ (w : Option Held). with_order m n
        (option_map (λ (x : Held). record x { quantity = h.quantity - q }) w)) e

    left_is : {w : Option Held} → left q (Some h) ≡ w → filled m q (Some n) ≡ with_order m n w
    left_is f = ap (λ (x : Option Held). with_order m n (left q x)) e ∙ ap (with_order m n) f

-- ---- a trade of two such orders

remaining_other : (m : Meaning) (n k : ℕ) (w : Option ℕ) → (k ≡ n → ⊥) → get (remaining m n w).orders k ≡ get m.orders k
remaining_other m n k None ne = put-apart m.orders n None k ne
remaining_other m n k (Some q) ne = put-apart m.orders n _ k ne

pub trade_allowed : (xs : List Order) (k i : ℕ) (a o : Order) (q : ℕ) (p : Price) → Matched xs k i a o → q ≡ size_of a o
    → Allowed (orders_of xs) (Trade (Some o.number) (Some a.number) q p)
trade_allowed xs k i a o q p t e =
    let x = ap quantity_of t.passive in
    let y = ap quantity_of t.aggressive in
    let f = t.passive_some in
    let g = t.aggressive_some in (
      omega arith,
      (
        omega arith,
        omega arith,
        t.apart,
        ap instrument_of t.passive ∙ t.instrument ∙ sym
            (ap instrument_of t.aggressive),
      ),
    )

pub trade_means : (xs : List Order) (k i : ℕ) (a o : Order) (q : ℕ) (w v : Option ℕ) (m m' : Meaning)
    → Matched xs k i a o → w ≡ left_of q o.quantity
    → v ≡ left_of q a.quantity → m ≡ remaining (booked false false (orders_of xs)) o.number w → m' ≡ remaining m a.number v
    → m' ≡ filled (filled (booked false false (orders_of xs)) q (Some o.number)) q (Some a.number)
trade_means xs k i a o q w v m m' t e f g h =
    let there : get m.orders a.number ≡ Some (order_held a) =
    ap (λ (x : Meaning). get x.orders a.number) g
    ∙ remaining_other (booked false false (orders_of xs)) o.number a.number w (λ q. t.apart (sym q))
    ∙ t.aggressive in
    h
    ∙ ap (remaining m a.number) f
    ∙ remaining_filled m a.number q (order_held a) there
    ∙ ap (λ (x : Meaning). filled x q (Some a.number))
    (g ∙ ap (remaining (booked false false (orders_of xs)) o.number) e ∙ remaining_filled (booked false false (orders_of xs)) o.number q
    (order_held o) t.passive)

pub trade_lists : (b b' b'' : Lists) (a o : Order) (q : ℕ) (w v : Option ℕ) → q ≡ size_of a o → w ≡ left_of q o.quantity
    → v ≡ left_of q a.quantity
    → b' ≡ altered b o.number w → b'' ≡ altered b' a.number v → b'' ≡ traded b a o
trade_lists b b' b'' a o q w v s e f g h =
    h
    ∙ ap (λ (x : Lists). altered x a.number v) g
    ∙ ap (λ (x : Option ℕ). altered (altered b o.number x) a.number v) (e ∙ ap (λ (x : ℕ). left_of x o.quantity) s)
    ∙ ap (λ (x : Option ℕ). altered (altered b o.number (left_of (size_of a o) o.quantity)) a.number x)
    (f ∙ ap (λ (x : ℕ). left_of x a.quantity) s)

-- the turn in which a trades, by the place of the best
pub trade_turn : (r : Rule) (xs rs : List Order) (k i : ℕ) (a o : Order) → k ≤ length xs
    → slice_get (drop k xs) 0 ≡ Some a → rs ≡ take k xs → BestAt r a rs (Some i) → o ≡ get_or xs i o
    → TurnIs r (lists xs k) (Trades a o i)
trade_turn r xs rs k i a o le e same at read =
    let long = length-take-le k xs le in
    let l = ap length same in
    let within = at.0 in
    let lt : i < k = omega arith in
    let there : o ≡ get_or rs i o = read ∙ sym (get_or-take k xs i o lt) ∙ ap (λ (y : List Order). get_or y i o)
    (sym same) in (
      e,
      ap (best r a) (sym same) ∙ at.1 o ∙ ap Some (sym there),
      (omega arith, there ∙ ap (λ (y : List Order). get_or y i o) same),
    )
