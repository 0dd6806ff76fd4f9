-- An event of the book: the orders follow it, and a trade is within what both its orders allow. Assumes nothing.
use Rattle.std.proofs.Common.{◌≡◌, ℕ, ◌<◌, ◌≤◌, true, false, eqb, ◌⊎◌, inl, inr, List, [], ◌∷◌, ◌++◌, Some, None, Option, refl, sym, ap, ◌∙◌, subst, arith}
use Rattle.std.proofs.lemmas.Bool.{and_parts, both_ways, cases_eq, eqb-true}
use Rattle.std.proofs.lemmas.Int.{ints}
use Rattle.std.specs.Option.{option_or}
use Rattle.std.specs.Prelude.{MatchOption}
use Rattle.codes.specs.declared.order.Side.{Side}
use Rattle.codes.specs.declared.order.Side.TheVariants.{Buy, Sell}
use Rattle.codes.specs.declared.report.Liquidity.TheVariants.{Added, Removed}
use Rattle.changes.specs.declared.change.Change.TheVariants.{Fill}
use Rattle.configuration.specs.declared.instrument.Instrument.{Instrument}
use Rattle.keyed.specs.Numbers.{under}
use Rattle.lit_book.specs.Keeping.{lit_keeps}
use Rattle.lit_book.specs.Laws.{FirstServed, Served}
use Rattle.lit_book.specs.Orders.{crosses, takes}
use Rattle.lit_book.specs.Rules.{best, lit_rule, next}
use Rattle.lit_day.proofs.Finding.{Once, OnceIn, altered_none, altered_other, both, mid, once_altered, once_front, once_in}
use Rattle.lit_day.proofs.Mirroring.{fills, opened_by, withdraws}
use Rattle.lit_day.specs.Trading.{Mirrors, Stepped, Within, as_order, open_order}
use Rattle.matching.specs.declared.event.Event.{Event}
use Rattle.order_book.proofs.Bests.{best_some}
use Rattle.order_book.proofs.Stops.{Ends, all_same, stop}
use Rattle.order_book.specs.Laws.{at_rest_for}
use Rattle.order_book.specs.Lists.{order_in}
use Rattle.order_book.specs.Orders.{accepts, opposes, price}
use Rattle.order_book.specs.Rules.{Lists, altered, left_of, order_under, size_of, trade_of}
use Rattle.order_book.specs.declared.order.Order.{Order}
use Rattle.orders.specs.declared.row.Ending.TheVariants.{Expired}
use Rattle.orders.specs.declared.row.Row.{Row}
use Rattle.terms.specs.Pricing.{price_of}
use Rattle.terms.specs.declared.pricing.Pricing.{Pricing}
use Rattle.terms.specs.declared.pricing.Pricing.TheVariants.{Market, Limit}
use Rattle.texts.specs.declared.values.Price.{Price}
use Rattle.texts.specs.declared.values.Time.{Time}
use Rattle.venue.specs.Acts.{deal_of, ledger_of, step_of, told_by}
use Rattle.venue.specs.Books.{Books}
use Rattle.venue.specs.Ledger.{Ledger, changed, expired_as}
use Rattle.venue.specs.Trading.{filling}

-- every number is of one order at most
abbrev pub Apart : Lists → Type 0
Apart b = (n : ℕ) → Once n (b.resting ++ b.waiting)

-- ---- two orders that trade

own_side : (s : Side) → opposes s s ≡ true → ⊥
own_side Buy h = both_ways false refl h
own_side Sell h = both_ways false refl h

-- the waiting order a and the best for it, among those in the book
record Meet (rs ws : List Order) (a o : Order) : Type 0 where
  passive : order_in (rs ++ a ∷ ws) o.number ≡ Some o
  aggressive : order_in (rs ++ a ∷ ws) a.number ≡ Some a
  apart : o.number ≡ a.number → ⊥
  crossed : crosses a o ≡ true

meets : (rs ws : List Order) (a o : Order) → Apart (record { resting = rs; waiting = a ∷ ws }) → best a rs ≡ Some o
    → Meet rs ws a o
meets rs ws a o u f =
    let t = best_some lit_rule lit_keeps a o rs f in
    let front : Once o.number (t.before ++ o ∷ t.after) =
    subst (Once o.number) t.split (once_front o.number rs (a ∷ ws) (u o.number)) in
    let here : order_in rs o.number ≡ Some o =
    ap (λ (l : List Order). order_in l o.number) t.split ∙ mid o t.before t.after front in
    let first : order_in (rs ++ a ∷ ws) o.number ≡ Some o =
    both rs (a ∷ ws) o.number ∙ ap (λ p. option_or p (order_in (a ∷ ws) o.number)) here in
    let second : order_in (rs ++ a ∷ ws) a.number ≡ Some a = mid a rs ws (u a.number) in
    record {
      passive = first;
      aggressive = second;
      apart = λ e.
          let one : Some o ≡ Some a = sym first ∙ ap (order_in (rs ++ a ∷ ws)) e ∙ second in
          let is : o ≡ a = cc in
          own_side a.side (subst (λ (x : Order). opposes a.side x.side ≡ true) is
          (and_parts (opposes a.side o.side) _ (and_parts (eqb a.instrument o.instrument) _ t.fitting).1).0);
      crossed = t.fitting;
    }

-- ---- the orders follow

expires : (is : List Instrument) (t : Time) (n : ℕ) (l : Ledger) (b : Lists) (o : Option Row) → Mirrors l.rows b
    → OnceIn n b → under l.rows n ≡ o → Mirrors (expired_as is t n o l).rows (altered b n None)
expires is t n l b (Some r) k u e = withdraws is t n Expired r.client l b (altered b n None) k u refl
expires is t n l b None k u e = λ m. go m (cases_eq n m)
  where
    go : (m : ℕ) → (n ≡ m) ⊎ (n ≡ m → ⊥) → order_under (altered b n None) m ≡ open_order m (under l.rows m)
    go m (inl q) = subst (λ i. order_under (altered b n None) i ≡ open_order i (under l.rows i)) q
        (altered_none b n u ∙ sym (ap (open_order n) e))
    go m (inr ne) = altered_other b n m None ne ∙ k m

by_end : (t : Time) (b : Books) (rs ws : List Order) (p : Event × Lists)
    → Mirrors b.rows (record { resting = rs; waiting = ws }) → Apart (record { resting = rs; waiting = ws })
    → Ends lit_rule rs ws p → Mirrors (told_by t p.0 b).rows p.1
by_end t b rs [] p k u h = subst (λ (x : Event × Lists). Mirrors (told_by t x.0 b).rows x.1) (sym h) k
by_end t b rs (a ∷ ws) p k u (inr h) =
    subst (λ (x : Event × Lists). Mirrors (told_by t x.0 b).rows x.1) (sym h.is)
    (expires b.instruments t a.number (ledger_of b) (record { resting = rs; waiting = a ∷ ws })
    (under b.rows a.number) k
    (once_in a.number (record { resting = rs; waiting = a ∷ ws }) (u a.number)) refl)
by_end t b rs (a ∷ ws) p k u (inl h) =
    let o = h.other in
    let c : Lists = record { resting = rs; waiting = a ∷ ws } in
    let q : ℕ = size_of a o in
    let d = deal_of b q (price o) in
    let x = meets rs ws a o u h.best_is in
    let one = opened_by o.number (under b.rows o.number) o (sym (k o.number) ∙ x.passive) in
    let two = opened_by a.number (under b.rows a.number) a (sym (k a.number) ∙ x.aggressive) in
    let has_one : one.row.leaves ≡ o.quantity = ap (λ (y : Order). y.quantity) one.same in
    let has_two : two.row.leaves ≡ a.quantity = ap (λ (y : Order). y.quantity) two.same in
    let some_one = one.some in
    let some_two = two.some in
    let some : 0 < q = omega arith in
    let fits_one : q ≤ o.quantity = omega arith in
    let fits_two : q ≤ a.quantity = omega arith in
    let l = changed b.instruments t o.number (Fill (filling d Added)) (ledger_of b) in
    let first = fills b.instruments t o.number (filling d Added) (ledger_of b) c o k (once_in o.number c (u o.number))
    x.passive some fits_one in
    let second = fills b.instruments t a.number (filling d Removed) l (altered c o.number (left_of q o.quantity)) a
    first
    (once_altered c o.number a.number (left_of q o.quantity) x.apart (once_in a.number c (u a.number)))
    (altered_other c o.number a.number (left_of q o.quantity) x.apart ∙ x.aggressive) some fits_two in
    subst (λ (y : Event × Lists). Mirrors (told_by t y.0 b).rows y.1) (sym h.is) second

-- where the search for an event stops the orders are the same
stopped : (rows : List Row) (x : Lists) (rs ws : List Order) → rs ++ ws ≡ x.resting ++ x.waiting → Mirrors rows x
    → Mirrors rows (record { resting = rs; waiting = ws })
stopped rows x rs ws e k n = ap (λ (l : List Order). order_in l n) e ∙ k n

apart_stopped : (x : Lists) (rs ws : List Order) → rs ++ ws ≡ x.resting ++ x.waiting → Apart x
    → Apart (record { resting = rs; waiting = ws })
apart_stopped x rs ws e u n = subst (Once n) (sym e) (u n)

pub taken : (t : Time) (b : Books) (x x' : Lists) (v : Event) → Mirrors b.rows x → Apart x → v ≡ (next x).0
    → x' ≡ (next x).1 → Mirrors (told_by t v b).rows x'
taken t b x x' v k u e f =
    let s = stop lit_rule x.resting x.waiting in
    let same = all_same lit_rule x.resting x.waiting s in
    subst (λ (w : Event). Mirrors (told_by t w b).rows x') (sym e)
    (subst (Mirrors (told_by t (next x).0 b).rows) (sym f)
    (by_end t b s.at_rest s.in_wait (next x) (stopped b.rows x s.at_rest s.in_wait same k)
    (apart_stopped x s.at_rest s.in_wait same u) s.ends))

-- ---- a trade is within what its orders allow

takes_price : (s : Side) (t u : Pricing) → takes s t u ≡ true → accepts s t (price_of u) ≡ true
takes_price s t Market h = absurd (both_ways false refl h)
takes_price s t (Limit p) h = h

own_price : (s : Side) (p : Price) → accepts s (Limit p) p ≡ true
own_price Buy p = Prim.grind (arith, ints)
own_price Sell p = Prim.grind (arith, ints)

own_limit : (s v : Side) (t u : Pricing) → takes s t u ≡ true → accepts v u (price_of u) ≡ true
own_limit s v t Market h = absurd (both_ways false refl h)
own_limit s v t (Limit p) h = own_price v p

within_rows : (rows : List Row) (b : Lists) (p a q : ℕ) (r s : Row) → under rows p ≡ Some r → under rows a ≡ Some s
    → crosses (as_order a s) (as_order p r) ≡ true → q ≤ r.leaves → q ≤ s.leaves
    → FirstServed (as_order a s) p (at_rest_for a b) → Within rows b p a q (price (as_order p r))
within_rows rows b p a q r s e f c x y first =
    let one = and_parts (eqb s.terms.instrument r.terms.instrument) _ c in
    let two = and_parts (opposes s.terms.side r.terms.side) _ one.1 in
    record {
      passive = r;
      aggressive = s;
      resting = e;
      coming = f;
      instrument = eqb-true s.terms.instrument r.terms.instrument one.0;
      sides = two.0;
      enough = (x, y);
      fair = (own_limit s.terms.side r.terms.side _ _ two.1, takes_price s.terms.side _ _ two.1);
      first = first;
    }

found_served : (o : Option Order) (a : Order) (p : ℕ) (os : List Order) → o ≡ Some a
    → MatchOption o ⊥ (λ x. FirstServed x p os) → FirstServed a p os
found_served o a p os e h = subst (λ (w : Option Order). MatchOption w ⊥ (λ x. FirstServed x p os)) e h

within_by : (v : Books) (x : Lists) (rs ws : List Order) (p : Event × Lists) → rs ++ ws ≡ x.resting ++ x.waiting
    → Mirrors v.rows x → Apart x → Ends lit_rule rs ws p → Served x p.0 → Stepped v.rows x (step_of p.0 v)
within_by v x rs [] p same k u h served =
    subst (λ (y : Event × Lists). Stepped v.rows x (step_of y.0 v)) (sym h) tt
within_by v x rs (a ∷ ws) p same k u (inr h) served =
    subst (λ (y : Event × Lists). Stepped v.rows x (step_of y.0 v)) (sym h.is) tt
within_by v x rs (a ∷ ws) p same k u (inl h) served =
    let o = h.other in
    let m = meets rs ws a o (apart_stopped x rs (a ∷ ws) same u) h.best_is in
    let at_one : order_under x o.number ≡ Some o = ap (λ (l : List Order). order_in l o.number) (sym same)
    ∙ m.passive in
    let at_two : order_under x a.number ≡ Some a = ap (λ (l : List Order). order_in l a.number) (sym same)
    ∙ m.aggressive in
    let one = opened_by o.number (under v.rows o.number) o (sym (k o.number) ∙ at_one) in
    let two = opened_by a.number (under v.rows a.number) a (sym (k a.number) ∙ at_two) in
    let has_one : one.row.leaves ≡ o.quantity = ap (λ (y : Order). y.quantity) one.same in
    let has_two : two.row.leaves ≡ a.quantity = ap (λ (y : Order). y.quantity) two.same in
    let fits_one : size_of a o ≤ one.row.leaves = omega arith in
    let fits_two : size_of a o ≤ two.row.leaves = omega arith in
    let said : Served x (trade_of a o (price o)) = subst (λ (y : Event × Lists). Served x y.0) h.is served in
    let first : FirstServed a o.number (at_rest_for a.number x) =
    found_served (order_under x a.number) a o.number (at_rest_for a.number x) at_two said in
    let c : crosses (as_order a.number two.row) (as_order o.number one.row) ≡ true =
    subst (λ (y : Order). crosses y (as_order o.number one.row) ≡ true) (sym two.same)
    (subst (λ (y : Order). crosses a y ≡ true) (sym one.same) m.crossed) in
    subst (λ (y : Event × Lists). Stepped v.rows x (step_of y.0 v)) (sym h.is)
    (subst (λ (y : Order). Within v.rows x o.number a.number (size_of a o) (price y)) one.same
    (within_rows v.rows x o.number a.number (size_of a o) one.row two.row one.is two.is c fits_one fits_two
    (subst (λ (y : Order). FirstServed y o.number (at_rest_for a.number x)) (sym two.same) first)))

pub within : (v : Books) (x : Lists) (e : Event) → Mirrors v.rows x → Apart x → e ≡ (next x).0 → Served x e
    → Stepped v.rows x (step_of e v)
within v x e k u is served =
    let s = stop lit_rule x.resting x.waiting in
    subst (λ (w : Event). Stepped v.rows x (step_of w v)) (sym is)
    (within_by v x s.at_rest s.in_wait (next x) (all_same lit_rule x.resting x.waiting s) k u s.ends
    (subst (Served x) is served))
