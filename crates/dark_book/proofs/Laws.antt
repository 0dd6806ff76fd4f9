-- The laws of the book, said of its next event. Assumes nothing.
use Rattle.std.specs.Prelude.{◌≡◌, ℕ, ◌<◌, ◌≤◌, true, false, ◌&&◌, List, [], ◌∷◌, Some, None, MatchOption, Option, refl}
use Rattle.std.proofs.Common.{eqb, sym, ap, ◌∙◌, subst, arith}
use Rattle.std.proofs.lemmas.Bool.{and_from, and_parts, both_ways, eq-eqb, ltb-false, ltb-true}
use Rattle.std.specs.List.{All}
use Rattle.matching.specs.declared.event.Event.{Event}
use Rattle.matching.specs.declared.event.Event.TheVariants.{Nothing, Expired, Trade}
use Rattle.order_book.specs.Laws.{Beaten, Chosen, ChosenFrom, Unbeaten, at_rest_for, before, open_orders}
use Rattle.order_book.specs.Lists.{order_in}
use Rattle.order_book.specs.Orders.{accepts, opposes}
use Rattle.order_book.specs.Rules.{Lists, order_under}
use Rattle.order_book.specs.declared.order.Order.{Order}
use Rattle.order_book.proofs.Ends as ends
use Rattle.texts.specs.declared.values.Price.{Price}
use Rattle.dark_book.specs.Keeping.{dark_keeps, meets_faces}
use Rattle.dark_book.specs.Laws.{Against, AsLarge, AtMidpoint, Enough, Larger, LargestServed, Served}
use Rattle.dark_book.specs.Rules.{at_midpoint as at_mid, dark_rule, meets, midpoint_of, takes_part}

pub enough : (ms : List (Option Price)) (b : Lists) (n : ℕ) → n ≡ open_orders b → Enough ms n b
enough ms b n e = ends.enough (dark_rule ms) (dark_keeps ms) n b (omega arith)

-- ---- the price of a trade

-- where two meet there is a midpoint, and it is the price
there_is : (m : Option Price) (a o : Order) → meets m a o ≡ true → m ≡ Some (at_mid m)
there_is None a o h =
    let p = and_parts (eqb a.instrument o.instrument) _ h in
    let q = and_parts (opposes a.side o.side) (false && false) p.1 in
    absurd (both_ways false refl (and_parts false false q.1).0)
there_is (Some m) a o h = refl

-- the first of those at rest that were chosen from: what an order is under its number
priced : (ms : List (Option Price)) (a : Order) (w : Option Order) (z : Price) (P Q : Order → Type 0)
    → MatchOption w ⊥ (λ o. (meets (midpoint_of ms a.instrument) a o ≡ true)
    × (z ≡ at_mid (midpoint_of ms a.instrument)) × P o × Q o)
    → midpoint_of ms a.instrument ≡ Some z
priced ms a None z P Q h = absurd h
priced ms a (Some o) z P Q h = there_is (midpoint_of ms a.instrument) a o h.0 ∙ ap Some (sym h.1)

at_rest : (ms : List (Option Price)) (w : Option Order) (p n : ℕ) (z : Price) (b : Lists)
    → MatchOption w ⊥ (λ a. ChosenFrom (dark_rule ms) a p z (at_rest_for n b))
    → MatchOption w ⊥ (λ a. midpoint_of ms a.instrument ≡ Some z)
at_rest ms None p n z b h = h
at_rest ms (Some a) p n z b h = priced ms a (order_in (at_rest_for n b) p) z _ _ h

pub at_midpoint : (ms : List (Option Price)) (b : Lists) (e : Event) → Chosen (dark_rule ms) b e → AtMidpoint ms b e
at_midpoint ms b Nothing h = tt
at_midpoint ms b (Expired n) h = tt
at_midpoint ms b (Trade None None q z) h = h
at_midpoint ms b (Trade None (Some n) q z) h = absurd h
at_midpoint ms b (Trade (Some p) None q z) h = h
at_midpoint ms b (Trade (Some p) (Some n) q z) h = at_rest ms (order_under b n) p n z b h

-- ---- whom a trade passes over

-- who stands against an order that takes part meets it
meets_it : (m : Option Price) (a o x : Order) (z : Price) → meets m a o ≡ true → z ≡ at_mid m → Against a z x
    → meets m a x ≡ true
meets_it None a o x z h e g = absurd (both_ways false refl (and_parts false false
    (and_parts (opposes a.side o.side) (false && false) (and_parts (eqb a.instrument o.instrument) _ h).1).1).0)
meets_it (Some m) a o x z h e g =
    let f = meets_faces (Some m) a o h in
    and_from _ _ (eq-eqb _ _ g.instrument)
    (and_from _ _ g.sides (and_from _ _ f.taken (subst (λ (y : Price). accepts x.side x.pricing y ≡ true) e g.taken)))

largest : (ms : List (Option Price)) (a : Order) (w : Option Order) (z : Price) (xs os : List Order)
    → MatchOption w ⊥ (λ o. (meets (midpoint_of ms a.instrument) a o ≡ true)
    × (z ≡ at_mid (midpoint_of ms a.instrument))
    × All (Beaten (dark_rule ms) a o) xs × All (Unbeaten (dark_rule ms) a o) os)
    → MatchOption w ⊥ (λ o. Against a z o × All (Larger a z o) xs × All (AsLarge a z o) os)
largest ms a None z xs os h = h
largest ms a (Some o) z xs os h =
    let m = midpoint_of ms a.instrument in
    let f = meets_faces m a o h.0 in (
      record {
        instrument = f.instrument;
        sides = f.sides;
        taken = subst (λ (y : Price). accepts o.side o.pricing y ≡ true) (sym h.1) f.given;
      },
      λ k d lt g. ltb-true _ _ (h.2 k d lt (meets_it m a o _ z h.0 h.1 g)),
      λ k d lt g. ltb-false _ _ (h.3 k d lt (meets_it m a o _ z h.0 h.1 g)),
    )

served_from : (ms : List (Option Price)) (w : Option Order) (p n : ℕ) (z : Price) (b : Lists)
    → MatchOption w ⊥ (λ a. ChosenFrom (dark_rule ms) a p z (at_rest_for n b))
    → MatchOption w ⊥ (λ a. LargestServed a p z (at_rest_for n b))
served_from ms None p n z b h = h
served_from ms (Some a) p n z b h =
    largest ms a (order_in (at_rest_for n b) p) z (before p (at_rest_for n b)) (at_rest_for n b) h

pub served : (ms : List (Option Price)) (b : Lists) (e : Event) → Chosen (dark_rule ms) b e → Served b e
served ms b Nothing h = tt
served ms b (Expired n) h = tt
served ms b (Trade None n q z) h = h
served ms b (Trade (Some p) None q z) h = h
served ms b (Trade (Some p) (Some n) q z) h = served_from ms (order_under b n) p n z b h
