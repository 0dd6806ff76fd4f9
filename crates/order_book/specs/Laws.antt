-- Laws of a book by any pairing rule, in the words of a trader. Assumes nothing.
use Rattle.std.specs.Prelude.{◌≡◌, ℕ, ◌+◌, true, false, not, List, [], ◌++◌, length, Some, None, MatchOption, ◌==◌}
use Rattle.std.specs.List.{All, take_while}
use Rattle.std.specs.Fn.{iterate}
use Rattle.matching.specs.declared.event.Event.{Event}
use Rattle.matching.specs.declared.event.Event.TheVariants.{Nothing, Expired, Trade}
use Rattle.texts.specs.declared.values.Price.{Price}
use Rattle.order_book.specs.declared.order.Order.{Order}
use Rattle.order_book.specs.Orders.{accepts}
use Rattle.order_book.specs.Lists.{order_in}
use Rattle.order_book.specs.Pairing.{Rule}
use Rattle.order_book.specs.Rules.{Lists, next_by, order_under}

-- ---- a trade is between two orders of the book, and the price is one that both take

abbrev pub Takes : Lists → ℕ → Price → Type 0
Takes b n z = MatchOption (order_under b n) ⊥ (λ o. accepts o.side o.pricing z ≡ true)

abbrev pub Fair : Lists → Event → Type 0
Fair b Nothing = Unit {0}
Fair b (Expired n) = Unit {0}
Fair b (Trade None n q z) = ⊥
Fair b (Trade (Some p) None q z) = ⊥
Fair b (Trade (Some p) (Some n) q z) = Takes b p z × Takes b n z

-- ---- nobody at rest that fits and is preferred is passed over, nor one as good that rested earlier

-- the orders of a list that stand before the one of a number
abbrev pub before : ℕ → List Order → List Order
before n os = take_while (λ o. not (o.number == n)) os

-- those at rest when the waiting order of the number n trades: those at rest before the call, and behind them
-- those that waited before it and came to rest in this very call
abbrev pub at_rest_for : ℕ → Lists → List Order
at_rest_for n b = b.resting ++ before n b.waiting

-- where x fits, a would rather trade with o
abbrev pub Beaten : Rule → Order → Order → Order → Type 0
Beaten r a o x = r.fits a x ≡ true → r.beats a o x ≡ true

-- where x fits, a would not rather trade with x
abbrev pub Unbeaten : Rule → Order → Order → Order → Type 0
Unbeaten r a o x = r.fits a x ≡ true → r.beats a x o ≡ false

-- a trades with the order of the number p among those at rest, which fits, at the price z: each before it that fits is
-- beaten by it, and none at all beats it
abbrev pub ChosenFrom : Rule → Order → ℕ → Price → List Order → Type 0
ChosenFrom r a p z os =
    MatchOption (order_in os p) ⊥
    (λ o. (r.fits a o ≡ true) × (z ≡ r.price a o) × All (Beaten r a o) (before p os) × All (Unbeaten r a o) os)

abbrev pub Chosen : Rule → Lists → Event → Type 0
Chosen r b Nothing = Unit {0}
Chosen r b (Expired n) = Unit {0}
Chosen r b (Trade (Some p) (Some n) q z) = MatchOption (order_under b n) ⊥ (λ a. ChosenFrom r a p z (at_rest_for n b))
Chosen r b (Trade (Some p) None q z) = ⊥
Chosen r b (Trade None n q z) = ⊥

-- ---- with no event nothing waits

abbrev pub Idle : Event → Lists → Type 0
Idle Nothing b = b.waiting ≡ []
Idle (Expired n) b = Unit {0}
Idle (Trade p n q z) b = Unit {0}

-- ---- events come to an end

abbrev pub open_orders : Lists → ℕ
open_orders b = length b.resting + length b.waiting

-- the book after so many events
abbrev pub after_events : Rule → ℕ → Lists → Lists
after_events r n b = iterate (λ (x : Lists). (next_by r x).1) n b

-- n events are enough: then there is none
abbrev pub EnoughBy : Rule → ℕ → Lists → Type 0
EnoughBy r n b = (next_by r (after_events r n b)).0 ≡ Nothing
