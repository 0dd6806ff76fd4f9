-- Laws of the book, in the words of a trader. Assumes nothing.
use Rattle.std.specs.Prelude.{◌≡◌, ℕ, ◌<◌, ◌≤◌, true, List, [], ◌∷◌, pos, replicate, Some, None, MatchOption, Option}
use Rattle.std.specs.List.{All}
use Rattle.codes.specs.declared.order.Side.{Side}
use Rattle.codes.specs.declared.order.Side.TheVariants.{Buy, Sell}
use Rattle.matching.specs.declared.event.Event.{Event}
use Rattle.matching.specs.declared.event.Event.TheVariants.{Nothing, Expired, Trade}
use Rattle.terms.specs.declared.lifetime.Lifetime.{Lifetime}
use Rattle.terms.specs.declared.lifetime.Lifetime.TheVariants.{Day, ImmediateOrCancel}
use Rattle.terms.specs.declared.pricing.Pricing.TheVariants.{Limit}
use Rattle.texts.specs.declared.values.Price.{Price}
use Rattle.order_book.specs.Laws.{EnoughBy, at_rest_for, before}
use Rattle.order_book.specs.Lists.{order_in}
use Rattle.order_book.specs.Orders.{accepts, opposes}
use Rattle.order_book.specs.Rules.{Lists, order_under}
use Rattle.order_book.specs.declared.order.Order.{Order}
use Rattle.dark_book.specs.Rules.{dark_rule, midpoint_of, next}

-- ---- a trade is at the midpoint of its instrument at that moment; so without a midpoint there is none

abbrev pub AtMidpoint : List (Option Price) → Lists → Event → Type 0
AtMidpoint ms b Nothing = Unit {0}
AtMidpoint ms b (Expired n) = Unit {0}
AtMidpoint ms b (Trade p None q z) = ⊥
AtMidpoint ms b (Trade p (Some n) q z) =
    MatchOption (order_under b n) ⊥ (λ a. midpoint_of ms a.instrument ≡ Some z)

-- ---- nobody larger at rest on the other side that takes part is passed over, nor an equal that rested earlier

-- x stands against a in its instrument and takes the price z
pub record Against (a : Order) (z : Price) (x : Order) : Type 0 where
  pub instrument : a.instrument ≡ x.instrument
  pub sides : opposes a.side x.side ≡ true
  pub taken : accepts x.side x.pricing z ≡ true

-- o is larger than x, or x is not against a
abbrev pub Larger : Order → Price → Order → Order → Type 0
Larger a z o x = Against a z x → x.quantity < o.quantity

-- and as large
abbrev pub AsLarge : Order → Price → Order → Order → Type 0
AsLarge a z o x = Against a z x → x.quantity ≤ o.quantity

-- a trades at the price z with the order of the number p among those at rest: each before it is smaller, and none at all
-- larger
abbrev pub LargestServed : Order → ℕ → Price → List Order → Type 0
LargestServed a p z os =
    MatchOption (order_in os p) ⊥
    (λ o. Against a z o × All (Larger a z o) (before p os) × All (AsLarge a z o) os)

abbrev pub Served : Lists → Event → Type 0
Served b Nothing = Unit {0}
Served b (Expired n) = Unit {0}
Served b (Trade (Some p) (Some n) q z) =
    MatchOption (order_under b n) ⊥ (λ a. LargestServed a p z (at_rest_for n b))
Served b (Trade (Some p) None q z) = ⊥
Served b (Trade None n q z) = ⊥

-- ---- events come to an end, as long as the midpoints stay

-- n events are enough: then there is none
abbrev pub Enough : List (Option Price) → ℕ → Lists → Type 0
Enough ms n b = EnoughBy (dark_rule ms) n b

-- ---- worked examples

abbrev pub at_price : ℕ → Price
at_price p = record { raw = pos p }

abbrev pub order : ℕ → Side → ℕ → Lifetime → ℕ → Order
order n s p t q = record {
  number = n;
  instrument = 0;
  side = s;
  pricing = Limit (at_price p);
  lifetime = t;
  quantity = q;
}

-- the first instrument's midpoint is 100, and then it is gone
abbrev pub hundred : List (Option Price)
hundred = Some (at_price 100) ∷ replicate 31 None

abbrev pub gone : List (Option Price)
gone = replicate 32 None

-- sells of 30 at 100, 50 at 99 and 50 at 98 at rest, and a buy of 80 at 100
abbrev pub example : Lifetime → Lists
example t = record {
  resting = order 1 Sell 100 Day 30 ∷ order 2 Sell 99 Day 50 ∷ order 3 Sell 98 Day 50 ∷ [];
  waiting = order 4 Buy 100 t 80 ∷ [];
}

-- it trades 50 with the second at 100, the first of the larger ones
abbrev pub after_first : Lifetime → Lists
after_first t = (next hundred (example t)).1

-- then 30 with the third; with the midpoint gone before, what is left of a Day order rests, and one that is Immediate or
-- Cancel expires
abbrev pub Worked : Type 0
Worked =
    ((t : Lifetime) → (next hundred (example t)).0 ≡ Trade (Some 2) (Some 4) 50 (at_price 100))
    × ((t : Lifetime) → (next hundred (after_first t)).0 ≡ Trade (Some 3) (Some 4) 30 (at_price 100))
    × (next gone (after_first Day) ≡ (
      Nothing,
      record {
        resting = order 1 Sell 100 Day 30 ∷ order 3 Sell 98 Day 50 ∷ order 4 Buy 100 Day 30 ∷ [];
        waiting = [];
      },
    ))
    × (next gone (after_first ImmediateOrCancel) ≡ (
      Expired 4,
      record {
        resting = order 1 Sell 100 Day 30 ∷ order 3 Sell 98 Day 50 ∷ [];
        waiting = [];
      },
    ))

-- of two equal sells, a trade with the second to rest is against the law; and one with a smaller
abbrev pub LastRefused : Type 0
LastRefused = Served (example Day) (Trade (Some 3) (Some 4) 50 (at_price 100)) → ⊥

abbrev pub SmallerRefused : Type 0
SmallerRefused = Served (example Day) (Trade (Some 1) (Some 4) 30 (at_price 100)) → ⊥
