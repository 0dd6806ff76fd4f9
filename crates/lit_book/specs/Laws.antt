-- Laws of the book, in the words of a trader. Assumes nothing.
use Rattle.std.specs.Prelude.{◌≡◌, ℕ, ◌<◌, Bool, true, false, not, ◌&&◌, List, [], ◌∷◌, ◌++◌, length, pos, Some, None, MatchOption, ◌==◌, slice_index_or}
use Rattle.std.specs.List.{All}
use Rattle.codes.specs.declared.order.Side.{Side}
use Rattle.codes.specs.declared.order.Side.TheVariants.{Buy, Sell}
use Rattle.matching.specs.declared.event.Event.{Event}
use Rattle.matching.specs.declared.event.Event.TheVariants.{Nothing, Expired, Trade}
use Rattle.terms.specs.declared.lifetime.Lifetime.TheVariants.{Day}
use Rattle.terms.specs.declared.pricing.Pricing.TheVariants.{Limit}
use Rattle.texts.specs.declared.values.Price.{Price}
use Rattle.order_book.specs.Laws.{EnoughBy, at_rest_for, before}
use Rattle.order_book.specs.Lists.{order_in}
use Rattle.order_book.specs.Orders.{opposes, price}
use Rattle.order_book.specs.Rules.{Lists, order_under}
use Rattle.order_book.specs.declared.order.Order.{Order}
use Rattle.lit_book.specs.Orders.{crosses, prefers}
use Rattle.lit_book.specs.Rules.{lit_rule, next}

-- ---- no order at rest that is better priced, or as good and earlier, is passed over

-- two orders of one side and one instrument
abbrev pub alike : Order → Order → Bool
alike o x = o.instrument == x.instrument && not (opposes o.side x.side)

-- x is priced worse than o for the side s, or is no order like it
abbrev pub Worse : Side → Order → Order → Type 0
Worse s o x = alike o x ≡ true → prefers s (price o) (price x) ≡ true

-- x is priced no better than o
abbrev pub NoBetter : Side → Order → Order → Type 0
NoBetter s o x = alike o x ≡ true → prefers s (price x) (price o) ≡ false

-- a trades with the order of the number p among those at rest: each before it is priced worse, and none at all
-- better
abbrev pub FirstServed : Order → ℕ → List Order → Type 0
FirstServed a p os =
    MatchOption (order_in os p) ⊥ (λ o. All (Worse a.side o) (before p os) × All (NoBetter a.side o) os)

abbrev pub Served : Lists → Event → Type 0
Served b Nothing = Unit {0}
Served b (Expired n) = Unit {0}
Served b (Trade (Some p) (Some n) q z) =
    MatchOption (order_under b n) ⊥ (λ a. FirstServed a p (at_rest_for n b))
Served b (Trade (Some p) None q z) = ⊥
Served b (Trade None n q z) = ⊥

-- ---- no two orders at rest cross

abbrev pub Uncrossed : List Order → Type 0
Uncrossed os =
    (i j : ℕ) (d : Order) → i < length os → j < length os
    → crosses (slice_index_or os i d) (slice_index_or os j d) ≡ false

-- ---- events come to an end

-- n events are enough: then there is none
abbrev pub Enough : ℕ → Lists → Type 0
Enough n b = EnoughBy lit_rule n b

-- ---- worked examples

abbrev pub at_price : ℕ → Price
at_price p = record { raw = pos p }

abbrev pub day_order : ℕ → Side → ℕ → ℕ → Order
day_order n s p q = record {
  number = n;
  instrument = 0;
  side = s;
  pricing = Limit (at_price p);
  lifetime = Day;
  quantity = q;
}

-- sells of 50 at 101 and 50 at 100, then a buy of 80 at 101, trade 50 at 100 and 30 at 101
abbrev pub example : Lists
example = record {
  resting = [];
  waiting = day_order 1 Sell 101 50 ∷ day_order 2 Sell 100 50 ∷ day_order 3 Buy 101 80 ∷ [];
}

abbrev pub Worked : Type 0
Worked =
    ((next example).0 ≡ Trade (Some 2) (Some 3) 50 (at_price 100))
    × ((next (next example).1).0 ≡ Trade (Some 1) (Some 3) 30 (at_price 101))
    × (next (next (next example).1).1 ≡ (Nothing, record { resting = day_order 1 Sell 101 20 ∷ []; waiting = [] }))

-- of two sells at one price, a trade with the second to rest is against the law
abbrev pub equals : Lists
equals = record {
  resting = day_order 1 Sell 100 50 ∷ day_order 2 Sell 100 50 ∷ [];
  waiting = day_order 3 Buy 100 50 ∷ [];
}

abbrev pub LastRefused : Type 0
LastRefused = Served equals (Trade (Some 2) (Some 3) 50 (at_price 100)) → ⊥
