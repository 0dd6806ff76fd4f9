-- An order of a book: which price it takes, whether it rests, and how it is changed. Assumes nothing.
use Rattle.std.specs.Prelude.{ℕ, Bool, true, false, ◌||◌, nat_lt, int_le, int_lt}
use Rattle.codes.specs.declared.order.Side.{Side}
use Rattle.codes.specs.declared.order.Side.TheVariants.{Buy, Sell}
use Rattle.terms.specs.declared.lifetime.Lifetime.{Lifetime}
use Rattle.terms.specs.declared.lifetime.Lifetime.TheVariants.{Day, ImmediateOrCancel}
use Rattle.terms.specs.declared.pricing.Pricing.{Pricing}
use Rattle.terms.specs.declared.pricing.Pricing.TheVariants.{Market, Limit}
use Rattle.terms.specs.Pricing.{price_of}
use Rattle.texts.specs.declared.values.Price.{Price}
use Rattle.order_book.specs.declared.order.Order.{Order}

-- whether an order takes a price: a buy at its limit or below, a sell at its limit or above, a market order any
abbrev pub accepts : Side → Pricing → Price → Bool
accepts s Market p = true
accepts Buy (Limit l) p = int_le p.raw l.raw
accepts Sell (Limit l) p = int_le l.raw p.raw

abbrev pub opposes : Side → Side → Bool
opposes Buy Buy = false
opposes Buy Sell = true
opposes Sell Buy = true
opposes Sell Sell = false

-- the limit; a market order has none, and never rests
abbrev pub price : Order → Price
price o = price_of o.pricing

-- of what does not trade, only a Day limit order comes to rest
abbrev pub is_day : Lifetime → Bool
is_day Day = true
is_day ImmediateOrCancel = false

abbrev pub lasting : Pricing → Lifetime → Bool
lasting Market t = false
lasting (Limit p) t = is_day t

abbrev pub rests : Order → Bool
rests o = lasting o.pricing o.lifetime

-- ---- the same order with another quantity or limit

abbrev pub with_quantity : Order → ℕ → Order
with_quantity o q = record o { quantity = q }

-- a market order stays one
abbrev pub relimited : Pricing → Price → Pricing
relimited Market p = Market
relimited (Limit l) p = Limit p

abbrev pub with_limit : Order → Price → Order
with_limit o p = record o { pricing = relimited o.pricing p }

-- whether p is another than its limit
abbrev pub reprices : Pricing → Price → Bool
reprices Market p = false
reprices (Limit l) p = int_lt l.raw p.raw || int_lt p.raw l.raw

-- a limit order's new price, or a larger quantity of any order, sends it to the back of the waiting
abbrev pub goes_back : Order → ℕ → Price → Bool
goes_back o q p = nat_lt o.quantity q || reprices o.pricing p
