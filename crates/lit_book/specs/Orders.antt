-- When an order crosses one at rest, and which price a side prefers. Assumes nothing.
use Rattle.std.specs.Prelude.{Bool, false, ◌&&◌, ◌==◌, int_lt}
use Rattle.codes.specs.declared.order.Side.{Side}
use Rattle.codes.specs.declared.order.Side.TheVariants.{Buy, Sell}
use Rattle.terms.specs.declared.pricing.Pricing.{Pricing}
use Rattle.terms.specs.declared.pricing.Pricing.TheVariants.{Market, Limit}
use Rattle.texts.specs.declared.values.Price.{Price}
use Rattle.order_book.specs.Orders.{accepts, opposes}
use Rattle.order_book.specs.declared.order.Order.{Order}

-- whether it takes the price of an order at rest, which is a limit order
abbrev pub takes : Side → Pricing → Pricing → Bool
takes s t Market = false
takes s t (Limit p) = accepts s t p

-- whether a trades with o, which is at rest
abbrev pub crosses : Order → Order → Bool
crosses a o = a.instrument == o.instrument && (opposes a.side o.side && takes a.side a.pricing o.pricing)

-- whether a side would rather trade at the price p than at q
abbrev pub prefers : Side → Price → Price → Bool
prefers Buy p q = int_lt p.raw q.raw
prefers Sell p q = int_lt q.raw p.raw
