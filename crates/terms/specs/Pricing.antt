-- An order's type and its limit. Assumes nothing.
use Rattle.std.specs.Prelude.{pos}
use Rattle.codes.specs.declared.order.OrderType.{OrderType}
use Rattle.codes.specs.declared.order.OrderType.TheVariants as order_type
use Rattle.terms.specs.declared.pricing.Pricing.{Pricing}
use Rattle.terms.specs.declared.pricing.Pricing.TheVariants.{Market, Limit}
use Rattle.texts.specs.declared.values.Price.{Price}

abbrev pub order_type_of : Pricing → OrderType
order_type_of Market = order_type.Market
order_type_of (Limit p) = order_type.Limit

-- by the price that comes with it; a market order keeps none
abbrev pub pricing_of : OrderType → Price → Pricing
pricing_of order_type.Market p = Market
pricing_of order_type.Limit p = Limit p

-- the limit; 0 of a market order, which has none
abbrev pub price_of : Pricing → Price
price_of Market = record { raw = pos 0 }
price_of (Limit p) = p
