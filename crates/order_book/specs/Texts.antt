-- How an order of the book is written. Assumes nothing.
use Rattle.std.specs.Prelude.{ℕ, List, ◌++◌, codes, decimal}
use Rattle.codes.specs.Order.{side_text}
use Rattle.texts.specs.Prices.{price_text}
use Rattle.terms.specs.declared.pricing.Pricing.{Pricing}
use Rattle.terms.specs.declared.pricing.Pricing.TheVariants.{Market, Limit}
use Rattle.order_book.specs.declared.order.Order.{Order}

abbrev pub pricing_text : Pricing → List ℕ
pricing_text Market = codes "market"
pricing_text (Limit p) = price_text p.raw

abbrev pub order_text : Order → List ℕ
order_text o =
    decimal o.instrument ++ (codes " " ++ (side_text o.side ++ (codes " " ++ (decimal o.quantity ++ (codes " at "
    ++ (pricing_text o.pricing ++ (codes ": " ++ decimal o.number)))))))
