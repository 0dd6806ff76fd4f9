-- The rule of the book, and what comes next by it. Assumes nothing.
use Rattle.std.specs.Prelude.{List, Option}
use Rattle.matching.specs.declared.event.Event.{Event}
use Rattle.order_book.specs.Orders.{price}
use Rattle.order_book.specs.Pairing.{Rule, best as best_by}
use Rattle.order_book.specs.Rules.{Lists, next_by}
use Rattle.order_book.specs.declared.order.Order.{Order}
use Rattle.lit_book.specs.Orders.{crosses, prefers}

-- an order trades with the best priced at rest that it crosses, at that order's limit
abbrev pub lit_rule : Rule
lit_rule = record {
  fits = crosses;
  beats = λ a o x. prefers a.side (price o) (price x);
  price = λ a o. price o;
}

-- the best order for a, and the first of equals
abbrev pub best : Order → List Order → Option Order
best a os = best_by lit_rule a os

-- the next event, and the book after it
abbrev pub next : Lists → Event × Lists
next b = next_by lit_rule b
