-- The rule of the book, by the midpoints that it was told, and what comes next by it. Assumes nothing.
use Rattle.std.specs.Prelude.{ℕ, Bool, false, ◌&&◌, List, pos, Some, None, Option, ◌==◌, nat_lt, slice_get}
use Rattle.matching.specs.declared.event.Event.{Event}
use Rattle.order_book.specs.Orders.{accepts, opposes}
use Rattle.order_book.specs.Pairing.{Rule}
use Rattle.order_book.specs.Rules.{Lists, next_by}
use Rattle.order_book.specs.declared.order.Order.{Order}
use Rattle.texts.specs.declared.values.Price.{Price}

-- the midpoint of an instrument, if it has one
abbrev pub there : Option (Option Price) → Option Price
there None = None
there (Some m) = m

abbrev pub midpoint_of : List (Option Price) → ℕ → Option Price
midpoint_of ms i = there (slice_get ms i)

-- whether an order takes part at a midpoint: it is not above a buy's limit and not below a sell's; a market order
-- always does, and without a midpoint none
abbrev pub takes_part : Option Price → Order → Bool
takes_part None o = false
takes_part (Some m) o = accepts o.side o.pricing m

abbrev pub at_midpoint : Option Price → Price
at_midpoint None = record { raw = pos 0 }
at_midpoint (Some m) = m

-- a trades with o: of the other side in its instrument, and both take part at the instrument's midpoint
abbrev pub meets : Option Price → Order → Order → Bool
meets m a o =
    a.instrument == o.instrument && (opposes a.side o.side && (takes_part m a && takes_part m o))

-- an order trades with the largest at rest that takes part, at the midpoint
abbrev pub dark_rule : List (Option Price) → Rule
dark_rule ms = record {
  fits = λ a o. meets (midpoint_of ms a.instrument) a o;
  beats = λ a o x. nat_lt x.quantity o.quantity;
  price = λ a o. at_midpoint (midpoint_of ms a.instrument);
}

-- the next event, and the book after it
abbrev pub next : List (Option Price) → Lists → Event × Lists
next ms b = next_by (dark_rule ms) b
