-- What each call does to the orders that rest and the orders that wait, by any pairing rule. Assumes nothing.
use Rattle.std.specs.Prelude.{ℕ, ◌-◌, min, if◌then◌else◌, List, [], ◌∷◌, ◌++◌, Some, None, Option, nat_lt}
use Rattle.matching.specs.declared.event.Event.{Event}
use Rattle.matching.specs.declared.event.Event.TheVariants.{Nothing, Expired, Trade}
use Rattle.matching.specs.declared.matcher.Ticket.{Ticket}
use Rattle.texts.specs.declared.values.Price.{Price}
use Rattle.order_book.specs.declared.order.Order.{Order}
use Rattle.order_book.specs.Orders.{goes_back, rests, with_limit, with_quantity}
use Rattle.order_book.specs.Lists.{changed, order_in}
use Rattle.order_book.specs.Pairing.{Rule, best}

-- the orders at rest, the first to rest first, and the waiting ones, the oldest first
pub record Lists : Type 0 where
  pub resting : List Order
  pub waiting : List Order

-- the open order of a number
abbrev pub order_under : Lists → ℕ → Option Order
order_under b n = order_in (b.resting ++ b.waiting) n

-- an order of these terms under a number
abbrev pub order_of : ℕ → Ticket → Order
order_of n t = record {
  number = n;
  instrument = t.instrument;
  side = t.side;
  pricing = t.pricing;
  lifetime = t.lifetime;
  quantity = t.quantity;
}

-- an entered order waits behind all others
abbrev pub entered : Lists → Order → Lists
entered b o = record b { waiting = b.waiting ++ o ∷ [] }

-- the order of a number with another open quantity, or gone; it keeps its place
abbrev pub altered : Lists → ℕ → Option ℕ → Lists
altered b n w = record { resting = changed n w b.resting; waiting = changed n w b.waiting }

-- an order with another quantity and price keeps its place, or waits again behind all others
abbrev pub amended : Lists → Option Order → ℕ → Price → Lists
amended b None q p = b
amended b (Some o) q p =
    if goes_back o q p then entered (altered b o.number None) (with_limit (with_quantity o q) p)
    else altered b o.number (Some q)

-- ---- events

-- what is left of an open quantity when q is traded
abbrev pub left_of : ℕ → ℕ → Option ℕ
left_of q open-now = if nat_lt q open-now then Some (open-now - q) else None

-- a trades with o at rest, for the smaller quantity
abbrev pub size_of : Order → Order → ℕ
size_of a o = min a.quantity o.quantity

abbrev pub trade_of : Order → Order → Price → Event
trade_of a o p = Trade (Some o.number) (Some a.number) (size_of a o) p

abbrev pub traded : Lists → Order → Order → Lists
traded b a o =
    altered (altered b o.number (left_of (size_of a o) o.quantity)) a.number (left_of (size_of a o) a.quantity)

-- what becomes of the oldest waiting order a, where o is the best for it: it trades, or comes to rest so that
-- later is what comes, or expires
abbrev pub outcome : Rule → Lists → Order → Option Order → Event × Lists → Event × Lists
outcome r b a (Some o) later = (trade_of a o (r.price a o), traded b a o)
outcome r b a None later = if rests a then later else (Expired a.number, altered b a.number None)

-- the next event, and the book after it
abbrev pub next_of : Rule → List Order → List Order → Event × Lists
next_of r rs [] = (Nothing, record { resting = rs; waiting = [] })
next_of r rs (a ∷ ws) =
    outcome r (record { resting = rs; waiting = a ∷ ws }) a (best r a rs) (next_of r (rs ++ a ∷ []) ws)

abbrev pub next_by : Rule → Lists → Event × Lists
next_by r b = next_of r b.resting b.waiting
