-- What a venue asks of its matcher for an order. Assumes nothing.
use Rattle.std.specs.Prelude.{ℕ, nat_lt, if◌then◌else◌}
use Rattle.matching.specs.Asked.{Asked, Amend, Cancel}
use Rattle.matching.specs.declared.matcher.Ticket.{Ticket}
use Rattle.orders.specs.declared.row.Terms.{Terms}
use Rattle.orders.specs.declared.row.Ask.{Ask}
use Rattle.terms.specs.Pricing.{pricing_of}
use Rattle.texts.specs.declared.values.Price.{Price}

-- a new order
abbrev pub ticket_of : Terms → Ask → Ticket
ticket_of s a = record {
  instrument = s.instrument;
  side = s.side;
  pricing = pricing_of s.kind a.price;
  lifetime = s.lifetime;
  quantity = a.quantity;
  book = s.book;
}

-- an open order is set to what is left open of it; where that is nothing, it is taken out
abbrev pub set_to : ℕ → ℕ → Price → Asked
set_to n q x = if nat_lt 0 q then Amend n q x else Cancel n
