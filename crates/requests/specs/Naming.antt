-- The order that a request names. Assumes nothing.
use Rattle.std.specs.Prelude.{ℕ, Bool, ◌&&◌, List, Some, None, Ok, Err, Option, Result, ◌==◌, if◌then◌else◌}
use Rattle.codes.specs.Order.{book_code, side_code}
use Rattle.keyed.specs.Numbers.{under}
use Rattle.orders.specs.Rows.{is_open}
use Rattle.orders.specs.Tables.{latest, owned}
use Rattle.orders.specs.declared.row.Row.{Row}
use Rattle.requests.specs.declared.naming.Naming.{Naming}
use Rattle.refusals.specs.declared.Refusal.{Refusal}
use Rattle.refusals.specs.declared.Refusal.TheVariants.{NoSuchOrder, NotOpen}
use Rattle.texts.specs.Bytes.{said}
use Rattle.texts.specs.declared.fixed.FixedText.{FixedText}
use Rattle.texts.specs.declared.identifiers.OrderId.{OrderId}

-- a line's order by its Order ID, else the highest-numbered one that goes by the client order id
abbrev pub found : ℕ → Option OrderId → FixedText 20 → List Row → Option Row
found line (Some i) original rows = owned line (under rows i.number)
found line None original rows = latest line (said original.bytes) rows

-- symbol, side and book are the order's
abbrev pub agrees : Naming → Row → Bool
agrees n r =
    r.terms.instrument == n.place
    && (side_code r.terms.side == side_code n.side && book_code r.terms.book == book_code n.book)

abbrev pub if_agreeing : Naming → Option Row → Result Row Refusal
if_agreeing n None = Err NoSuchOrder
if_agreeing n (Some r) = if agrees n r then Ok r else Err NoSuchOrder

abbrev pub if_open : Result Row Refusal → Result Row Refusal
if_open (Err e) = Err e
if_open (Ok r) = if is_open r then Ok r else Err NotOpen

-- the order that is named, if it is there, agrees and is open
abbrev pub named : Naming → List Row → Result Row Refusal
named n rows = if_open (if_agreeing n (found n.line n.order n.original rows))
