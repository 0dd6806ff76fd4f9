-- What a Cancel Request is decided to be. Assumes nothing.
use Rattle.std.specs.Prelude.{ℕ, [], ◌∷◌, Ok, Err, Result, nat_lt, if◌then◌else◌}
use Rattle.changes.specs.declared.change.Change.TheVariants.{Withdraw}
use Rattle.codes.specs.declared.order.Book.{Book}
use Rattle.matching.specs.Meaning.{serves}
use Rattle.order_messages.specs.declared.order_cancel_request.OrderCancelRequest.{OrderCancelRequest}
use Rattle.orders.specs.declared.row.Ending.TheVariants.{Cancelled}
use Rattle.orders.specs.declared.row.Row.{Row}
use Rattle.reports.specs.declared.report.Entry.{Entry}
use Rattle.reports.specs.declared.report.Report.TheVariants.{CancelReject}
use Rattle.requests.specs.Deciding.{Decision, told, turned_if, with_listing}
use Rattle.requests.specs.Instruments.{look_up}
use Rattle.requests.specs.Naming.{named}
use Rattle.requests.specs.declared.listing.Listing.{Listing}
use Rattle.requests.specs.declared.naming.Naming.{Naming}
use Rattle.refusals.specs.declared.Refusal.{Refusal}
use Rattle.refusals.specs.declared.Refusal.TheVariants.{BookNotServed}
use Rattle.refusals.specs.declared.Turned.TheVariants.{NoPlace}
use Rattle.texts.specs.Says.{says, kept}
use Rattle.texts.specs.declared.fixed.FixedText.{FixedText}
use Rattle.texts.specs.declared.values.Time.{Time}
use Rattle.venue.specs.Acts.{Alter}
use Rattle.venue.specs.Books.{Books}

-- an open order that is named, in a book that is served
abbrev pub served : Book → Naming → Books → Result Row Refusal
served k n b = if serves b.market k then named n b.rows else Err BookNotServed

-- the report of a cancel or a replace that is refused
abbrev pub refusal_entry : ℕ → Refusal → FixedText 20 → Time → Entry
refusal_entry line e client t = record {
  owner = line;
  report = CancelReject (record { client = client; reason = e; time = t });
}

abbrev pub refused : ℕ → Refusal → FixedText 20 → Listing → Time → Decision
refused line e client l t = told l.instrument.partition (refusal_entry line e client t)

abbrev pub named_by : ℕ → Listing → OrderCancelRequest → Naming
named_by line l m = record {
  line = line;
  order = m.order_id;
  original = kept m.original_id;
  place = l.place;
  side = m.side;
  book = m.book;
}

-- a cancel needs no place of its own: the order's end has one; its refusal does
abbrev pub cancelled : ℕ → OrderCancelRequest → Time → ℕ → Listing → Result Row Refusal → Decision
cancelled line m t spare l (Err e) =
    turned_if (nat_lt spare 1) NoPlace (refused line e (kept m.client_order_id.text) l t)
cancelled line m t spare l (Ok r) = Ok (Alter r.number (Withdraw Cancelled (kept m.client_order_id.text)) ∷ [])

-- by a line's CompID, over the books and the spare places
abbrev pub cancel : ℕ → OrderCancelRequest → Time → Books → ℕ → Decision
cancel line m t b spare =
    with_listing (look_up b.instruments (says m.symbol))
    (λ l. cancelled line m t spare l (served m.book (named_by line l m) b))
