-- What a Cancel/Replace Request is decided to be. Assumes nothing.
use Rattle.std.specs.Prelude.{ℕ, ◌&&◌, [], ◌∷◌, Some, None, Ok, Err, Option, Result, nat_lt, if◌then◌else◌}
use Rattle.std.specs.Option.{option_map, option_map_or}
use Rattle.order_messages.specs.declared.order_cancel_replace_request.OrderCancelReplaceRequest.{OrderCancelReplaceRequest}
use Rattle.orders.specs.Orders.{replace_fault}
use Rattle.orders.specs.declared.row.Ask.{Ask}
use Rattle.orders.specs.declared.row.Row.{Row}
use Rattle.changes.specs.declared.change.Change.TheVariants.{Replace}
use Rattle.requests.specs.Cancels.{served, refused}
use Rattle.requests.specs.Checks.{shown, is_plain, may_cost}
use Rattle.requests.specs.Instruments.{look_up}
use Rattle.requests.specs.Deciding.{Decision, turned_if, with_listing}
use Rattle.requests.specs.declared.listing.Listing.{Listing}
use Rattle.requests.specs.declared.naming.Naming.{Naming}
use Rattle.refusals.specs.declared.Refusal.{Refusal}
use Rattle.refusals.specs.declared.Refusal.TheVariants.{BadTerms, TimeInForceDiffers}
use Rattle.refusals.specs.declared.Turned.TheVariants.{NoPlace}
use Rattle.requests.specs.declared.replace.Replacement.{Replacement}
use Rattle.terms.specs.Lifetime.{is_asked}
use Rattle.terms.specs.Target.{book_of}
use Rattle.texts.specs.Says.{says, kept}
use Rattle.texts.specs.declared.values.Time.{Time}
use Rattle.venue.specs.Acts.{Alter}
use Rattle.venue.specs.Books.{Books}

abbrev pub asks : OrderCancelReplaceRequest → ℕ → Ask
asks m q = record {
  client = kept m.client_order_id.text;
  price = m.limit_price;
  display = m.display_quantity;
  quantity = q;
}

-- what it asks for, of an order whose time in force it has
abbrev pub ask_of : OrderCancelReplaceRequest → Row → Option Ask
ask_of m r =
    if may_cost r.terms.kind m.limit_price && is_plain m.min_quantity m.passive_only
    then option_map (asks m) (shown m.quantity m.display_quantity)
    else None

-- where the order itself takes it
abbrev pub taken : Row → Option Ask → Result Replacement Refusal
taken r None = Err BadTerms
taken r (Some a) = option_map_or Err (replace_fault a.quantity r) (Ok (record { order = r; ask = a }))

abbrev pub of_row : OrderCancelReplaceRequest → Result Row Refusal → Result Replacement Refusal
of_row m (Err e) = Err e
of_row m (Ok r) =
    if is_asked m.time_in_force r.terms.lifetime then taken r (ask_of m r) else Err TimeInForceDiffers

abbrev pub named_by : ℕ → Listing → OrderCancelReplaceRequest → Naming
named_by line l m = record {
  line = line;
  order = m.order_id;
  original = kept m.original_id;
  place = l.place;
  side = m.side;
  book = book_of m.target;
}

-- the order and what it becomes, or why not
abbrev pub judged : ℕ → Listing → OrderCancelReplaceRequest → Books → Result Replacement Refusal
judged line l m b = of_row m (served (book_of m.target) (named_by line l m) b)

abbrev pub replaced : ℕ → OrderCancelReplaceRequest → Time → Listing → Result Replacement Refusal → Decision
replaced line m t l (Err e) = refused line e (kept m.client_order_id.text) l t
replaced line m t l (Ok r) = Ok (Alter r.order.number (Replace r.ask) ∷ [])

-- by a line's CompID, over the books and the spare places
abbrev pub replace : ℕ → OrderCancelReplaceRequest → Time → Books → ℕ → Decision
replace line m t b spare =
    with_listing (look_up b.instruments (says m.symbol))
    (λ l. turned_if (nat_lt spare 1) NoPlace (replaced line m t l (judged line l m b)))
