-- What a New Order is decided to be. Assumes nothing.
use Rattle.std.specs.Prelude.{ℕ, ◌&&◌, pos, [], ◌∷◌, Some, None, Ok, Err, Option, Result, nat_le, nat_lt, if◌then◌else◌}
use Rattle.std.specs.FinMap.{len}
use Rattle.std.specs.Option.{option_map_or, ok_or}
use Rattle.codes.specs.declared.report.Status.TheVariants as status
use Rattle.matching.specs.Meaning.{serves}
use Rattle.order_messages.specs.declared.new_order.NewOrder.{NewOrder}
use Rattle.orders.specs.Tables.{is_full}
use Rattle.orders.specs.declared.row.Ask.{Ask}
use Rattle.orders.specs.declared.row.Terms.{Terms}
use Rattle.reports.specs.declared.report.Entry.{Entry}
use Rattle.reports.specs.declared.report.ExecutionReport.{ExecutionReport}
use Rattle.reports.specs.declared.report.Report.TheVariants.{Execution}
use Rattle.requests.specs.Checks.{shown, is_plain, is_priced, is_own, told_capacity}
use Rattle.requests.specs.Instruments.{look_up}
use Rattle.requests.specs.Deciding.{Decision, told, turned_if, with_listing}
use Rattle.requests.specs.declared.listing.Listing.{Listing}
use Rattle.refusals.specs.declared.Refusal.{Refusal}
use Rattle.refusals.specs.declared.Refusal.TheVariants.{BookNotServed, BadTerms, OrdersFull, MatcherFull}
use Rattle.refusals.specs.declared.Turned.TheVariants.{NoPlace}
use Rattle.requests.specs.declared.new_order.Placement.{Placement}
use Rattle.terms.specs.Lifetime.{lifetime_of}
use Rattle.terms.specs.declared.lifetime.Lifetime.{Lifetime}
use Rattle.terms.specs.Pricing.{order_type_of, price_of}
use Rattle.terms.specs.Target.{book_of}
use Rattle.terms.specs.declared.execution.Execution.TheVariants.{Rejected}
use Rattle.texts.specs.Says.{says, kept}
use Rattle.texts.specs.declared.values.Time.{Time}
use Rattle.venue.specs.Acts.{Open}
use Rattle.venue.specs.Books.{Books}

-- what it asks for, in shares that can be ordered
abbrev pub asks : NewOrder → ℕ → Ask
asks m q = record {
  client = kept m.client_order_id.text;
  price = price_of m.pricing;
  display = m.display_quantity;
  quantity = q;
}

-- where its time in force is one of the two, and its shares can be ordered
abbrev pub placed : NewOrder → Option Lifetime → Option ℕ → Option Placement
placed m (Some l) (Some q) = Some (record { lifetime = l; ask = asks m q })
placed m l q = None

abbrev pub placement_of : NewOrder → Option Placement
placement_of m =
    if is_priced m.pricing && is_plain m.min_quantity m.passive_only && is_own m.capacity
    then placed m (lifetime_of m.time_in_force) (shown m.quantity m.display_quantity)
    else None

-- why there is no room for it, tried in this order
abbrev pub room_fault : Books → Option Refusal
room_fault b =
    if is_full b.rows then Some OrdersFull
    else if nat_le b.market.capacity (len b.market.orders) then Some MatcherFull else None

-- what it asks for, where there is room
abbrev pub with_room : Books → Result Placement Refusal → Result Placement Refusal
with_room b (Err e) = Err e
with_room b (Ok p) = option_map_or Err (room_fault b) (Ok p)

-- why it is not accepted; else how long it waits, and what it asks for
abbrev pub judged : NewOrder → Books → Result Placement Refusal
judged m b = if serves b.market (book_of m.target) then with_room b (ok_or (placement_of m) BadTerms) else Err BookNotServed

abbrev pub terms_of : ℕ → ℕ → Lifetime → NewOrder → Terms
terms_of line place lifetime m = record {
  owner = line;
  instrument = place;
  side = m.side;
  book = book_of m.target;
  kind = order_type_of m.pricing;
  lifetime = lifetime;
  capacity = told_capacity m.capacity;
  auto_cancel = m.auto_cancel;
}

-- the report of an order that is not accepted: it has no number, and nothing of it is open
abbrev pub rejected : Refusal → Listing → NewOrder → Time → ExecutionReport
rejected e l m t = record {
  client = kept m.client_order_id.text;
  order = None;
  execution = Rejected e;
  reference = None;
  status = status.Rejected;
  price = record { raw = pos 0 };
  quantity = pos 0;
  leaves = pos 0;
  display = m.display_quantity;
  symbol = l.instrument.symbol;
  side = m.side;
  trade = 0;
  time = t;
  book = book_of m.target;
  capacity = told_capacity m.capacity;
}

abbrev pub rejection : ℕ → Refusal → Listing → NewOrder → Time → Entry
rejection line e l m t = record { owner = line; report = Execution (rejected e l m t) }

abbrev pub ordered : ℕ → NewOrder → Time → Listing → Result Placement Refusal → Decision
ordered line m t l (Err e) = told l.instrument.partition (rejection line e l m t)
ordered line m t l (Ok p) = Ok (Open (terms_of line l.place p.lifetime m) p.ask ∷ [])

-- by a line's CompID, over the books and the spare places
abbrev pub new_order : ℕ → NewOrder → Time → Books → ℕ → Decision
new_order line m t b spare =
    with_listing (look_up b.instruments (says m.symbol))
    (λ l. turned_if (nat_lt spare 2) NoPlace (ordered line m t l (judged m b)))
