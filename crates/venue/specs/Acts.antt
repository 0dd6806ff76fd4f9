-- What can be done to a venue: what each act makes of the books, and what it asks of the matcher. Assumes nothing.
use Rattle.std.specs.Prelude.{ℕ, ◌+◌, List, [], ◌∷◌, ◌++◌, length, Some, None, Option}
use Rattle.codes.specs.declared.session.Partition.{Partition}
use Rattle.keyed.specs.Numbers.{under, put_under}
use Rattle.matching.specs.Asked.{Asked, Enter, Cancel, Next}
use Rattle.matching.specs.Meaning.{happened, opened, with_order}
use Rattle.matching.specs.declared.event.Event.{Event}
use Rattle.matching.specs.declared.event.Event.TheVariants as event
use Rattle.orders.specs.Rows.{left_open}
use Rattle.orders.specs.Trades.{void}
use Rattle.orders.specs.declared.row.Ask.{Ask}
use Rattle.orders.specs.declared.row.Row.{Row}
use Rattle.orders.specs.declared.row.Terms.{Terms}
use Rattle.orders.specs.declared.trade.Trade.{Trade}
use Rattle.partitions.specs.Series.{grown}
use Rattle.reports.specs.declared.report.Entry.{Entry}
use Rattle.texts.specs.declared.values.Price.{Price}
use Rattle.texts.specs.declared.values.Time.{Time}
use Rattle.changes.specs.declared.change.Change.{Change}
use Rattle.changes.specs.declared.change.Change.TheVariants.{Accept, Replace, Withdraw, Fill, Undo}
use Rattle.venue.specs.Asking.{set_to, ticket_of}
use Rattle.venue.specs.Books.{Books, executed_of, open_of}
use Rattle.venue.specs.Ledger.{Ledger, changed, entered, expired, ledger, report_count}
use Rattle.venue.specs.Trading.{both_filled, both_undone, trade_of}
use Rattle.venue.specs.declared.step.Step.{Step}
use Rattle.venue.specs.declared.step.Step.TheVariants as step
use Rattle.venue.specs.declared.trading.Deal.{Deal}

pub data Act : Type 0 where
  -- an order takes the next number and enters the matcher
  Open : (terms : Terms) (ask : Ask) → Act
  -- a change of the order of a number
  Alter : (number : ℕ) (change : Change) → Act
  -- a report that is of no order
  Note : (partition : Partition) (entry : Entry) → Act
  -- the matcher's next event happens
  Take : (event : Event) → Act
  -- the trade of a number is cancelled
  Void : (number : ℕ) → Act

-- ---- what an act makes of the books

abbrev pub ledger_of : Books → Ledger
ledger_of b = ledger b.rows b.kept

abbrev pub with_ledger : Books → Ledger → Books
with_ledger b l = record b { rows = l.rows; kept = l.kept }

-- the matcher holds of the order of a number what is open of it
abbrev pub held : ℕ → Books → Books
held n b = record b { market = with_order b.market n (open_of (under b.rows n)) }

abbrev pub deal_of : Books → ℕ → Price → Deal
deal_of b q x = record { number = length b.trades + 1; quantity = q; price = x }

-- what an event makes of the orders and their reports
abbrev pub told_by : Time → Event → Books → Ledger
told_by t event.Nothing b = ledger_of b
told_by t (event.Expired n) b = expired b.instruments t n (ledger_of b)
told_by t (event.Trade p a q x) b = both_filled b.instruments t (deal_of b q x) p a (ledger_of b)

-- and of the trades
abbrev pub traded_by : Time → Event → Books → List Trade
traded_by t event.Nothing b = b.trades
traded_by t (event.Expired n) b = b.trades
traded_by t (event.Trade p a q x) b = b.trades ++ trade_of b.instruments t (deal_of b q x) p a (ledger_of b) ∷ []

-- both fills of a trade undone, the trade marked
abbrev pub voided : Time → ℕ → Option Trade → Books → Books
voided t n None b = b
voided t n (Some tr) b = record (with_ledger b (both_undone b.instruments t tr (ledger_of b))) {
  trades = put_under b.trades n (void tr);
}

-- a change that may not be made changes no order and tells nobody
abbrev pub enact : Time → Act → Books → Books
enact t (Open s a) b = record (with_ledger b (entered b.instruments t s a (ledger_of b))) {
  market = opened b.market (length b.rows + 1) (record { instrument = s.instrument; quantity = a.quantity });
}
enact t (Alter n c) b = held n (with_ledger b (changed b.instruments t n c (ledger_of b)))
enact t (Note p e) b = record b { kept = grown b.kept p e }
enact t (Take e) b = record (with_ledger b (told_by t e b)) {
  trades = traded_by t e b;
  market = happened b.market e;
}
enact t (Void n) b = voided t n (under b.trades n) b

-- ---- what an act asks of the matcher

abbrev pub asked_for : ℕ → Change → Option Row → List Asked
asked_for n (Accept s a) o = []
asked_for n (Replace a) o = set_to n (left_open (executed_of o) a.quantity) a.price ∷ []
asked_for n (Withdraw e c) o = Cancel n ∷ []
asked_for n (Fill f) o = []
asked_for n (Undo u) o = []

abbrev pub asked : Act → Books → List Asked
asked (Open s a) b = Enter (length b.rows + 1) (ticket_of s a) ∷ []
asked (Alter n c) b = asked_for n c (under b.rows n)
asked (Note p e) b = []
asked (Take e) b = Next e ∷ []
asked (Void n) b = []

-- ---- how many reports it tells at most

abbrev pub told_of_event : Event → ℕ
told_of_event event.Nothing = 0
told_of_event (event.Expired n) = 1
told_of_event (event.Trade p a q x) = 2

abbrev pub most_told : Act → ℕ
most_told (Open s a) = 1
most_told (Alter n c) = report_count c
most_told (Note p e) = 1
most_told (Take e) = told_of_event e
most_told (Void n) = 4

-- ---- acts in turn

abbrev pub enact_all : Time → List Act → Books → Books
enact_all t [] b = b
enact_all t (a ∷ acts) b = enact_all t acts (enact t a b)

abbrev pub asked_all : Time → List Act → Books → List Asked
asked_all t [] b = []
asked_all t (a ∷ acts) b = asked a b ++ asked_all t acts (enact t a b)

abbrev pub all_told : List Act → ℕ
all_told [] = 0
all_told (a ∷ acts) = most_told a + all_told acts

-- ---- what a caller is told of an event

abbrev pub step_of : Event → Books → Step
step_of event.Nothing b = step.Nothing
step_of (event.Expired n) b = step.Expired n
step_of (event.Trade p a q x) b = step.Traded (length b.trades + 1) p a q x
