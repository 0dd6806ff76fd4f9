-- The reports that tell a change: each has the order's figures after it. Assumes nothing.
use Rattle.std.specs.Prelude.{ℕ, pos, Some, None, Option}
use Rattle.codes.specs.declared.report.Liquidity.TheVariants.{Unspecified}
use Rattle.codes.specs.declared.report.TradeType.TheVariants.{Visible}
use Rattle.texts.specs.declared.fixed.FixedText.{FixedText}
use Rattle.terms.specs.declared.execution.Execution.{Execution}
use Rattle.terms.specs.declared.execution.Execution.TheVariants as execution
use Rattle.refusals.specs.declared.Refusal.{Refusal}
use Rattle.orders.specs.declared.row.Row.{Row}
use Rattle.orders.specs.declared.row.Ending.{Ending}
use Rattle.orders.specs.declared.row.Ending.TheVariants.{Cancelled, Expired}
use Rattle.orders.specs.Rows.{status_of}
use Rattle.reports.specs.declared.report.ExecutionReport.{ExecutionReport}
use Rattle.changes.specs.declared.change.Change.{Change}
use Rattle.changes.specs.declared.change.Change.TheVariants.{Accept, Replace, Withdraw, Fill, Undo}
use Rattle.changes.specs.declared.change.Heading.{Heading}

-- an order's fields under a client order id; what no rule names is null
abbrev pub told_as : Heading → FixedText 20 → Execution Refusal → Row → ExecutionReport
told_as t c e r = record {
  client = c;
  order = Some (record { number = r.number });
  execution = e;
  reference = None;
  status = status_of r;
  price = record { raw = pos 0 };
  quantity = pos 0;
  leaves = pos r.leaves;
  display = r.display;
  symbol = t.symbol;
  side = r.terms.side;
  trade = 0;
  time = t.time;
  book = r.terms.book;
  capacity = r.terms.capacity;
}

abbrev pub ending_told : Ending → Execution Refusal
ending_told Cancelled = execution.Cancelled
ending_told Expired = execution.Expired

-- the report of a change, by the order after it
abbrev pub report_of : Heading → Change → Row → ExecutionReport
report_of t (Accept s a) r = told_as t r.client execution.New r
report_of t (Replace a) r = told_as t r.client execution.Replaced r
report_of t (Withdraw e c) r = told_as t c (ending_told e) r
report_of t (Fill f) r = record (told_as t r.client (execution.Trade f.liquidity Visible) r) {
  price = f.price;
  quantity = pos f.quantity;
  trade = f.trade;
}
report_of t (Undo u) r = record (told_as t r.client (execution.TradeCancel Unspecified) r) {
  quantity = pos u.quantity;
  reference = Some u.report;
}

-- and a second one behind it, where a fill is undone: the order as it now stands
abbrev pub restated_of : Heading → Change → Row → Option ExecutionReport
restated_of t (Accept s a) r = None
restated_of t (Replace a) r = None
restated_of t (Withdraw e c) r = None
restated_of t (Fill f) r = None
restated_of t (Undo u) r = Some (told_as t r.client execution.Restated r)

-- how many shares a change moves
abbrev pub shares_of : Change → ℕ
shares_of (Accept s a) = 0
shares_of (Replace a) = 0
shares_of (Withdraw e c) = 0
shares_of (Fill f) = f.quantity
shares_of (Undo u) = u.quantity
