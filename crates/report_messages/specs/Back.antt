-- The report that a message tells. Assumes nothing.
use Rattle.std.specs.Prelude.{ℕ, ℤ, pos, List, Some, None, Option, if◌then◌else◌}
use Rattle.std.specs.Option.{option_and_then, option_map}
use Rattle.std.specs.Ordering.{int_eq}
use Rattle.codes.specs.declared.report.MassResponse.{MassResponse}
use Rattle.codes.specs.declared.report.MassResponse.TheVariants as response
use Rattle.refusals.specs.Numbers.{refusal_of}
use Rattle.refusals.specs.declared.Refusal.{Refusal}
use Rattle.terms.specs.declared.execution.Execution.{Execution}
use Rattle.terms.specs.declared.execution.Execution.TheVariants as execution
use Rattle.texts.specs.Identifiers.{number_of, execution_of}
use Rattle.texts.specs.Says.{says, kept}
use Rattle.texts.specs.declared.identifiers.OrderId.{OrderId}
use Rattle.texts.specs.declared.identifiers.ExecutionId.{ExecutionId}
use Rattle.order_messages.specs.declared.execution_report.ExecutionReport.{ExecutionReport as ExecutionMessage}
use Rattle.order_messages.specs.declared.order_cancel_reject.OrderCancelReject.{OrderCancelReject}
use Rattle.order_messages.specs.declared.order_mass_cancel_report.OrderMassCancelReport.{OrderMassCancelReport}
use Rattle.order_messages.specs.Terms.{exec_type_of}
use Rattle.wire.specs.declared.message.Message.{Message}
use Rattle.wire.specs.declared.message.Message.TheVariants as message
use Rattle.reports.specs.declared.report.ExecutionReport.{ExecutionReport}
use Rattle.reports.specs.declared.report.CancelReject.{CancelReject}
use Rattle.reports.specs.declared.report.MassAnswer.{MassAnswer}
use Rattle.reports.specs.declared.report.MassAnswer.TheVariants.{Accepted, Rejected}
use Rattle.reports.specs.declared.report.MassCancelReport.{MassCancelReport}
use Rattle.reports.specs.declared.report.Report.{Report}
use Rattle.reports.specs.declared.report.Report.TheVariants as report
use Rattle.reports.specs.declared.standing.Told.{Told}

-- the order that an identifier names; none where it names none
abbrev pub order_in : List ℕ → Option OrderId
order_in t = option_map (λ n. record { number = n }) (number_of 79 t)

-- the report that an identifier names
abbrev pub reference_in : List ℕ → Option ExecutionId
reference_in t = execution_of (number_of 69 t)

-- why a report is sent, by the message's word for it; none where its number is no refusal's
abbrev pub sent_for : Execution ℤ → Option (Execution Refusal)
sent_for execution.New = Some execution.New
sent_for execution.Cancelled = Some execution.Cancelled
sent_for execution.Replaced = Some execution.Replaced
sent_for (execution.Rejected n) = option_map execution.Rejected (refusal_of n)
sent_for execution.Expired = Some execution.Expired
sent_for execution.Restated = Some execution.Restated
sent_for (execution.Trade l t) = Some (execution.Trade l t)
sent_for (execution.TradeCancel l) = Some (execution.TradeCancel l)

abbrev pub execution_with : ExecutionMessage → Execution Refusal → ExecutionReport
execution_with m x = record {
  client = kept m.client_order_id;
  order = order_in (says m.order_id);
  execution = x;
  reference = reference_in (says m.reference_id);
  status = m.status;
  price = m.executed_price;
  quantity = m.executed_quantity;
  leaves = m.leaves_quantity;
  display = m.display_quantity;
  symbol = kept m.symbol;
  side = m.side;
  trade = m.trade_match_id;
  time = m.transact_time;
  book = m.book;
  capacity = m.capacity;
}

abbrev pub execution_in : ExecutionMessage → Option ExecutionReport
execution_in m = option_map (execution_with m) (option_and_then sent_for m.execution)

abbrev pub reject_in : OrderCancelReject → Option CancelReject
reject_in m =
    option_map (λ r. record { client = kept m.client_order_id; reason = r; time = m.transact_time })
    (refusal_of m.reason)

-- accepted with no number, or rejected with a refusal's
abbrev pub answer_in : MassResponse → ℤ → Option MassAnswer
answer_in response.Accepted n = if int_eq n (pos 0) then Some Accepted else None
answer_in response.Rejected n = option_map Rejected (refusal_of n)

abbrev pub mass_in : OrderMassCancelReport → Option MassCancelReport
mass_in m =
    option_map (λ a. record { client = kept m.client_order_id; answer = a; time = m.transact_time })
    (answer_in m.response m.reason)

-- none where the message tells no report
abbrev pub report_in : Message → Option Report
report_in (message.ExecutionReport m) = option_map report.Execution (execution_in m)
report_in (message.OrderCancelReject m) = option_map report.CancelReject (reject_in m)
report_in (message.OrderMassCancelReport m) = option_map report.MassCancel (mass_in m)
report_in m = None

-- what a message tells of an order, whatever type and number it has
abbrev pub told_in : Message → Option Told
told_in (message.ExecutionReport m) =
    Some (record {
      order = order_in (says m.order_id);
      kind = exec_type_of m.execution;
      status = m.status;
      quantity = m.executed_quantity;
      leaves = m.leaves_quantity;
    })
told_in m = None
