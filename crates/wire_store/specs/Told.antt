-- The report that bytes hold. Assumes nothing.
use Rattle.std.specs.Prelude.{ℕ, List, [], map, is_some, Some, None, Option, Ok, Err, Result, unwrap_or, if◌then◌else◌}
use Rattle.std.specs.Option.{option_map}
use Rattle.codes.specs.Order.{sides, side_code, books, book_code}
use Rattle.codes.specs.Report.{exec_types, exec_type_code, statuses, status_code, liquidities, liquidity_code, trade_types, trade_type_code, capacities, capacity_code, mass_responses, mass_response_code}
use Rattle.codes.specs.declared.order.Book.TheVariants as book
use Rattle.codes.specs.declared.order.Side.TheVariants as side
use Rattle.codes.specs.declared.report.ExecType.{ExecType}
use Rattle.codes.specs.declared.report.ExecType.TheVariants as exec
use Rattle.codes.specs.declared.report.Status.TheVariants as status
use Rattle.codes.specs.declared.report.Liquidity.TheVariants as liquidity
use Rattle.codes.specs.declared.report.TradeType.TheVariants as trade_type
use Rattle.codes.specs.declared.report.Capacity.TheVariants as capacity
use Rattle.codes.specs.declared.report.MassResponse.TheVariants as mass_response
use Rattle.refusals.specs.Numbers.{refusal_of}
use Rattle.refusals.specs.declared.Refusal.{Refusal}
use Rattle.refusals.specs.declared.Refusal.TheVariants.{NoSuchOrder}
use Rattle.terms.specs.declared.execution.Execution.{Execution}
use Rattle.terms.specs.declared.execution.Execution.TheVariants as execution
use Rattle.layout.specs.declared.fault.Fault.{Fault}
use Rattle.layout.specs.Layout.{Content, got, words_of, figure_of, int32_of, price_of, seconds_of, micros_of, nth, value_of}
use Rattle.wire.specs.declared.kinds.Channel.TheVariants.{Follower}
use Rattle.wire.specs.declared.kinds.Kind.{Kind}
use Rattle.wire.specs.declared.kinds.Kind.TheVariants as kind
use Rattle.wire.specs.Kinds.{table_of}
use Rattle.wire.specs.Messages.{opening, verdict}
use Rattle.reports.specs.declared.report.MassAnswer.{MassAnswer}
use Rattle.reports.specs.declared.report.Report.{Report}
use Rattle.reports.specs.declared.report.Report.TheVariants as report
use Rattle.report_messages.specs.Back.{answer_in, order_in, reference_in}
use Rattle.wire_store.specs.Fitted.{fitted}

-- why a report is sent, by its exec type and what its fields for it hold
abbrev pub execution_as : ExecType → Content → Content → Content → Option (Execution Refusal)
execution_as exec.Unspecified r l t = None
execution_as exec.New r l t = Some execution.New
execution_as exec.Cancelled r l t = Some execution.Cancelled
execution_as exec.Replaced r l t = Some execution.Replaced
execution_as exec.Rejected r l t = option_map execution.Rejected (refusal_of (int32_of r))
execution_as exec.Expired r l t = Some execution.Expired
execution_as exec.Restated r l t = Some execution.Restated
execution_as exec.Trade r l t =
    Some (execution.Trade
    (value_of liquidity_code liquidities liquidity.Unspecified l)
    (value_of trade_type_code trade_types trade_type.Visible t))
execution_as exec.TradeCancel r l t =
    Some (execution.TradeCancel (value_of liquidity_code liquidities liquidity.Unspecified l))

abbrev pub execution_from : Content → Content → Content → Content → Option (Execution Refusal)
execution_from b r l t = execution_as (value_of exec_type_code exec_types exec.Unspecified b) r l t

-- a report that bytes are said to hold that hold none
abbrev pub nothing_told : Report
nothing_told =
    report.CancelReject (record {
      client = fitted 20 [];
      reason = NoSuchOrder;
      time = record { seconds = 0; microseconds = 0 };
    })

-- the report that a message of a kind tells, by its contents
abbrev pub executed_from : List Content → Execution Refusal → Report
executed_from vs x =
    report.Execution (record {
      client = fitted 20 (words_of (nth 3 vs));
      order = order_in (words_of (nth 4 vs));
      execution = x;
      reference = reference_in (words_of (nth 6 vs));
      status = value_of status_code statuses status.New (nth 7 vs);
      price = record { raw = price_of (nth 9 vs) };
      quantity = int32_of (nth 10 vs);
      leaves = int32_of (nth 11 vs);
      display = int32_of (nth 13 vs);
      symbol = fitted 6 (words_of (nth 14 vs));
      side = value_of side_code sides side.Buy (nth 15 vs);
      trade = figure_of (nth 19 vs);
      time = record { seconds = seconds_of (nth 20 vs); microseconds = micros_of (nth 20 vs) };
      book = value_of book_code books book.Integrated (nth 21 vs);
      capacity = value_of capacity_code capacities capacity.Principal (nth 23 vs);
    })

abbrev pub rejected_from : List Content → Refusal → Report
rejected_from vs r =
    report.CancelReject (record {
      client = fitted 20 (words_of (nth 2 vs));
      reason = r;
      time = record { seconds = seconds_of (nth 5 vs); microseconds = micros_of (nth 5 vs) };
    })

abbrev pub answered_from : List Content → MassAnswer → Report
answered_from vs a =
    report.MassCancel (record {
      client = fitted 20 (words_of (nth 2 vs));
      answer = a;
      time = record { seconds = seconds_of (nth 6 vs); microseconds = micros_of (nth 6 vs) };
    })

-- none where it tells none
abbrev pub told_from : Kind → List Content → Option Report
told_from kind.ExecutionReport vs =
    option_map (executed_from vs) (execution_from (nth 5 vs) (nth 8 vs) (nth 18 vs) (nth 22 vs))
told_from kind.OrderCancelReject vs = option_map (rejected_from vs) (refusal_of (int32_of (nth 4 vs)))
told_from kind.OrderMassCancelReport vs =
    option_map (answered_from vs)
    (answer_in (value_of mass_response_code mass_responses mass_response.Rejected (nth 3 vs)) (int32_of (nth 4 vs)))
told_from k vs = None

abbrev pub told_in : Result Kind Fault → List ℕ → Option Report
told_in (Err e) bs = None
told_in (Ok k) bs = told_from k (map (got bs) (table_of k))

-- the report that bytes hold, if a follower reads one from them
abbrev pub decoded : List ℕ → Report
decoded bs =
    if is_some (verdict Follower bs) then nothing_told else unwrap_or (told_in (opening Follower bs) bs) nothing_told
