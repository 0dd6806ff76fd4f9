-- What a message tells of an order is what the report tells that it tells. Assumes nothing.
use Rattle.std.proofs.Common.{◌≡◌, ℤ, Some, None, Option, refl, ap, ◌∙◌}
use Rattle.std.specs.Option.{option_and_then, option_map}
use Rattle.codes.specs.declared.report.ExecType.{ExecType}
use Rattle.order_messages.specs.Terms.{Sent, exec_type_of}
use Rattle.order_messages.specs.declared.execution_report.ExecutionReport.{ExecutionReport as ExecutionMessage}
use Rattle.refusals.specs.Numbers.{refusal_of}
use Rattle.refusals.specs.declared.Refusal.{Refusal}
use Rattle.terms.specs.Execution.{kind_of}
use Rattle.terms.specs.declared.execution.Execution.{Execution}
use Rattle.terms.specs.declared.execution.Execution.TheVariants as execution
use Rattle.texts.specs.Says.{says}
use Rattle.wire.specs.declared.message.Message.{Message}
use Rattle.wire.specs.declared.message.Message.TheVariants as message
use Rattle.reports.specs.declared.report.CancelReject.{CancelReject}
use Rattle.reports.specs.declared.report.MassCancelReport.{MassCancelReport}
use Rattle.reports.specs.declared.report.Report.{Report}
use Rattle.reports.specs.declared.report.Report.TheVariants as report
use Rattle.reports.specs.declared.standing.Told.{Told}
use Rattle.reports.specs.Told.{told_of}
use Rattle.report_messages.specs.Back.{execution_with, mass_in, order_in, reject_in, report_in, sent_for, told_in}

-- a report has the exec type of its message
kind_kept : (x : Execution ℤ) (y : Execution Refusal) → sent_for x ≡ Some y → kind_of x ≡ kind_of y
kind_kept (execution.Rejected n) y e = by (refusal_of n) e
  where
    by : (o : Option Refusal) → option_map execution.Rejected o ≡ Some y → kind_of (execution.Rejected n) ≡ kind_of y
    by None h = cc
    by (Some r) h = let same : execution.Rejected r ≡ y = cc in ap kind_of same
kind_kept x y e = cc

abbrev told_with : ExecType → ExecutionMessage → Option Told
told_with k m = Some (record {
  order = order_in (says m.order_id);
  kind = k;
  status = m.status;
  quantity = m.executed_quantity;
  leaves = m.leaves_quantity;
})

sent_same : (m : ExecutionMessage) (x : Sent) (r : Report)
    → option_map report.Execution (option_map (execution_with m) (option_and_then sent_for x)) ≡ Some r
    → told_with (exec_type_of x) m ≡ told_of r
sent_same m None r e = cc
sent_same m (Some y) r e = by (sent_for y) refl e
  where
    by : (o : Option (Execution Refusal)) → sent_for y ≡ o
        → option_map report.Execution (option_map (execution_with m) o) ≡ Some r → told_with (kind_of y) m ≡ told_of r
    by None q h = cc
    by (Some z) q h =
        let same : report.Execution (execution_with m z) ≡ r = cc in
        ap (λ k. told_with k m) (kind_kept y z q) ∙ ap told_of same

reject_tells : (o : Option CancelReject) (r : Report) → option_map report.CancelReject o ≡ Some r → None ≡ told_of r
reject_tells None r e = cc
reject_tells (Some x) r e = let same : report.CancelReject x ≡ r = cc in ap told_of same

mass_tells : (o : Option MassCancelReport) (r : Report) → option_map report.MassCancel o ≡ Some r → None ≡ told_of r
mass_tells None r e = cc
mass_tells (Some x) r e = let same : report.MassCancel x ≡ r = cc in ap told_of same

pub told_same : (m : Message) (r : Report) (o : Option Told) → o ≡ told_in m → report_in m ≡ Some r → o ≡ told_of r
told_same (message.ExecutionReport m) r o t e = t ∙ sent_same m m.execution r e
told_same (message.OrderCancelReject m) r o t e = t ∙ reject_tells (reject_in m) r e
told_same (message.OrderMassCancelReport m) r o t e = t ∙ mass_tells (mass_in m) r e
told_same m r o t e = cc
