-- What a report tells of an order. Assumes nothing.
use Rattle.std.specs.Prelude.{Some, None, Option}
use Rattle.terms.specs.Execution.{kind_of}
use Rattle.reports.specs.declared.report.Report.{Report}
use Rattle.reports.specs.declared.report.Report.TheVariants.{Execution, CancelReject, MassCancel}
use Rattle.reports.specs.declared.standing.Told.{Told}

abbrev pub told_of : Report → Option Told
told_of (Execution e) =
    Some (record {
      order = e.order;
      kind = kind_of e.execution;
      status = e.status;
      quantity = e.quantity;
      leaves = e.leaves;
    })
told_of (CancelReject r) = None
told_of (MassCancel r) = None
