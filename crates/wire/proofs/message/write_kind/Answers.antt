use Rattle.wire.proofs.Writing.{one_form, holdable}
use Rattle.wire.proofs.message.write_kind.Goals as goal

pub returns-in-NewOrder-clause-wrote : goal.returns-in-NewOrder-clause-wrote
returns-in-NewOrder-clause-wrote c =
    one_form _ _ _ _ c.in-NewOrder.is c.write-in-NewOrder.ensures.wrote

pub returns-in-NewOrder-clause-holds : goal.returns-in-NewOrder-clause-holds
returns-in-NewOrder-clause-holds c = holdable _ _ c.in-NewOrder.is c.write-in-NewOrder.ensures.holds

pub returns-in-OrderCancelReplaceRequest-clause-wrote : goal.returns-in-OrderCancelReplaceRequest-clause-wrote
returns-in-OrderCancelReplaceRequest-clause-wrote c =
    one_form _ _ _ _ c.in-OrderCancelReplaceRequest.is c.write-in-OrderCancelReplaceRequest.ensures.wrote

pub returns-in-OrderCancelReplaceRequest-clause-holds : goal.returns-in-OrderCancelReplaceRequest-clause-holds
returns-in-OrderCancelReplaceRequest-clause-holds c =
    holdable _ _ c.in-OrderCancelReplaceRequest.is c.write-in-OrderCancelReplaceRequest.ensures.holds

pub returns-in-ExecutionReport-clause-wrote : goal.returns-in-ExecutionReport-clause-wrote
returns-in-ExecutionReport-clause-wrote c =
    one_form _ _ _ _ c.in-ExecutionReport.is c.write-in-ExecutionReport.ensures.wrote

pub returns-in-ExecutionReport-clause-holds : goal.returns-in-ExecutionReport-clause-holds
returns-in-ExecutionReport-clause-holds c = holdable _ _ c.in-ExecutionReport.is c.write-in-ExecutionReport.ensures.holds
