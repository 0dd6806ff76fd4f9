-- The identifiers of a report's message: the order's, the one that is referred to, and its own. Assumes nothing.
use Rattle.std.specs.Prelude.{ℕ, List, [], None, Option}
use Rattle.std.specs.Option.{option_map_or}
use Rattle.codes.specs.Session.{partition_code}
use Rattle.codes.specs.declared.session.Partition.{Partition}
use Rattle.texts.specs.Identifiers.{order_id_text, execution_id_text}
use Rattle.texts.specs.Bytes.{said}
use Rattle.texts.specs.declared.identifiers.OrderId.{OrderId}
use Rattle.texts.specs.declared.identifiers.ExecutionId.{ExecutionId}
use Rattle.reports.specs.declared.report.Report.{Report}
use Rattle.reports.specs.declared.report.Report.TheVariants.{Execution, CancelReject, MassCancel}

-- an identifier, or nothing
abbrev pub order_text : Option OrderId → List ℕ
order_text o = option_map_or (λ i. said (order_id_text i.number)) o []

abbrev pub reference_text : Option ExecutionId → List ℕ
reference_text o = option_map_or (λ i. said (execution_id_text i.partition i.sequence)) o []

-- the report's own Execution ID
abbrev pub own_text : Partition → ℕ → List ℕ
own_text p n = said (execution_id_text (partition_code p) n)

-- the order that a report names, and the report that it refers to
abbrev pub order_of : Report → Option OrderId
order_of (Execution e) = e.order
order_of (CancelReject r) = None
order_of (MassCancel r) = None

abbrev pub reference_of : Report → Option ExecutionId
reference_of (Execution e) = e.reference
reference_of (CancelReject r) = None
reference_of (MassCancel r) = None
