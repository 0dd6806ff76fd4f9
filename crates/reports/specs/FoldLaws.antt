-- What folding a report keeps, in words. Assumes nothing.
use Rattle.std.specs.Prelude.{◌≡◌, ℕ, ◌+◌, ◌<◌, ◌≤◌, Some, Ok, ◌≢◌}
use Rattle.std.specs.FinMap.{get, len}
use Rattle.codes.specs.declared.session.Partition.{Partition}
use Rattle.codes.specs.declared.report.ExecType.TheVariants as exec
use Rattle.limits.specs.declared.TheConstants.{SHARES}
use Rattle.texts.specs.declared.identifiers.OrderId.{OrderId}
use Rattle.reports.specs.declared.standing.Told.{Told}
use Rattle.reports.specs.declared.standing.Standing.{Standing}
use Rattle.reports.specs.Changes.{changed}
use Rattle.reports.specs.Fold.{Knowledge, fold}

pub record Keeps (p : Partition) (t : Told) (k : Knowledge) : Type 0 where
  -- a rejection touches no order
  pub rejected : t.kind ≡ exec.Rejected → fold p (Some t) k ≡ Ok k
  -- all orders but the report's own stay as they were
  pub others : (k' : Knowledge) (n : ℕ) → fold p (Some t) k ≡ Ok k'
      → ((i : OrderId) → t.order ≡ Some i → i.number ≢ n) → get k' n ≡ get k n
  -- at most one order becomes known, and none is forgotten
  pub count : (k' : Knowledge) → fold p (Some t) k ≡ Ok k' → (len k ≤ len k') × (len k' ≤ len k + 1)
  -- a fill moves at least one share from open to executed, and loses none
  pub fill : (s s' : Standing) → t.kind ≡ exec.Trade → changed t s ≡ Some s'
      → (s'.executed + s'.leaves ≡ s.executed + s.leaves) × (s'.leaves < s.leaves)
  -- what is executed stays in bounds
  pub bound : (s s' : Standing) → changed t s ≡ Some s' → s'.executed ≤ SHARES

abbrev pub FoldLaws : Type 0
FoldLaws = (p : Partition) (t : Told) (k : Knowledge) → Keeps p t k
