-- What is known of the orders of each partition, seen in one map of all. Assumes nothing.
use Rattle.std.specs.Prelude.{◌≡◌, ℕ, Some, None, Option, if◌then◌else◌}
use Rattle.std.specs.FinMap.{get}
use Rattle.codes.specs.declared.session.Partition.{Partition}
use Rattle.codes.specs.Session.{same_partition}
use Rattle.partitions.specs.PerPartition.{at}
use Rattle.reports.specs.declared.standing.Standing.{Standing}
use Rattle.reports.specs.Fold.{Knowledge}
use Rattle.reports.specs.Tally.{tally_to}
use Rattle.store.specs.Kept.{Kept}

-- a standing, where it is of the partition
abbrev pub there : Partition → Option Standing → Option Standing
there p None = None
there p (Some s) = if same_partition s.partition p then Some s else None

-- what is known of a partition's orders is the tally of the owner's reports there up to a place
abbrev pub Tallied : ℕ → Kept → Knowledge → (Partition → ℕ) → Type 0
Tallied c kept k place = (p : Partition) (n : ℕ) → there p (get k n) ≡ get (tally_to p c (at kept p) (place p)) n
