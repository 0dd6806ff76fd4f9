use Rattle.std.proofs.Common.{◌≡◌, ◌+◌, ◌-◌, ◌≤◌, length, drop}
use Rattle.partitions.specs.PerPartition.{at}
use Rattle.store_bench.specs.Counts.{owned}
use Rattle.store_bench.proofs.walk.find_own.Given as goal

abbrev pub invariant-loop-number : goal.invariant-loop-number
invariant-loop-number g l =
    (l.found + owned l.owner (drop l.above (at (g.S.Store.kept l.store) l.partition))
    ≡ owned l.owner (at (g.S.Store.kept l.store) l.partition)) × (l.found ≤ l.above)
    × (l.above ≤ length (at (g.S.Store.kept l.store) l.partition))

abbrev pub decreases-loop-number : goal.decreases-loop-number
decreases-loop-number g l = length (at (g.S.Store.kept l.store) l.partition) - l.above
