use Rattle.std.proofs.Common.{◌≡◌, ◌*◌, ◌≤◌, take}
use Rattle.partitions.specs.PerPartition.{at}
use Rattle.store_bench.specs.Counts.{seconds_in}
use Rattle.store_bench.proofs.walk.read_partition.Given as goal

abbrev pub invariant-loop-passed : goal.invariant-loop-passed
invariant-loop-passed g l =
    (l.seen.reports ≡ l.passed)
    × (l.seen.seconds ≡ seconds_in (take l.passed (at (g.S.Store.kept l.store) l.partition)))
    × (l.seen.seconds ≤ 4294967296 * l.passed)
