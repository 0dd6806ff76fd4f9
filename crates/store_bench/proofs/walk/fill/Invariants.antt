use Rattle.std.proofs.Common.{◌≡◌, ◌+◌, ◌≤◌}
use Rattle.partitions.specs.Series.{total}
use Rattle.store_bench.specs.Counts.{owners, filled}
use Rattle.store_bench.proofs.walk.fill.Given as goal

abbrev pub invariant-loop-i : goal.invariant-loop-i
invariant-loop-i g l =
    (owners (g.S.Store.kept l.store) ≡ filled l.i (owners (g.S.Store.kept l.initial.store)))
    × (total (g.S.Store.kept l.store) ≡ total (g.S.Store.kept l.initial.store) + l.i)
    × (g.S.Store.free l.initial.store ≤ g.S.Store.free l.store + l.i)
