use Rattle.std.proofs.Common.{◌≡◌, ◌*◌, ◌≤◌}
use Rattle.store_bench.specs.Counts.{owned_below}
use Rattle.store_bench.proofs.walk.find_all.Given as goal

abbrev pub invariant-loop-owner : goal.invariant-loop-owner
invariant-loop-owner g l = (l.found ≡ owned_below l.owner (g.S.Store.kept l.store)) × (l.found ≤ 49152 * l.owner)
