use Rattle.std.proofs.Common.{ap, arith}
use Rattle.orders.specs.Tables.{open_count}
use Rattle.venue.proofs.Keeps.{sound-fresh}
use Rattle.venue.proofs.venue.Venue.new.Goals as goal

pub invariant_of-result : goal.invariant_of-result
invariant_of-result g c = record {
  sound = sound-fresh _ c.requires.listed (c.in-Ok.ensures {u = tt}) (c.in-Ok-new.ensures {u = tt})
      c.requires.nothing_kept c.requires.nothing_open;
  spare = let e = ap open_count (c.in-Ok.ensures {u = tt}) in omega arith;
}
