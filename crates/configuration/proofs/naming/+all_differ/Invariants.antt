use Rattle.std.specs.Prelude.{length}
use Rattle.configuration.proofs.naming.+all_differ.Given as goal

abbrev pub decreases-all_differ : goal.decreases-all_differ
decreases-all_differ g l = length l.items.now
