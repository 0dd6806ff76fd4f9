use Rattle.wire.proofs.Cuts.{open_empty}
use Rattle.wire.proofs.stream.Splitter.new.Goals as goal

pub invariant_of-result : goal.invariant_of-result
invariant_of-result c = open_empty c.args.channel c.new.result c.new.ensures
