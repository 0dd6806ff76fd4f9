use Rattle.wire.proofs.Cuts.{open_empty}
use Rattle.wire.proofs.stream.Splitter.pass.Goals as goal

pub invariant_of-self : goal.invariant_of-self
invariant_of-self c = open_empty c.self.inside.channel c.truncate.new.self c.truncate.ensures
