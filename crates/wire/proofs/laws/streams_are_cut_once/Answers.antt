use Rattle.wire.proofs.Cuts.{one_cut}
use Rattle.wire.proofs.laws.streams_are_cut_once.Goals as goal

pub returns : goal.returns
returns c = one_cut
