use Rattle.both_ends.proofs.Levels.{level_once_reached}
use Rattle.both_ends.proofs.laws.overrun_until_reached.Goals as goal

pub returns : goal.returns
returns c = level_once_reached
