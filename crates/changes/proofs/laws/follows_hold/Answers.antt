use Rattle.changes.proofs.Following.{follows}
use Rattle.changes.proofs.laws.follows_hold.Goals as goal

pub returns : goal.returns
returns c = follows
