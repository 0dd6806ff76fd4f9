use Rattle.follower.proofs.Quiets.{stays_quiet}
use Rattle.follower.proofs.laws.followers_stay_quiet.Goals as goal

pub returns : goal.returns
returns c = stays_quiet
