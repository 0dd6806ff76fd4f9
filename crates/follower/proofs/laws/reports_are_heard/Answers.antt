use Rattle.follower.proofs.Written.{reports_heard}
use Rattle.follower.proofs.laws.reports_are_heard.Goals as goal

pub returns : goal.returns
returns c = reports_heard
