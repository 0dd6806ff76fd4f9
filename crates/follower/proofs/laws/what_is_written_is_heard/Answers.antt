use Rattle.follower.proofs.Written.{written_heard}
use Rattle.follower.proofs.laws.what_is_written_is_heard.Goals as goal

pub returns : goal.returns
returns c = written_heard
