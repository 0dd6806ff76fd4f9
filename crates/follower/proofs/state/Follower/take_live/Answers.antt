use Rattle.follower.proofs.Ties.{lives_on}
use Rattle.follower.proofs.state.Follower.take_live.Goals as goal

pub returns-clause-none : goal.returns-clause-none
returns-clause-none c = lives_on c.args.self.now c.live_heard.new.self c.in_ok-heard.heard c.live_heard.ensures.after
