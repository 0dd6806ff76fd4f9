use Rattle.follower.proofs.Ties.{recovers_on}
use Rattle.follower.proofs.state.Follower.take_recovered.Goals as goal

pub returns-clause-none : goal.returns-clause-none
returns-clause-none c = recovers_on c.args.self.now c.recovered_heard.new.self c.in_ok-heard.heard c.recovered_heard.ensures.after
