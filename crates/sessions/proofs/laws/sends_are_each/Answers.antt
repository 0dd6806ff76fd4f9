use Rattle.sessions.proofs.Sends.{sends_each}
use Rattle.sessions.proofs.laws.sends_are_each.Goals as goal

pub returns : goal.returns
returns c = sends_each
