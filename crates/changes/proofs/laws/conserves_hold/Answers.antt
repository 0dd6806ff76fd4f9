use Rattle.changes.proofs.Conserving.{conserves}
use Rattle.changes.proofs.laws.conserves_hold.Goals as goal

pub returns : goal.returns
returns c = conserves
