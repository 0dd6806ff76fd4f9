use Rattle.reports.proofs.Tallies.{tally-laws}
use Rattle.reports.proofs.laws.tally_laws_hold.Goals as goal

pub returns : goal.returns
returns c = tally-laws
