use Rattle.gateway_runs.proofs.Lines.{lines_apart}
use Rattle.gateway_runs.proofs.laws.lines_stay_apart.Goals as goal

pub returns : goal.returns
returns c = lines_apart
