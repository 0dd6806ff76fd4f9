use Rattle.gateway_runs.proofs.Firms.{firms_apart}
use Rattle.gateway_runs.proofs.laws.firms_stay_apart.Goals as goal

pub returns : goal.returns
returns c = firms_apart
