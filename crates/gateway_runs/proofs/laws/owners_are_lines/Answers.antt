use Rattle.gateway_runs.proofs.Owning.{stay_owned}
use Rattle.gateway_runs.proofs.laws.owners_are_lines.Goals as goal

pub returns : goal.returns
returns c = stay_owned
