use Rattle.gateway_runs.proofs.Growing.{only_appends}
use Rattle.gateway_runs.proofs.laws.reports_are_only_appended.Goals as goal

pub returns : goal.returns
returns c = only_appends
