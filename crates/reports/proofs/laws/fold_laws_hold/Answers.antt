use Rattle.reports.proofs.Folds.{fold-laws}
use Rattle.reports.proofs.laws.fold_laws_hold.Goals as goal

pub returns : goal.returns
returns c = fold-laws
