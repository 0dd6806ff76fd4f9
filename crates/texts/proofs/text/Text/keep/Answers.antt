use Rattle.std.proofs.Common.{rules}
use Rattle.texts.proofs.Kept.{fixed_same}
use Rattle.texts.proofs.text.Text.keep.Goals as goal

pub returns : goal.returns
returns g c = fixed_same _ _ (search rules)
