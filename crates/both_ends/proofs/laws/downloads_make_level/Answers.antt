use Rattle.both_ends.proofs.Levelling.{downloads_level}
use Rattle.both_ends.proofs.laws.downloads_make_level.Goals as goal

pub returns : goal.returns
returns c = downloads_level
