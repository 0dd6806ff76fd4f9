use Rattle.both_ends.proofs.Levels.{level_by_download}
use Rattle.both_ends.proofs.laws.only_downloads_level.Goals as goal

pub returns : goal.returns
returns c = level_by_download
