use Rattle.sessions.proofs.Whole.{downloads_whole}
use Rattle.sessions.proofs.laws.downloads_are_whole.Goals as goal

pub returns : goal.returns
returns c = downloads_whole
