use Rattle.sessions.proofs.Marks.{marks_lose_nothing}
use Rattle.sessions.proofs.laws.marks_lose_nothing.Goals as goal

pub returns : goal.returns
returns c = marks_lose_nothing
