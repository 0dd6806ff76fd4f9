use Rattle.both_ends.proofs.Erasing.{erases}
use Rattle.both_ends.proofs.laws.questions_change_nothing.Goals as goal

pub returns : goal.returns
returns g c = erases g.M.Matcher.Did g.M.Matcher.guided g.M.Matcher.Learns g.Q.Question.answer
