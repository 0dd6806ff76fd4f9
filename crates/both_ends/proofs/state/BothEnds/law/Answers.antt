use Rattle.std.proofs.Common.{subst}
use Rattle.both_ends.proofs.Kept.{holds}
use Rattle.both_ends.specs.Both.{Ends, Holds}
use Rattle.both_ends.proofs.state.BothEnds.law.Goals as goal

pub returns : goal.returns
returns g c =
    let P : Ends _ _ _ → Type 0 = Holds g.M.Matcher.meaning g.M.Matcher.Did g.M.Matcher.guided g.M.Matcher.Learns g.Q.Question.answer in
    subst P c.self.view_is (holds g.M.Matcher.meaning g.M.Matcher.Did g.M.Matcher.guided g.M.Matcher.Learns g.Q.Question.answer _ c.self.invariant)
