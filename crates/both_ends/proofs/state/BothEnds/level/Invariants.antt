use Rattle.both_ends.proofs.Reaching.{Levelling}
use Rattle.both_ends.proofs.state.BothEnds.level.Given as goal

-- so many downloads of the partition were made
abbrev pub invariant-loop-asked : goal.invariant-loop-asked
invariant-loop-asked g l =
    Levelling g.M.Matcher.Did g.M.Matcher.guided g.M.Matcher.Learns g.Q.Question.answer l.line l.partition l.fn.self l.asked l.self
