use Rattle.both_ends.proofs.Whole.{UnderWay}
use Rattle.both_ends.proofs.state.BothEnds.load.Given as goal

-- the download is under way, and so many calls for what it hands out were made
abbrev pub invariant-loop-sent : goal.invariant-loop-sent
invariant-loop-sent g l =
    UnderWay g.M.Matcher.Did g.M.Matcher.guided g.M.Matcher.Learns g.Q.Question.answer l.line l.fn.request.items l.fn.self l.sent l.self
