use Rattle.both_ends.specs.Both.{StepsAll}
use Rattle.both_ends.proofs.state.BothEnds.run.Given as goal

-- the steps so far were taken
abbrev pub invariant-loop-step : goal.invariant-loop-step
invariant-loop-step g l = StepsAll g.M.Matcher.Did g.M.Matcher.guided g.M.Matcher.Learns g.Q.Question.answer l.yielded l.fn.self l.self
