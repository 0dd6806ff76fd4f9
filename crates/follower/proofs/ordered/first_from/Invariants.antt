use Rattle.follower.proofs.Firsts.{Seen}
use Rattle.follower.proofs.ordered.first_from.Given as goal

abbrev pub invariant-loop-i : goal.invariant-loop-i
invariant-loop-i l = Seen l.from l.standings l.i l.best
