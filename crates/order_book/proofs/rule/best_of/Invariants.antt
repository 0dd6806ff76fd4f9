use Rattle.order_book.specs.Pairing.{BestSoFar}
use Rattle.order_book.proofs.rule.best_of.Given as goal

abbrev pub invariant-loop-place : goal.invariant-loop-place
invariant-loop-place g l = BestSoFar (g.R.PairingRule.rule l.rule) l.order l.resting l.place l.best
