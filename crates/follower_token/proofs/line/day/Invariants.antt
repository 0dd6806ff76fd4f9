use Rattle.std.specs.Prelude.{◌≡◌}
use Rattle.follower.specs.Owing.{Tied}
use Rattle.follower_token.proofs.line.day.Given as goal

abbrev pub invariant-loop-event : goal.invariant-loop-event
invariant-loop-event g l = Tied l.pending l.follower
