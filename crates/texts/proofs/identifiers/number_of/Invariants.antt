use Rattle.std.proofs.Common.{◌≡◌, ◌^◌, ◌<◌, drop}
use Rattle.texts.specs.Identifiers.{after}
use Rattle.texts.proofs.identifiers.number_of.Given as goal

abbrev pub invariant-loop-c : goal.invariant-loop-c
invariant-loop-c l = (l.n < 2 ^ 64) × (after l.n (drop l.c-index l.digits) ≡ after 0 l.digits)
