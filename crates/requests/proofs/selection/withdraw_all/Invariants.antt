use Rattle.requests.proofs.Sweeping.{Swept}
use Rattle.requests.specs.Selection.{picks}
use Rattle.requests.proofs.selection.withdraw_all.Given as goal

-- the orders up to a number are withdrawn
abbrev pub invariant-loop-i : goal.invariant-loop-i
invariant-loop-i g l =
    Swept l.time (picks l.initial.venue.state.instruments l.selection) l.cause g.M.Matcher.Did l.i l.initial.venue l.venue
