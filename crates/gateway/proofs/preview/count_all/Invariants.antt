use Rattle.std.proofs.Common.{◌≡◌, take}
use Rattle.gateway.specs.Counting.{going_of}
use Rattle.requests.specs.Selection.{picks}
use Rattle.gateway.proofs.preview.count_all.Given as goal

-- the orders up to a number are counted
abbrev pub invariant-loop-i : goal.invariant-loop-i
invariant-loop-i g l =
    l.going ≡ going_of (picks l.venue.state.instruments l.selection) l.venue.state.instruments (take l.i l.venue.state.rows)
