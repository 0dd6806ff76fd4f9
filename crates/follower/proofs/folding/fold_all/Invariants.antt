use Rattle.std.proofs.Common.{◌≡◌, drop}
use Rattle.reports.specs.Known.{known}
use Rattle.queue.specs.Queues.{elements}
use Rattle.follower.specs.Folding.{reached, caught_up}
use Rattle.follower.proofs.folding.fold_all.Given as goal

-- what is left to fold leads from here to where the whole list leads
abbrev pub invariant-loop-i : goal.invariant-loop-i
invariant-loop-i l =
    caught_up l.partition (reached (known l.standings) l.place) (drop l.i (elements l.held))
    ≡ caught_up l.partition (reached (known l.initial.standings) l.initial.place) (elements l.held)
