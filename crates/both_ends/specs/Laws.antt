-- What a desk asks of its follower, of any call in any state. Assumes nothing.
use Rattle.std.specs.Prelude.{◌≡◌, ◌≢◌, ◌≤◌, ℕ, Bool, true, false, List, [], Ok}
use Rattle.std.specs.List.{list_any}
use Rattle.codes.specs.declared.session.Partition.{Partition}
use Rattle.codes.specs.declared.session.ReportResponse.TheVariants.{Complete}
use Rattle.both_ends.specs.Runs.{Desk, Does, Runs, fresh}
use Rattle.both_ends.specs.declared.call.Done.{Done}
use Rattle.both_ends.specs.declared.call.Done.TheVariants as done
use Rattle.follower.specs.Following.{download_of}
use Rattle.follower.specs.Hearing.{heard_in}
use Rattle.follower.specs.declared.answer.Recovered.TheVariants.{Ended}
use Rattle.follower.specs.declared.heard.Heard.TheVariants.{End}
use Rattle.follower.specs.declared.side.State.{State as Standing}
use Rattle.follower.specs.declared.side.State.TheVariants.{Level, Behind, Overrun}
use Rattle.follower.specs.declared.stage.Stage.TheVariants.{Running}
use Rattle.gateway.specs.State.{State}
use Rattle.partitions.specs.PerPartition.{at}

-- whether a partition is level, behind and with what held, or overrun and how high a number passed
abbrev pub state_of : Desk → Partition → Standing
state_of d p = (at d.follower.sides p).state

-- what takes its level from a partition: up, and lost
abbrev pub breaks : Done → Bool
breaks done.Up = true
breaks done.Lost = true
breaks d = false

-- nothing else does
abbrev pub StaysLevel : Type 0
StaysLevel =
    (s : State) (d : Desk) (x : Done) (w : State) (e : Desk) (p : Partition) → Does s d x w e → breaks x ≡ false
    → state_of d p ≡ Level → state_of e p ≡ Level

-- the end of a download that says complete
abbrev pub IsComplete : Done → Type 0
IsComplete (done.Recovered m r) = heard_in m.items ≡ Ok (End Complete)
IsComplete x = ⊥

-- the follower takes it as the end of a download
abbrev pub IsEnded : Done → Type 0
IsEnded (done.Recovered m r) = r ≡ Ok Ended
IsEnded x = ⊥

-- a call gives the follower the complete end of a download, which it takes while its own of the partition runs
pub record Completes (d : Desk) (p : Partition) (x : Done) : Type 0 where
  pub complete : IsComplete x
  pub ends : IsEnded x
  pub runs : download_of d.follower ≡ Running p

-- nothing else makes a partition level
abbrev pub LevelByDownload : Type 0
LevelByDownload =
    (s : State) (d : Desk) (x : Done) (w : State) (e : Desk) (p : Partition) → Does s d x w e → state_of d p ≢ Level
    → state_of e p ≡ Level → Completes d p x

-- and from overrun only where nothing that passed is above the place
abbrev pub LevelOnceReached : Type 0
LevelOnceReached =
    (s : State) (d : Desk) (x : Done) (w : State) (e : Desk) (p : Partition) (n : ℕ) → Does s d x w e
    → state_of d p ≡ Overrun n → state_of e p ≡ Level → n ≤ (at e.follower.sides p).place

-- whether the follower is given a message
abbrev pub gives : Done → Bool
gives (done.Live bs r) = true
gives (done.Recovered bs r) = true
gives d = false

-- a follower that is never given anything stays behind, with nothing held
abbrev pub StaysBehind : Type 0
StaysBehind =
    (s : State) (xs : List Done) (w : State) (e : Desk) (p : Partition) → Runs s fresh xs w e
    → list_any gives xs ≡ false → state_of e p ≡ Behind []
