-- What every follower keeps from its start on. Assumes nothing.
use Rattle.std.specs.Prelude.{◌≡◌, ℕ, Bool, false, List, [], Result}
use Rattle.codes.specs.declared.session.Partition.{Partition}
use Rattle.layout.specs.declared.fault.Fault.{Fault}
use Rattle.partitions.specs.PerPartition.{at}
use Rattle.follower.specs.declared.heard.Heard.{Heard}
use Rattle.follower.specs.declared.pending.Pending.{Pending}
use Rattle.follower.specs.declared.side.State.TheVariants.{Behind}
use Rattle.follower.specs.Asking.{asks}
use Rattle.follower.specs.Following.{Following, is_up, start, turned, live_step, recovered_step}

-- not up: no partition is level or holds a report
pub record Quiet (f : Following) : Type 0 where
  pub fallen : is_up f ≡ false → (p : Partition) → (at f.sides p).state ≡ Behind []

pub record StaysQuiet : Type 0 where
  pub begins : Quiet start
  pub turns : (f : Following) (up : Bool) → Quiet (turned up f)
  pub lives : (f : Following) (h : Result Heard Fault) → Quiet f → Quiet (live_step f h).after
  pub recovers : (f : Following) (h : Result Heard Fault) → Quiet f → Quiet (recovered_step f h).after
  pub asks_on : (f : Following) (t : Pending) (n : ℕ) (out : List ℕ) → Quiet f → Quiet (asks f t n out).after
