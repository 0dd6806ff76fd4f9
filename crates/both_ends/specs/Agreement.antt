-- What holds of both ends after every log that the line allows. Assumes nothing.
use Rattle.std.specs.Prelude.{◌≡◌, ◌⊎◌, ℕ, Bool, true, false, List, [], ◌∷◌, ◌++◌, Ok, Err, Result}
use Rattle.std.specs.List.{Any, list_any}
use Rattle.std.specs.FinMap.{get}
use Rattle.codes.specs.declared.session.Partition.{Partition}
use Rattle.configuration.specs.declared.participant.Participant.{Participant}
use Rattle.both_ends.specs.Allowed.{Allowed}
use Rattle.both_ends.specs.Laws.{IsComplete, state_of}
use Rattle.both_ends.specs.Runs.{Desk, Does, Runs, fresh}
use Rattle.both_ends.specs.Tallied.{there, Tallied}
use Rattle.both_ends.specs.declared.call.Done.{Done}
use Rattle.both_ends.specs.declared.call.Done.TheVariants as done
use Rattle.follower.specs.Following.{is_up, download_of}
use Rattle.follower.specs.Hearing.{heard_in}
use Rattle.follower.specs.Numbers.{number_of}
use Rattle.follower.specs.Sides.{completed_state}
use Rattle.follower.specs.declared.fault.FollowerFault.{FollowerFault}
use Rattle.follower.specs.declared.fault.FollowerFault.TheVariants.{Fold}
use Rattle.follower.specs.declared.heard.Heard.{Heard}
use Rattle.follower.specs.declared.heard.Heard.TheVariants.{Report}
use Rattle.follower.specs.declared.side.State.TheVariants.{Level}
use Rattle.follower.specs.declared.stage.Stage.TheVariants.{Running}
use Rattle.gateway.specs.State.{State, fresh as fresh_state}
use Rattle.keyed.specs.Numbers.{under}
use Rattle.layout.specs.declared.fault.Fault.{Fault}
use Rattle.partitions.specs.PerPartition.{at}
use Rattle.reports.specs.Tally.{is_of}
use Rattle.venue.specs.Ledger.{standing}
use Rattle.venue.specs.Books.{Books, open_of}

-- the last number that a follower folded in a partition
abbrev pub place : Desk → Partition → ℕ
place d p = (at d.follower.sides p).place

-- whether a number is that of a report of the owner's
abbrev pub is_hers : ℕ → State → Partition → ℕ → Bool
is_hers c s p n = is_of c (under (at s.venue.kept p) n)

-- ---- what came

-- whether the fold refused a report
abbrev pub is_unfit : {A : Type 0} → Result A FollowerFault → Bool
is_unfit (Err (Fold e)) = true
is_unfit r = false

abbrev pub refuses_report : Done → Bool
refuses_report (done.Live m r) = is_unfit r
refuses_report (done.Recovered m r) = is_unfit r
refuses_report d = false

-- a message, heard as this, is the report of a partition under a number
abbrev pub HeardAs : Partition → ℕ → Result Heard Fault → Type 0
HeardAs p n (Ok (Report q h)) = (q ≡ p) × (number_of h ≡ n)
HeardAs p n h = ⊥

abbrev pub Taken : {A : Type 0} → Result A FollowerFault → Type 0 → Type 0
Taken (Ok a) t = t
Taken (Err e) t = ⊥

-- a call gave the follower a report, which was not refused
abbrev pub Takes : Partition → ℕ → Done → Type 0
Takes p n (done.Live m r) = Taken r (HeardAs p n (heard_in m.items))
Takes p n (done.Recovered m r) = Taken r (HeardAs p n (heard_in m.items))
Takes p n d = ⊥

-- and one of these calls did
abbrev pub Took : Partition → ℕ → List Done → Type 0
Took p n xs = Any (Takes p n) xs

-- ---- the two ends

-- every report of the owner's in a partition was taken
abbrev pub AllTaken : ℕ → State → Partition → List Done → Type 0
AllTaken c s p xs = (n : ℕ) → is_hers c s p n ≡ true → Took p n xs

-- both ends show the same orders of the owner there, each with the same status, executed and open shares, and what is
-- open is what the matcher holds
pub record SameOrders (c : ℕ) (s : State) (d : Desk) (p : Partition) (n : ℕ) : Type 0 where
  pub shown : there p (get d.follower.standings n) ≡ standing s.venue.instruments c p (under s.venue.rows n)
  pub held : get s.venue.market.orders n ≡ open_of (under s.venue.rows n)

pub record Agrees (c : ℕ) (xs : List Done) (s : State) (d : Desk) : Type 0 where
  -- a follower's place is 0 or the number of a report of its own
  pub placed : (p : Partition) → (place d p ≡ 0) ⊎ (is_hers c s p (place d p) ≡ true)
  -- what it knows of its orders in a partition is just what the reports up to its place say
  pub known : Tallied c s.venue.kept d.follower.standings (place d)
  -- no report that came was refused by the fold
  pub fits : list_any refuses_report xs ≡ false
  -- where it says level, and every report was taken, both ends show the same
  pub level : (p : Partition) → state_of d p ≡ Level → AllTaken c s p xs → (n : ℕ) → SameOrders c s d p n

-- whichever CompID's line it is that the follower is on, if that line allows the log, both ends agree
abbrev pub EndsAgree : List Done → State → Desk → Type 0
EndsAgree xs s d = (c : ℕ) → Allowed c xs → Agrees c xs s d

-- from every state that a log leads to: where the line allows the complete end of a partition's download, the
-- partition is level behind it; one that was overrun only if its place has reached what passed, and else stays so
abbrev pub DownloadsLevel : Type 0
DownloadsLevel =
    (c : ℕ) (ps : List Participant) (v : Books) (xs : List Done) (s : State) (d : Desk) (x : Done) (w : State) (e : Desk)
    (p : Partition) → Runs (fresh_state ps v) fresh xs s d → Allowed c (xs ++ x ∷ []) → Does s d x w e → IsComplete x
    → is_up d.follower ≡ true → download_of d.follower ≡ Running p
    → state_of e p ≡ completed_state (state_of d p) (place e p)
