-- What a follower is, and what each of its calls answers and leaves. Assumes nothing.
use Rattle.std.specs.Prelude.{ℕ, Bool, false, List, ◌∷◌, [], ◌++◌, length, Ok, Err, Result, Some, None, Option, nat_le, nat_lt, max, if◌then◌else◌}
use Rattle.codes.specs.Session.{same_partition}
use Rattle.codes.specs.declared.session.Partition.{Partition}
use Rattle.codes.specs.declared.session.AckResponse.{AckResponse}
use Rattle.codes.specs.declared.session.AckResponse.TheVariants.{Successful, LimitReached, InvalidAppId, ServiceUnavailable}
use Rattle.codes.specs.declared.session.ReportResponse.{ReportResponse}
use Rattle.codes.specs.declared.session.ReportResponse.TheVariants as ending
use Rattle.layout.specs.declared.fault.Fault.{Fault}
use Rattle.partitions.specs.declared.per_partition.PerPartition.{PerPartition}
use Rattle.partitions.specs.PerPartition.{at, with_at, for_each}
use Rattle.reports.specs.Fold.{Knowledge, nothing_known, fold}
use Rattle.reports.specs.declared.standings.FoldRefusal.{FoldRefusal}
use Rattle.follower.specs.declared.answer.Live.{Live}
use Rattle.follower.specs.declared.answer.Live.TheVariants as live
use Rattle.follower.specs.declared.answer.Recovered.{Recovered}
use Rattle.follower.specs.declared.answer.Recovered.TheVariants as recovered
use Rattle.follower.specs.declared.fault.FollowerFault.{FollowerFault}
use Rattle.follower.specs.declared.fault.FollowerFault.TheVariants as fault
use Rattle.follower.specs.declared.heard.NumberedReport.{NumberedReport}
use Rattle.follower.specs.declared.heard.Heard.{Heard}
use Rattle.follower.specs.declared.heard.Heard.TheVariants.{Report, Ack, End, Reject, Nothing}
use Rattle.follower.specs.declared.hold.TheConstants.{HOLD}
use Rattle.follower.specs.declared.line.Line.{Line}
use Rattle.follower.specs.declared.line.Line.TheVariants.{Away, Up}
use Rattle.follower.specs.declared.side.Side.{Side}
use Rattle.follower.specs.declared.side.State.{State}
use Rattle.follower.specs.declared.side.State.TheVariants.{Level, Behind, Overrun}
use Rattle.follower.specs.declared.stage.Stage.{Stage}
use Rattle.follower.specs.declared.stage.Stage.TheVariants.{Idle, Asked, Running}
use Rattle.follower.specs.Lines.{up_on, stage_on, turned_line}
use Rattle.follower.specs.Numbers.{number_of}
use Rattle.follower.specs.Folding.{Reached, reached, caught_up}
use Rattle.follower.specs.Sides.{new_side, fallen, held_in, completed_state}

-- what a follower knows of its orders, each partition, and whether it is up, with its download then
pub record Following : Type 0 where
  pub standings : Knowledge
  pub sides : PerPartition Side
  pub line : Line

abbrev pub is_up : Following → Bool
is_up f = up_on f.line

-- the download that is asked or runs; none where it is not up
abbrev pub download_of : Following → Stage
download_of f = stage_on f.line

abbrev pub start : Following
start = record { standings = nothing_known; sides = for_each new_side; line = Away }

-- the line is up or lost: all partitions behind, nothing held, no download
abbrev pub turned : Bool → Following → Following
turned up f = record f {
  sides = record { one = fallen f.sides.one; two = fallen f.sides.two; three = fallen f.sides.three };
  line = turned_line up;
}

-- what a call answers, and what stands after it
pub record Step (A : Type 0) : Type 0 where
  pub answer : Result A FollowerFault
  pub after : Following

module _ {A : Type 0} where
  abbrev pub answered : A → Following → Step A
  answered a f = record { answer = Ok a; after = f }

  -- a refused call changes nothing
  abbrev pub refused : FollowerFault → Following → Step A
  refused e f = record { answer = Err e; after = f }

  -- a report of a partition is folded, and the place moves to its number, unless the fold refuses it
  abbrev pub folded_to : A → Following → Partition → ℕ → Result Knowledge FoldRefusal → Step A
  folded_to a f p n (Err e) = refused (fault.Fold e) f
  folded_to a f p n (Ok k) =
      answered a (record f { standings = k; sides = with_at f.sides p (record (at f.sides p) { place = n }) })

  abbrev pub folded : A → Following → Partition → NumberedReport → Step A
  folded a f p h = folded_to a f p (number_of h) (fold p h.told f.standings)

-- one report more is held, behind those that are
abbrev pub held : Following → Partition → List NumberedReport → NumberedReport → Step Live
held f p hs h =
    answered live.Held (record f {
      sides = with_at f.sides p (record (at f.sides p) { state = Behind (hs ++ h ∷ []) });
    })

-- a report passes: its partition is overrun, with this the highest number that passed
abbrev pub overrun : Following → Partition → ℕ → Step Live
overrun f p n =
    answered live.Passed (record f { sides = with_at f.sides p (record (at f.sides p) { state = Overrun n }) })

-- a report above its partition's place: folded where the partition is level, held where it is behind while there is room;
-- it passes where there is none, and where the partition is overrun
abbrev pub live_by : State → Following → Partition → NumberedReport → Step Live
live_by Level f p h = folded live.Folded f p h
live_by (Behind hs) f p h = if nat_lt (length hs) HOLD then held f p hs h else overrun f p (number_of h)
live_by (Overrun n) f p h = overrun f p (max n (number_of h))

-- the state of the partition that a message is for
abbrev pub state_for : Following → Heard → Option State
state_for f (Report p h) = Some (at f.sides p).state
state_for f h = None

-- what comes live: a report at or below its partition's place is there already, one without a number is nothing
abbrev pub lived : Following → Heard → Step Live
lived f (Report p h) =
    if nat_le (number_of h) (at f.sides p).place then answered live.Already f
    else live_by (at f.sides p).state f p h
lived f (Ack r) = answered live.Nothing f
lived f (End r) = answered live.Nothing f
lived f Reject = answered live.Nothing f
lived f Nothing = answered live.Nothing f

abbrev pub no_download : Following → Following
no_download f = record f { line = Up Idle }

abbrev pub download_ended : Following → Step Recovered
download_ended f = answered recovered.Ended (no_download f)

-- an Ack of what was asked of a partition: only Successful begins a download
abbrev pub acked_of : Following → Partition → AckResponse → Step Recovered
acked_of f p Successful = answered recovered.Begun (record f { line = Up (Running p) })
acked_of f p LimitReached = download_ended f
acked_of f p InvalidAppId = download_ended f
acked_of f p ServiceUnavailable = download_ended f

-- an Ack, by what is asked
abbrev pub acked : Following → Stage → AckResponse → Step Recovered
acked f Idle r = refused fault.OutOfTurn f
acked f (Asked p) r = acked_of f p r
acked f (Running p) r = refused fault.OutOfTurn f

-- a report of a download that runs
abbrev pub recovered_of : Following → Partition → NumberedReport → Step Recovered
recovered_of f p h =
    if nat_le (number_of h) (at f.sides p).place then answered recovered.Already f
    else folded recovered.Folded f p h

-- a report: with a download it has to be of its partition, and the download has to run
abbrev pub reported : Following → Stage → Partition → NumberedReport → Step Recovered
reported f Idle p h = refused fault.OutOfTurn f
reported f (Asked q) p h = if same_partition p q then refused fault.OutOfTurn f else refused fault.Partition f
reported f (Running q) p h = if same_partition p q then recovered_of f p h else refused fault.Partition f

-- what was held is folded behind the reports of the download, and the partition is level or stays overrun, unless one is
-- refused
abbrev pub levelled : Following → Partition → Result Reached FoldRefusal → Step Recovered
levelled f p (Err e) = refused (fault.Fold e) f
levelled f p (Ok r) = answered recovered.Ended (record f {
  standings = r.known;
  sides = with_at f.sides p (record { place = r.place; state = completed_state (at f.sides p).state r.place });
  line = Up Idle;
})

abbrev pub completed : Following → Partition → Step Recovered
completed f p = levelled f p (caught_up p (reached f.standings (at f.sides p).place) (held_in (at f.sides p).state))

-- the end of a download that runs: where it is not complete, no more changes than that none runs
abbrev pub ended_of : Following → Partition → ReportResponse → Step Recovered
ended_of f p ending.Complete = completed f p
ended_of f p ending.MessageLimit = download_ended f
ended_of f p ending.ServiceUnavailable = download_ended f

abbrev pub ended : Following → Stage → ReportResponse → Step Recovered
ended f Idle r = refused fault.OutOfTurn f
ended f (Asked p) r = refused fault.OutOfTurn f
ended f (Running p) r = ended_of f p r

-- a Reject ends a download that is asked or runs, and is nothing where none is
abbrev pub rejected : Following → Stage → Step Recovered
rejected f Idle = answered recovered.Nothing f
rejected f (Asked p) = download_ended f
rejected f (Running p) = download_ended f

-- what comes on the recovery channel
abbrev pub recovering : Following → Heard → Step Recovered
recovering f (Report p h) = reported f (download_of f) p h
recovering f (Ack r) = acked f (download_of f) r
recovering f (End r) = ended f (download_of f) r
recovering f Reject = rejected f (download_of f)
recovering f Nothing = answered recovered.Nothing f

-- a call that takes a message: first its bytes are checked, then whether the follower is up
abbrev pub taking : {A : Type 0} → (Following → Heard → Step A) → Following → Result Heard Fault → Step A
taking takes f (Err e) = refused (fault.Message e) f
taking takes f (Ok h) = if is_up f then takes f h else refused fault.NotUp f

abbrev pub live_step : Following → Result Heard Fault → Step Live
live_step f h = taking lived f h

abbrev pub recovered_step : Following → Result Heard Fault → Step Recovered
recovered_step f h = taking recovering f h
