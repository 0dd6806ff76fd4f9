-- One download, call by call. Assumes nothing.
use Rattle.std.specs.Prelude.{◌≡◌, ◌≢◌, ◌⊎◌, ℕ, ◌+◌, ◌≤◌, Bool, true, false, List, [], ◌∷◌, ◌++◌, length, take, Some, None, Ok, Err, Option, Result}
use Rattle.std.specs.Borrow.{Bor}
use Rattle.codes.specs.declared.session.Partition.{Partition}
use Rattle.configuration.specs.declared.participant.Participant.{Participant}
use Rattle.both_ends.specs.Agreement.{place}
use Rattle.both_ends.specs.Allowed.{Line, Message, after_log, quiet}
use Rattle.both_ends.specs.Asking.{Moves, made}
use Rattle.both_ends.specs.Both.{Ends}
use Rattle.both_ends.specs.Catching.{CanAsk, granted, missed, needed}
use Rattle.both_ends.specs.Laws.{state_of}
use Rattle.both_ends.specs.Runs.{Desk, Runs, call_of, fresh}
use Rattle.both_ends.specs.declared.call.Call.{Call}
use Rattle.both_ends.specs.declared.call.Call.TheVariants as call
use Rattle.both_ends.specs.declared.call.Done.{Done}
use Rattle.both_ends.specs.declared.call.Done.TheVariants as done
use Rattle.both_ends.specs.declared.entry.Entry.{Entry}
use Rattle.both_ends.specs.declared.entry.Entry.TheVariants.{Made, Midpoint, Asked as Answered}
use Rattle.both_ends.specs.declared.opening.Opening.TheVariants.{Failed}
use Rattle.follower.specs.Following.{download_of, is_up}
use Rattle.follower.specs.Asking.{request, ReadBack}
use Rattle.follower.specs.declared.fault.FollowerFault.{FollowerFault}
use Rattle.follower.specs.declared.side.State.TheVariants.{Level}
use Rattle.follower.specs.declared.stage.Stage.TheVariants.{Asked as Asking, Running}
use Rattle.gateway.specs.State.{State, session, fresh as fresh_state}
use Rattle.gateway_runs.specs.Runs.{bytes_of}
use Rattle.gateway_runs.specs.declared.call.Call.{Call as VenueCall}
use Rattle.gateway_runs.specs.declared.call.Done.{Done as VenueDone}
use Rattle.gateway_runs.specs.declared.call.Done.TheVariants as venue
use Rattle.matching.specs.Asked.{Asked}
use Rattle.partitions.specs.PerPartition.{at}
use Rattle.sessions.specs.declared.session.LoggedOn.TheVariants.{Recovering}
use Rattle.venue.specs.Books.{Books}

-- the bytes that a call left for the other end
abbrev pub left_by_venue : VenueDone → Message
left_by_venue (venue.RealTime line m t r) = bytes_of r
left_by_venue (venue.Recovery line m t r) = bytes_of r
left_by_venue (venue.Send line r) = bytes_of r
left_by_venue (venue.SendRecovered line r) = bytes_of r
left_by_venue z = []

abbrev pub written : Result ℕ FollowerFault → Message → Message
written (Ok n) buffer = take n buffer
written (Err e) buffer = []

abbrev pub left_by : Done → Message
left_by (done.Venue v) = left_by_venue v
left_by (done.Ask n r) = written r.answer r.after.items
left_by z = []

-- and the last call of a log
abbrev pub entry_left : {Q A : Type 0} → Entry Q A → Message
entry_left (Made z) = left_by z
entry_left (Midpoint i p r) = []
entry_left (Answered q a) = []

abbrev pub left_in : {Q A : Type 0} → Option (Bor (Entry Q A)) → Message
left_in None = []
left_in (Some x) = entry_left x.now

-- the follower is given these bytes on the recovery channel
abbrev pub IsGiven : Message → Done → Type 0
IsGiven bytes (done.Recovered m r) = m.items ≡ bytes
IsGiven bytes z = ⊥

module _ {M Q A : Type 0} (did : M → Asked → M → Type 0) where
  -- a call was made, and kept
  pub record Adds (z : Done) (b e : Ends M Q A) : Type 0 where
    pub log : e.log ≡ b.log ++ Made z ∷ []
    pub moves : Moves did b.gateway b.desk z e.gateway e.desk

  -- it is this call, and these are the bytes that it left
  pub record Passes (x : Call) (bytes : Message) (b e : Ends M Q A) : Type 0 where
    pub made : Done
    pub is : call_of made ≡ x
    pub left : bytes ≡ left_by made
    pub adds : Adds made b e

  -- a call of the gateway, and what it left given to the follower, if that is anything
  abbrev pub Exchanges : VenueCall → Bool → Ends M Q A → Ends M Q A → Type 0
  Exchanges x false b e = Passes (call.Venue x) [] b e
  Exchanges x true b e =
      (m : Ends M Q A) × (h : Message) × (h ≢ []) × Passes (call.Venue x) h b m × (z : Done) × IsGiven h z × Adds z m e

-- the calls of a log lead from the start of a day to both ends
abbrev pub Reached : List Done → State → Desk → Type 0
Reached xs s d = (ps : List Participant) × (v : Books) × Runs (fresh_state ps v) fresh xs s d

-- the line allows the log, its recovery channel did not begin with a Logon that is no message, and nothing is under way
-- there
abbrev pub IsClear : ℕ → List Done → Type 0
IsClear c xs = (x : Line) × (after_log c xs quiet ≡ Ok x) × (x.opening ≢ Failed) × (x.recovered ≡ [])

-- and this request is on its way to the gateway
pub record IsAsked (c : ℕ) (m : Message) (xs : List Done) : Type 0 where
  pub partition : Partition
  pub from : ℕ
  pub request : m ≡ request partition from
  pub line : Line
  pub allowed : after_log c xs quiet ≡ Ok line
  pub began : line.opening ≢ Failed
  pub recovered : line.recovered ≡ []
  pub asked : line.asked ≡ m ∷ []

module _ {M Q A : Type 0} (c : ℕ) where
  -- both ends are reached, and a download can be asked
  pub record Ready (b : Ends M Q A) : Type 0 where
    pub reached : Reached (made b.log) b.gateway.state b.desk
    pub asks : CanAsk c (made b.log) b.gateway.state b.desk

  -- downloads of a partition leave the store and the other partitions, and so many requests were granted
  pub record Stays (p : Partition) (n : ℕ) (b e : Ends M Q A) : Type 0 where
    pub kept : e.gateway.state.venue.kept ≡ b.gateway.state.venue.kept
    pub others : (q : Partition) → p ≢ q → at e.desk.follower.sides q ≡ at b.desk.follower.sides q
    pub granted : granted c e.gateway.state ≡ granted c b.gateway.state + n

  abbrev pub missed_in : Partition → Ends M Q A → List ℕ
  missed_in p b = missed c b.gateway.state b.desk p

  -- a request for a partition's reports, from its place on, is on its way to the gateway
  pub record Waiting (p : Partition) (m : Message) (b : Ends M Q A) : Type 0 where
    pub reached : Reached (made b.log) b.gateway.state b.desk
    pub line : IsAsked c m (made b.log)
    pub up : is_up b.desk.follower ≡ true
    pub asks : download_of b.desk.follower ≡ Asking p
    pub on : (session b.gateway.state c).on ≡ Recovering None
    pub request : m ≡ request p (place b.desk p)
    pub back : ReadBack p (place b.desk p)

  -- a download of a partition runs, and has handed out so many reports since it was asked
  pub record Loading (p : Partition) (k : ℕ) (b e : Ends M Q A) : Type 0 where
    pub reached : Reached (made e.log) e.gateway.state e.desk
    pub line : IsClear c (made e.log)
    pub up : is_up e.desk.follower ≡ true
    pub runs : download_of e.desk.follower ≡ Running p
    pub stays : Stays p 1 b e
    pub on : (session e.gateway.state c).on ≡ Recovering (Some (record {
      partition = p;
      last = place e.desk p;
      target = length (at e.gateway.state.venue.kept p);
      handed = k;
    }))
    pub state : state_of e.desk p ≡ state_of b.desk p
    pub left : length (missed_in p e) + k ≡ length (missed_in p b)
    pub few : k ≤ 64

  -- it has ended: the partition is level, or 64 reports came and some are left
  pub record Downloaded (p : Partition) (b e : Ends M Q A) : Type 0 where
    pub ready : Ready e
    pub stays : Stays p 1 b e
    pub brought : ((state_of e.desk p ≡ Level) × (length (missed_in p b) ≤ 64))
        ⊎ ((state_of e.desk p ≡ state_of b.desk p) × (missed_in p e ≢ [])
        × (length (missed_in p e) + 64 ≡ length (missed_in p b)))

  -- as many downloads as the partition needs have made it level
  pub record Levelled (p : Partition) (b e : Ends M Q A) : Type 0 where
    pub ready : Ready e
    pub stays : Stays p (needed c b.gateway.state b.desk p) b e
    pub level : state_of e.desk p ≡ Level
