-- Catching up: the downloads by which partitions become level. Assumes nothing.
use Rattle.std.specs.Prelude.{◌≡◌, ◌≢◌, ◌⊎◌, ℕ, ◌+◌, ◌≤◌, ◌<◌, max, Bool, true, false, Option, List, [], ◌∷◌, ◌++◌, length, map, take, Ok, Err, Result, if◌then◌else◌}
use Rattle.std.specs.Int.{div_ceil}
use Rattle.std.specs.List.{All}
use Rattle.codes.specs.declared.session.Partition.{Partition}
use Rattle.codes.specs.declared.session.Partition.TheVariants.{One, Two, Three}
use Rattle.configuration.specs.declared.participant.Participant.{Participant}
use Rattle.both_ends.specs.Agreement.{place}
use Rattle.both_ends.specs.Allowed.{Allowed, Line, Message, after_log, quiet}
use Rattle.both_ends.specs.Asking.{Answer, Goes, Moves, made}
use Rattle.both_ends.specs.Both.{Ends}
use Rattle.both_ends.specs.Laws.{state_of}
use Rattle.both_ends.specs.Runs.{Desk, Runs, call_of, fresh}
use Rattle.both_ends.specs.declared.call.Call.{Call}
use Rattle.both_ends.specs.declared.call.Call.TheVariants as call
use Rattle.both_ends.specs.declared.call.Done.{Done}
use Rattle.both_ends.specs.declared.call.Done.TheVariants as done
use Rattle.both_ends.specs.declared.entry.Entry.TheVariants.{Made}
use Rattle.both_ends.specs.declared.opening.Opening.TheVariants.{Failed}
use Rattle.follower.specs.Following.{download_of, is_up}
use Rattle.follower.specs.Sides.{is_level}
use Rattle.follower.specs.declared.fault.FollowerFault.{FollowerFault}
use Rattle.follower.specs.declared.side.Side.{Side}
use Rattle.follower.specs.declared.side.State.TheVariants.{Level}
use Rattle.follower.specs.declared.stage.Stage.TheVariants.{Idle, Running}
use Rattle.gateway.specs.State.{State, session, fresh as fresh_state}
use Rattle.gateway_runs.specs.Runs.{bytes_of}
use Rattle.gateway_runs.specs.declared.call.Call.{Call as VenueCall}
use Rattle.gateway_runs.specs.declared.call.Done.{Done as VenueDone}
use Rattle.gateway_runs.specs.declared.call.Done.TheVariants as venue
use Rattle.matching.specs.Asked.{Asked}
use Rattle.partitions.specs.PerPartition.{at}
use Rattle.sessions.specs.Laws.{owned}
use Rattle.sessions.specs.Sessions.{on}
use Rattle.sessions.specs.declared.download.Download.{Download}
use Rattle.sessions.specs.declared.session.Channel.TheVariants.{Recovery}
use Rattle.sessions.specs.declared.session.LoggedOn.TheVariants.{Recovering}
use Rattle.venue.specs.Books.{Books, Over}
use Rattle.texts.specs.declared.values.Price.{Price}

-- ---- how many downloads

-- so many reports come by so many downloads, 64 in each; where there is none, one says so
abbrev pub downloads_for : ℕ → ℕ
downloads_for n = max 1 (div_ceil n 64)

-- the numbers of the CompID's reports above its follower's place
abbrev pub missed : ℕ → State → Desk → Partition → List ℕ
missed c s d p = owned (at s.venue.kept p) c (place d p) (length (at s.venue.kept p))

-- the downloads that make a partition level: none where it is
abbrev pub needed : ℕ → State → Desk → Partition → ℕ
needed c s d p = if is_level (state_of d p) then 0 else downloads_for (length (missed c s d p))

-- the requests of the CompID that the day has granted
abbrev pub granted : ℕ → State → ℕ
granted c s = (session s c).used

-- ---- who can catch up

-- the line allows the log, and the recovery channel did not begin with a Logon that is no message
abbrev pub IsOpen : ℕ → List Done → Type 0
IsOpen c xs = (x : Line) × (after_log c xs quiet ≡ Ok x) × (x.opening ≢ Failed)

-- on such a line the follower is up and awaits no download, and the recovery channel is logged on
pub record CanAsk (c : ℕ) (xs : List Done) (s : State) (d : Desk) : Type 0 where
  pub line : IsOpen c xs
  pub up : is_up d.follower ≡ true
  pub idle : download_of d.follower ≡ Idle
  pub on : on Recovery (session s c) ≡ true

-- and as many requests are left of the day's 48 as the partitions need
pub record CanCatchUp (c : ℕ) (xs : List Done) (s : State) (d : Desk) : Type 0 where
  pub asks : CanAsk c xs s d
  pub enough : granted c s + (needed c s d One + needed c s d Two + needed c s d Three) ≤ 48

-- ---- the calls of a download

-- asking, the request given to the gateway, and what is then handed out and given to the follower
abbrev pub IsOfDownload : ℕ → Done → Type 0
IsOfDownload c (done.Ask n r) = Unit {0}
IsOfDownload c (done.Recovered m r) = Unit {0}
IsOfDownload c (done.Venue (venue.Recovery line m t r)) = line ≡ c
IsOfDownload c (done.Venue (venue.SendRecovered line r)) = line ≡ c
IsOfDownload c z = ⊥

module _ {M Q A : Type 0} (did : M → Asked → M → Type 0) (guided : Bool)
    (learns : M → ℕ → Option Price → Bool → M → Type 0) (answer : Answer Q A) where
  -- only calls of downloads were made, and kept
  pub record Downloads (c : ℕ) (b e : Ends M Q A) : Type 0 where
    pub calls : List Done
    pub only : All (IsOfDownload c) calls
    pub log : e.log ≡ b.log ++ map Made calls
    pub goes : Goes did guided learns answer b.gateway b.desk (map Made calls) e.gateway e.desk

-- a desk that can catch up does: every partition is level, for just as many requests as they needed
pub record CatchesUp {M Q A : Type 0} (c : ℕ) (b e : Ends M Q A) : Type 0 where
  pub level : (p : Partition) → state_of e.desk p ≡ Level
  pub granted : let s = b.gateway.state in
      granted c e.gateway.state
      ≡ granted c s + (needed c s b.desk One + needed c s b.desk Two + needed c s b.desk Three)
