-- Every call leaves a follower quiet. Assumes nothing.
use Rattle.std.proofs.Common.{◌≡◌, ℕ, Bool, true, false, cond, List, [], length, nat_lt, nat_le, Ok, Err, Result, refl, sym, ◌∙◌}
use Rattle.codes.specs.declared.session.Partition.{Partition}
use Rattle.codes.specs.declared.session.Partition.TheVariants.{One, Two, Three}
use Rattle.codes.specs.declared.session.AckResponse.{AckResponse}
use Rattle.codes.specs.declared.session.AckResponse.TheVariants.{Successful, LimitReached, InvalidAppId, ServiceUnavailable}
use Rattle.codes.specs.declared.session.ReportResponse.{ReportResponse}
use Rattle.codes.specs.declared.session.ReportResponse.TheVariants as ending
use Rattle.codes.specs.Session.{same_partition}
use Rattle.layout.specs.declared.fault.Fault.{Fault}
use Rattle.partitions.specs.PerPartition.{at}
use Rattle.reports.specs.Fold.{Knowledge, fold}
use Rattle.reports.specs.declared.standings.FoldRefusal.{FoldRefusal}
use Rattle.follower.specs.declared.answer.Live.TheVariants as live
use Rattle.follower.specs.declared.answer.Recovered.TheVariants as recovered
use Rattle.follower.specs.declared.fault.FollowerFault.{FollowerFault}
use Rattle.follower.specs.declared.fault.FollowerFault.TheVariants as fault
use Rattle.follower.specs.declared.heard.NumberedReport.{NumberedReport}
use Rattle.follower.specs.declared.heard.Heard.{Heard}
use Rattle.follower.specs.declared.heard.Heard.TheVariants.{Report, Ack, End, Reject, Nothing}
use Rattle.follower.specs.declared.hold.TheConstants.{HOLD}
use Rattle.follower.specs.declared.pending.Pending.{Pending}
use Rattle.follower.specs.declared.side.State.{State}
use Rattle.follower.specs.declared.side.State.TheVariants.{Level, Behind, Overrun}
use Rattle.follower.specs.declared.stage.Stage.{Stage}
use Rattle.follower.specs.declared.stage.Stage.TheVariants.{Idle, Asked, Running}
use Rattle.follower.specs.Numbers.{number_of}
use Rattle.follower.specs.Sides.{held_in}
use Rattle.follower.specs.Folding.{Reached, reached, caught_up}
use Rattle.follower.specs.Following.{Following, is_up, download_of, Step, start, turned, answered, refused, folded, folded_to, held, overrun, live_by, lived, acked_of, acked, recovered_of, reported, levelled, ended_of, ended, rejected, recovering, live_step, recovered_step}
use Rattle.follower.specs.Asking.{asks_of, asks, asking}
use Rattle.follower.specs.Quiet.{Quiet, StaysQuiet}

-- a follower that is up
pub up_quiet : (f : Following) → is_up f ≡ true → Quiet f
up_quiet f u = record { fallen = λ d. no d }
  where
    no : {X : Type 0} → is_up f ≡ false → X
    no d = absurd (let z : true ≡ false = sym u ∙ d in cc)

turns : (f : Following) (up : Bool) → Quiet (turned up f)
turns f up = record { fallen = λ d p. fallen p }
  where
    fallen : (p : Partition) → (at (turned up f).sides p).state ≡ Behind []
    fallen One = refl
    fallen Two = refl
    fallen Three = refl

-- a step that leaves a follower quiet
abbrev Leaves : {A : Type 0} → Step A → Type 0
Leaves s = Quiet s.after

either : {A : Type 0} (b : Bool) (x y : Step A) → Leaves x → Leaves y → Leaves (cond b x y)
either true x y p q = p
either false x y p q = q

module _ (f : Following) (u : is_up f ≡ true) where
  folds : {A : Type 0} (a : A) (p : Partition) (n : ℕ) (r : Result Knowledge FoldRefusal) → Leaves (folded_to a f p n r)
  folds a p n (Err e) = up_quiet _ u
  folds a p n (Ok k) = up_quiet _ u

  live_at : (s : State) (p : Partition) (h : NumberedReport) → Leaves (live_by s f p h)
  live_at Level p h = folds live.Folded p (number_of h) (fold p h.told f.standings)
  live_at (Behind hs) p h =
      either (nat_lt (length hs) HOLD) (held f p hs h) (overrun f p (number_of h)) (up_quiet _ u) (up_quiet _ u)
  live_at (Overrun n) p h = up_quiet _ u

  live_heard : (h : Heard) → Leaves (lived f h)
  live_heard (Report p h) =
      either (nat_le (number_of h) (at f.sides p).place) (answered live.Already f) (live_by (at f.sides p).state f p h)
      (up_quiet _ u) (live_at (at f.sides p).state p h)
  live_heard (Ack r) = up_quiet _ u
  live_heard (End r) = up_quiet _ u
  live_heard Reject = up_quiet _ u
  live_heard Nothing = up_quiet _ u

  ack_of : (p : Partition) (r : AckResponse) → Leaves (acked_of f p r)
  ack_of p Successful = up_quiet _ refl
  ack_of p LimitReached = up_quiet _ refl
  ack_of p InvalidAppId = up_quiet _ refl
  ack_of p ServiceUnavailable = up_quiet _ refl

  ack : (s : Stage) (r : AckResponse) → Leaves (acked f s r)
  ack Idle r = up_quiet _ u
  ack (Asked p) r = ack_of p r
  ack (Running p) r = up_quiet _ u

  recovers_of : (p : Partition) (h : NumberedReport) → Leaves (recovered_of f p h)
  recovers_of p h =
      either (nat_le (number_of h) (at f.sides p).place) (answered recovered.Already f) (folded recovered.Folded f p h)
      (up_quiet _ u) (folds recovered.Folded p (number_of h) (fold p h.told f.standings))

  report : (s : Stage) (p : Partition) (h : NumberedReport) → Leaves (reported f s p h)
  report Idle p h = up_quiet _ u
  report (Asked q) p h =
      either (same_partition p q) (refused fault.OutOfTurn f) (refused fault.Partition f) (up_quiet _ u) (up_quiet _ u)
  report (Running q) p h =
      either (same_partition p q) (recovered_of f p h) (refused fault.Partition f) (recovers_of p h) (up_quiet _ u)

  level : (p : Partition) (r : Result Reached FoldRefusal) → Leaves (levelled f p r)
  level p (Err e) = up_quiet _ u
  level p (Ok r) = up_quiet _ refl

  end_of : (p : Partition) (r : ReportResponse) → Leaves (ended_of f p r)
  end_of p ending.Complete =
      level p (caught_up p (reached f.standings (at f.sides p).place) (held_in (at f.sides p).state))
  end_of p ending.MessageLimit = up_quiet _ refl
  end_of p ending.ServiceUnavailable = up_quiet _ refl

  end : (s : Stage) (r : ReportResponse) → Leaves (ended f s r)
  end Idle r = up_quiet _ u
  end (Asked p) r = up_quiet _ u
  end (Running p) r = end_of p r

  reject : (s : Stage) → Leaves (rejected f s)
  reject Idle = up_quiet _ u
  reject (Asked p) = up_quiet _ refl
  reject (Running p) = up_quiet _ refl

  recovered_heard : (h : Heard) → Leaves (recovering f h)
  recovered_heard (Report p h) = report (download_of f) p h
  recovered_heard (Ack r) = ack (download_of f) r
  recovered_heard (End r) = end (download_of f) r
  recovered_heard Reject = reject (download_of f)
  recovered_heard Nothing = up_quiet _ u

-- a step of a follower that may be down
taken : {A : Type 0} (f : Following) (b : Bool) (x y : Step A) → is_up f ≡ b → (is_up f ≡ true → Leaves x) → Leaves y
    → Leaves (cond b x y)
taken f true x y e p q = p e
taken f false x y e p q = q

lives : (f : Following) (h : Result Heard Fault) → Quiet f → Quiet (live_step f h).after
lives f (Err e) quiet = quiet
lives f (Ok h) quiet = taken f (is_up f) (lived f h) (refused fault.NotUp f) refl (λ u. live_heard f u h) quiet

recovers : (f : Following) (h : Result Heard Fault) → Quiet f → Quiet (recovered_step f h).after
recovers f (Err e) quiet = quiet
recovers f (Ok h) quiet =
    taken f (is_up f) (recovering f h) (refused fault.NotUp f) refl (λ u. recovered_heard f u h) quiet

asked : (f : Following) (t : Pending) (out : List ℕ) (r : Result Partition FollowerFault) → Quiet f
    → Quiet (asks_of f t out r).after
asked f t out (Err e) quiet = quiet
asked f t out (Ok p) quiet = up_quiet _ refl

asks_on : (f : Following) (t : Pending) (n : ℕ) (out : List ℕ) → Quiet f → Quiet (asks f t n out).after
asks_on f t n out quiet = asked f t out (asking f t n (length out)) quiet

begins : Quiet start
begins = turns start false

pub stays_quiet : StaysQuiet
stays_quiet = record { begins = begins; turns = turns; lives = lives; recovers = recovers; asks_on = asks_on }
