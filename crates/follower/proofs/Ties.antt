-- A call that takes a message begins no download, and what each call leaves of a token. Assumes nothing.
use Rattle.std.proofs.Common.{◌≡◌, ℕ, ◌+◌, ◌≤◌, inl, inr, Bool, true, false, cond, Some, None, Option, Ok, Err, Result, refl, sym, ap, ◌∙◌, subst, arith, length, nat_lt, nat_le}
use Rattle.codes.specs.declared.session.Partition.{Partition}
use Rattle.codes.specs.declared.session.AckResponse.{AckResponse}
use Rattle.codes.specs.declared.session.AckResponse.TheVariants.{Successful, LimitReached, InvalidAppId, ServiceUnavailable}
use Rattle.codes.specs.declared.session.ReportResponse.{ReportResponse}
use Rattle.codes.specs.declared.session.ReportResponse.TheVariants as ending
use Rattle.codes.specs.Session.{same_partition}
use Rattle.partitions.specs.PerPartition.{at}
use Rattle.reports.specs.Fold.{Knowledge, fold}
use Rattle.reports.specs.declared.standings.FoldRefusal.{FoldRefusal}
use Rattle.follower.specs.declared.answer.Live.TheVariants as live
use Rattle.follower.specs.declared.answer.Recovered.TheVariants as recovered
use Rattle.follower.specs.declared.fault.FollowerFault.TheVariants as fault
use Rattle.follower.specs.declared.heard.NumberedReport.{NumberedReport}
use Rattle.follower.specs.declared.heard.Heard.{Heard}
use Rattle.follower.specs.declared.heard.Heard.TheVariants.{Report, Ack, End, Reject, Nothing}
use Rattle.follower.specs.declared.hold.TheConstants.{HOLD}
use Rattle.follower.specs.declared.pending.Pending.{Pending}
use Rattle.follower.specs.declared.side.State.{State}
use Rattle.follower.specs.declared.side.State.TheVariants.{Level, Behind, Overrun}
use Rattle.follower.specs.declared.stage.Stage.{Stage}
use Rattle.follower.specs.declared.stage.Stage.TheVariants.{Idle, Asked, Running}
use Rattle.follower.specs.Numbers.{number_of}
use Rattle.follower.specs.Sides.{held_in}
use Rattle.follower.specs.Folding.{Reached, reached, caught_up}
use Rattle.follower.specs.Following.{Following, download_of, Step, answered, refused, folded, folded_to, held, overrun, live_by, lived, acked_of, acked, recovered_of, reported, levelled, ended_of, ended, rejected, recovering}
use Rattle.follower.specs.Owing.{owed, awaited, handed, token_after, BeginsNone, Tied, count, Covers}

-- ---- a message begins no download

abbrev On : {A : Type 0} → Following → Step A → Type 0
On f s = BeginsNone f s.after

module _ {A : Type 0} (f : Following) where
  on_either : (b : Bool) (x y : Step A) → On f x → On f y → On f (cond b x y)
  on_either true x y p q = p
  on_either false x y p q = q

  on_folded : (a : A) (p : Partition) (n : ℕ) (r : Result Knowledge FoldRefusal) → On f (folded_to a f p n r)
  on_folded a p n (Ok k) = inl refl
  on_folded a p n (Err e) = inl refl

module _ (f : Following) where
  live_at : (s : State) (p : Partition) (h : NumberedReport) → On f (live_by s f p h)
  live_at Level p h = on_folded f live.Folded p (number_of h) (fold p h.told f.standings)
  live_at (Behind hs) p h =
      on_either f (nat_lt (length hs) HOLD) (held f p hs h) (overrun f p (number_of h)) (inl refl) (inl refl)
  live_at (Overrun n) p h = inl refl

  live_heard : (h : Heard) → On f (lived f h)
  live_heard (Report p h) =
      on_either f (nat_le (number_of h) (at f.sides p).place) (answered live.Already f)
      (live_by (at f.sides p).state f p h) (inl refl) (live_at (at f.sides p).state p h)
  live_heard (Ack r) = inl refl
  live_heard (End r) = inl refl
  live_heard Reject = inl refl
  live_heard Nothing = inl refl

  acked_on : (p : Partition) (r : AckResponse) → (download_of f) ≡ Asked p → On f (acked_of f p r)
  acked_on p Successful s = inl (sym (ap awaited s))
  acked_on p LimitReached s = inr refl
  acked_on p InvalidAppId s = inr refl
  acked_on p ServiceUnavailable s = inr refl

  ack_on : (s : Stage) (r : AckResponse) → (download_of f) ≡ s → On f (acked f s r)
  ack_on Idle r d = inl refl
  ack_on (Asked p) r d = acked_on p r d
  ack_on (Running p) r d = inl refl

  report_of_on : (p : Partition) (h : NumberedReport) → On f (recovered_of f p h)
  report_of_on p h =
      on_either f (nat_le (number_of h) (at f.sides p).place) (answered recovered.Already f)
      (folded recovered.Folded f p h) (inl refl)
      (on_folded f recovered.Folded p (number_of h) (fold p h.told f.standings))

  report_on : (s : Stage) (p : Partition) (h : NumberedReport) → On f (reported f s p h)
  report_on Idle p h = inl refl
  report_on (Asked q) p h =
      on_either f (same_partition p q) (refused fault.OutOfTurn f) (refused fault.Partition f) (inl refl) (inl refl)
  report_on (Running q) p h =
      on_either f (same_partition p q) (recovered_of f p h) (refused fault.Partition f) (report_of_on p h) (inl refl)

  levelled_on : (p : Partition) (r : Result Reached FoldRefusal) → On f (levelled f p r)
  levelled_on p (Ok r) = inr refl
  levelled_on p (Err x) = inl refl

  end_of_on : (p : Partition) (r : ReportResponse) → On f (ended_of f p r)
  end_of_on p ending.Complete =
      levelled_on p (caught_up p (reached f.standings (at f.sides p).place) (held_in (at f.sides p).state))
  end_of_on p ending.MessageLimit = inr refl
  end_of_on p ending.ServiceUnavailable = inr refl

  end_on : (s : Stage) (r : ReportResponse) → On f (ended f s r)
  end_on Idle r = inl refl
  end_on (Asked p) r = inl refl
  end_on (Running p) r = end_of_on p r

  reject_on : (s : Stage) → On f (rejected f s)
  reject_on Idle = inl refl
  reject_on (Asked p) = inr refl
  reject_on (Running p) = inr refl

  recovered_heard : (h : Heard) → On f (recovering f h)
  recovered_heard (Report p h) = report_on (download_of f) p h
  recovered_heard (Ack r) = ack_on (download_of f) r refl
  recovered_heard (End r) = end_on (download_of f) r
  recovered_heard Reject = reject_on (download_of f)
  recovered_heard Nothing = inl refl

-- what is heard live, and on the recovery channel
pub lives_on : (f g : Following) (h : Heard) → g ≡ (lived f h).after → BeginsNone f g
lives_on f g h e = subst (BeginsNone f) (sym e) (live_heard f h)

pub recovers_on : (f g : Following) (h : Heard) → g ≡ (recovering f h).after → BeginsNone f g
recovers_on f g h e = subst (BeginsNone f) (sym e) (recovered_heard f h)

-- ---- what such a call leaves of a token

ended_tied : (a : Option Partition) (t : Pending) → owed t ≡ a → owed (handed a None t) ≡ None
ended_tied None t e = e
ended_tied (Some p) t e = refl

on_tied : (a : Option Partition) (t : Pending) → owed t ≡ a → owed (handed a a t) ≡ a
on_tied None t e = e
on_tied (Some p) t e = e

ended_covers : (a : Option Partition) (t : Pending) → count (owed t) + 0 ≤ count (owed (handed a None t)) + count a
ended_covers None t = omega arith
ended_covers (Some p) t = few (owed t)
  where
    few : (o : Option Partition) → count o + 0 ≤ 0 + 1
    few None = omega arith
    few (Some q) = omega arith

on_covers : (a : Option Partition) (t : Pending) → count (owed t) + count a ≤ count (owed (handed a a t)) + count a
on_covers None t = omega arith
on_covers (Some p) t = omega arith

pub begins_none : (f g : Following) → BeginsNone f g → awaited (download_of f) ≡ None → awaited (download_of g) ≡ None
begins_none f g (inl e) n = e ∙ n
begins_none f g (inr e) n = e

pub settled_tied : (f g : Following) (t u : Pending) → BeginsNone f g → u ≡ token_after f g t → Tied t f → Tied u g
settled_tied f g t u (inl e) k tied =
    ap owed k ∙ subst (λ b. owed (handed (awaited (download_of f)) b t) ≡ b) (sym e) (on_tied (awaited (download_of f)) t tied)
settled_tied f g t u (inr e) k tied =
    ap owed k ∙ subst (λ b. owed (handed (awaited (download_of f)) b t) ≡ b) (sym e) (ended_tied (awaited (download_of f)) t tied)

pub settled_covers : (f g : Following) (t u : Pending) → BeginsNone f g → u ≡ token_after f g t → Covers t f u g
settled_covers f g t u b k =
    subst (λ v. Covers t f v g) (sym k) (by b)
  where
    by : BeginsNone f g → Covers t f (token_after f g t) g
    by (inl e) = subst
        (λ b. count (owed t) + count b ≤ count (owed (handed (awaited (download_of f)) b t)) + count (awaited (download_of f)))
        (sym e) (on_covers (awaited (download_of f)) t)
    by (inr e) = subst
        (λ b. count (owed t) + count b ≤ count (owed (handed (awaited (download_of f)) b t)) + count (awaited (download_of f)))
        (sym e) (ended_covers (awaited (download_of f)) t)

-- what a call that begins none leaves
pub ruleset settled = (begins_none, settled_tied, settled_covers)
