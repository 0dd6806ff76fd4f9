-- When a partition is level, and when not. Assumes nothing.
use Rattle.std.specs.Prelude.{nat_le, nat_lt}
use Rattle.std.specs.List.{list_any}
use Rattle.std.proofs.Common.{◌≡◌, ◌⊎◌, inl, inr, ℕ, ◌≤◌, max, Bool, true, false, cond, leb, List, [], ◌∷◌, ◌++◌, length, Ok, Err, Result, refl, sym, ap, ◌∙◌, subst}
use Rattle.std.proofs.lemmas.Bool.{leb-true, or_parts}
use Rattle.codes.specs.declared.session.AckResponse.{AckResponse}
use Rattle.codes.specs.declared.session.AckResponse.TheVariants.{Successful, LimitReached, InvalidAppId, ServiceUnavailable}
use Rattle.codes.specs.declared.session.Partition.{Partition}
use Rattle.codes.specs.declared.session.Partition.TheVariants.{One, Two, Three}
use Rattle.codes.specs.declared.session.ReportResponse.{ReportResponse}
use Rattle.codes.specs.declared.session.ReportResponse.TheVariants as ending
use Rattle.codes.specs.Session.{same_partition}
use Rattle.both_ends.specs.Laws.{Completes, LevelByDownload, LevelOnceReached, StaysLevel, StaysBehind, state_of, gives}
use Rattle.both_ends.specs.Runs.{Desk, Does, Runs, fresh, moved}
use Rattle.both_ends.specs.declared.call.Done.{Done}
use Rattle.both_ends.specs.declared.call.Done.TheVariants as done
use Rattle.follower.specs.Asking.{asks, asks_of, asking}
use Rattle.follower.specs.Folding.{Reached, reached, caught_up}
use Rattle.follower.specs.Following.{Following, is_up, download_of, Step, turned, answered, folded, folded_to, held, overrun, live_by, lived, acked, acked_of, recovered_of, reported, levelled, ended, ended_of, rejected, recovering, live_step, recovered_step, refused}
use Rattle.follower.specs.Hearing.{heard_in}
use Rattle.follower.specs.Numbers.{number_of}
use Rattle.follower.specs.Sides.{is_level, held_in, completed_state}
use Rattle.follower.specs.declared.answer.Live.{Live}
use Rattle.follower.specs.declared.answer.Live.TheVariants as live
use Rattle.follower.specs.declared.answer.Recovered.{Recovered}
use Rattle.follower.specs.declared.answer.Recovered.TheVariants as recovered
use Rattle.follower.specs.declared.fault.FollowerFault.{FollowerFault}
use Rattle.follower.specs.declared.fault.FollowerFault.TheVariants as fault
use Rattle.follower.specs.declared.heard.Heard.{Heard}
use Rattle.follower.specs.declared.heard.Heard.TheVariants.{Report, Ack, End, Reject, Nothing}
use Rattle.follower.specs.declared.heard.NumberedReport.{NumberedReport}
use Rattle.follower.specs.declared.hold.TheConstants.{HOLD}
use Rattle.follower.specs.declared.pending.Pending.{Pending}
use Rattle.follower.specs.declared.side.Side.{Side}
use Rattle.follower.specs.declared.side.State.{State as Standing}
use Rattle.follower.specs.declared.side.State.TheVariants.{Level, Behind, Overrun}
use Rattle.follower.specs.declared.stage.Stage.{Stage}
use Rattle.follower.specs.declared.stage.Stage.TheVariants.{Idle, Asked, Running}
use Rattle.gateway.specs.State.{State}
use Rattle.layout.specs.declared.fault.Fault.{Fault}
use Rattle.partitions.proofs.Written.{or_as_it_was, written}
use Rattle.partitions.specs.PerPartition.{at}
use Rattle.partitions.specs.declared.per_partition.PerPartition.{PerPartition}
use Rattle.reports.specs.Fold.{Knowledge}
use Rattle.reports.specs.declared.standings.FoldRefusal.{FoldRefusal}

abbrev state_in : Following → Partition → Standing
state_in f p = (at f.sides p).state

-- a partition is level, or is not, as it was
abbrev Same : Partition → Following → Following → Type 0
Same p f g = is_level (state_in g p) ≡ is_level (state_in f p)

is_it : (s : Standing) → is_level s ≡ true → s ≡ Level
is_it Level e = refl
is_it (Behind hs) e = absurd cc
is_it (Overrun n) e = absurd cc

-- so it is level where it was, and was where it is
carried : (s t : Standing) → is_level t ≡ is_level s → s ≡ Level → t ≡ Level
carried s t e l = is_it t (e ∙ ap is_level l)

module _ {A : Type 0} (p : Partition) where
  folded_same : (a : A) (f : Following) (q : Partition) (n : ℕ) (r : Result Knowledge FoldRefusal)
      → Same p f (folded_to a f q n r).after
  folded_same a f q n (Err e) = refl
  folded_same a f q n (Ok k) =
      or_as_it_was (λ u (y : Side). is_level y.state ≡ is_level (state_in f u)) f.sides q (record (at f.sides q) { place = n }) refl
      (λ u. refl) p

  either : (f : Following) (b : Bool) (x y : Step A) → Same p f x.after → Same p f y.after
      → Same p f (cond b x y).after
  either f true x y h g = h
  either f false x y h g = g

-- ---- the real-time channel

-- what is given live makes no partition level, nor takes its level from one
module _ (p : Partition) where
  held_same : (f : Following) (q : Partition) (hs : List NumberedReport) (h : NumberedReport)
      → state_in f q ≡ Behind hs → Same p f (held f q hs h).after
  held_same f q hs h e =
      or_as_it_was (λ u (y : Side). is_level y.state ≡ is_level (state_in f u)) f.sides q
      (record (at f.sides q) { state = Behind (hs ++ h ∷ []) }) (sym (ap is_level e)) (λ u. refl) p

  overrun_same : (f : Following) (q : Partition) (n : ℕ) → is_level (state_in f q) ≡ false
      → Same p f (overrun f q n).after
  overrun_same f q n e =
      or_as_it_was (λ u (y : Side). is_level y.state ≡ is_level (state_in f u)) f.sides q
      (record (at f.sides q) { state = Overrun n }) (sym e) (λ u. refl) p

  by_state : (s : Standing) (f : Following) (q : Partition) (h : NumberedReport) → state_in f q ≡ s
      → Same p f (live_by s f q h).after
  by_state Level f q h e = folded_same p live.Folded f q (number_of h) _
  by_state (Behind hs) f q h e =
      either {A = Live} p f (nat_lt (length hs) HOLD) (held f q hs h) (overrun f q (number_of h))
      (held_same f q hs h e) (overrun_same f q (number_of h) (ap is_level e))
  by_state (Overrun n) f q h e = overrun_same f q (max n (number_of h)) (ap is_level e)

  lived_same : (f : Following) (h : Heard) → Same p f (lived f h).after
  lived_same f (Report q h) =
      either {A = Live} p f (nat_le (number_of h) (at f.sides q).place) (answered live.Already f)
      (live_by (state_in f q) f q h) refl (by_state (state_in f q) f q h refl)
  lived_same f (Ack r) = refl
  lived_same f (End r) = refl
  lived_same f Reject = refl
  lived_same f Nothing = refl

  live_same : (f : Following) (h : Result Heard Fault) → Same p f (live_step f h).after
  live_same f (Err e) = refl
  live_same f (Ok h) = either {A = Live} p f (is_up f) (lived f h) (refused fault.NotUp f) (lived_same f h) refl

-- ---- the recovery channel

-- the complete end of its download makes a partition level, one that was overrun only with its place at what passed
record Levelled (p : Partition) (f : Following) (h : Heard) (a : Step Recovered) : Type 0 where
  pub complete : h ≡ End ending.Complete
  pub runs : download_of f ≡ Running p
  pub ends : a.answer ≡ Ok recovered.Ended
  pub level : state_in a.after p ≡ Level
  pub reached : (n : ℕ) → state_in f p ≡ Overrun n → n ≤ (at a.after.sides p).place

-- and nothing else that comes there changes whether one is
abbrev Recovers : Partition → Following → Heard → Step Recovered → Type 0
Recovers p f h a = Same p f a.after ⊎ Levelled p f h a

module _ (p : Partition) where
  acked_same : (f : Following) (q : Partition) (r : AckResponse) → Same p f (acked_of f q r).after
  acked_same f q Successful = refl
  acked_same f q LimitReached = refl
  acked_same f q InvalidAppId = refl
  acked_same f q ServiceUnavailable = refl

  ack_same : (f : Following) (s : Stage) (r : AckResponse) → Same p f (acked f s r).after
  ack_same f Idle r = refl
  ack_same f (Asked q) r = acked_same f q r
  ack_same f (Running q) r = refl

  reported_same : (f : Following) (s : Stage) (q : Partition) (h : NumberedReport) → Same p f (reported f s q h).after
  reported_same f Idle q h = refl
  reported_same f (Asked u) q h =
      either {A = Recovered} p f (same_partition q u) (refused fault.OutOfTurn f) (refused fault.Partition f) refl refl
  reported_same f (Running u) q h =
      either {A = Recovered} p f (same_partition q u) (recovered_of f q h) (refused fault.Partition f)
      (either {A = Recovered} p f (nat_le (number_of h) (at f.sides q).place) (answered recovered.Already f)
      (folded recovered.Folded f q h) refl (folded_same p recovered.Folded f q (number_of h) _)) refl

  -- a side behind a complete download: as it was, or level with its place at what passed
  abbrev Became : Standing → Side → Type 0
  Became s y =
      (is_level y.state ≡ is_level s) ⊎ ((y.state ≡ Level) × ((n : ℕ) → s ≡ Overrun n → n ≤ y.place))

  became : (s : Standing) (n : ℕ) → Became s (record { place = n; state = completed_state s n })
  became Level n = inl refl
  became (Behind hs) n = inr (refl, λ k e. absurd cc)
  became (Overrun k) n = by (leb k n) refl
    where
      passed : (i j : ℕ) → Overrun i ≡ Overrun j → i ≡ j
      passed i j e = cc

      by : (b : Bool) → leb k n ≡ b → Became (Overrun k) (record { place = n; state = cond b Level (Overrun k) })
      by true e = inr (refl, λ i o. subst (λ j. j ≤ n) (passed k i o) (leb-true k n e))
      by false e = inl refl

  levelled_so : (f : Following) (q : Partition) (r : Result Reached FoldRefusal) → download_of f ≡ Running q
      → Recovers p f (End ending.Complete) (levelled f q r)
  levelled_so f q (Err e) d = inl refl
  levelled_so f q (Ok r) d = by
      (written (λ u (y : Side). ((q ≡ u) × Became (state_in f u) y) ⊎ (is_level y.state ≡ is_level (state_in f u)))
      f.sides q p (record { place = r.place; state = completed_state (state_in f q) r.place })
      (λ e. inl (
        e,
        subst (λ u. Became (state_in f u) (record { place = r.place; state = completed_state (state_in f q) r.place }))
            e (became (state_in f q) r.place),
      )) (inr refl))
    where
      after : Side
      after = at (levelled f q (Ok r)).after.sides p

      by : ((q ≡ p) × Became (state_in f p) after) ⊎ (is_level after.state ≡ is_level (state_in f p))
          → Recovers p f (End ending.Complete) (levelled f q (Ok r))
      by (inr e) = inl e
      by (inl (e, inl same)) = inl same
      by (inl (e, inr (l, reached))) =
          inr (record { complete = refl; runs = d ∙ ap Running e; ends = refl; level = l; reached = reached })

  ended_so : (f : Following) (q : Partition) (r : ReportResponse) → download_of f ≡ Running q
      → Recovers p f (End r) (ended_of f q r)
  ended_so f q ending.Complete d =
      levelled_so f q (caught_up q (reached f.standings (at f.sides q).place) (held_in (state_in f q))) d
  ended_so f q ending.MessageLimit d = inl refl
  ended_so f q ending.ServiceUnavailable d = inl refl

  end_so : (f : Following) (s : Stage) (r : ReportResponse) → download_of f ≡ s → Recovers p f (End r) (ended f s r)
  end_so f Idle r d = inl refl
  end_so f (Asked q) r d = inl refl
  end_so f (Running q) r d = ended_so f q r d

  rejected_same : (f : Following) (s : Stage) → Same p f (rejected f s).after
  rejected_same f Idle = refl
  rejected_same f (Asked q) = refl
  rejected_same f (Running q) = refl

  recovering_so : (f : Following) (h : Heard) → Recovers p f h (recovering f h)
  recovering_so f (Report q h) = inl (reported_same f (download_of f) q h)
  recovering_so f (Ack r) = inl (ack_same f (download_of f) r)
  recovering_so f (End r) = end_so f (download_of f) r refl
  recovering_so f Reject = inl (rejected_same f (download_of f))
  recovering_so f Nothing = inl refl

  if_recovering : (b : Bool) (f : Following) (h : Heard)
      → Recovers p f h (cond b (recovering f h) (refused fault.NotUp f))
  if_recovering true f h = recovering_so f h
  if_recovering false f h = inl refl

  recovered_so : (f : Following) (r : Result Heard Fault)
      → Same p f (recovered_step f r).after ⊎ ((h : Heard) × (r ≡ Ok h) × Levelled p f h (recovered_step f r))
  recovered_so f (Err e) = inl refl
  recovered_so f (Ok h) = elim (if_recovering (is_up f) f h) [ inl e ↦ inl e | inr l ↦ inr (h, refl, l) ]

-- asking leaves the partitions
asked_sides : (f : Following) (t : Pending) (out : List ℕ) (r : Result Partition FollowerFault)
    → (asks_of f t out r).after.sides ≡ f.sides
asked_sides f t out (Err e) = refl
asked_sides f t out (Ok p) = refl

asked_as : {X : Type 0} (to : PerPartition Side → X) (d : Desk) (n : ℕ) (out : List ℕ)
    → to (asks d.follower d.token n out).after.sides ≡ to d.follower.sides
asked_as to d n out = ap to (asked_sides d.follower d.token out (asking d.follower d.token n (length out)))

asked_same : (d : Desk) (n : ℕ) (out : List ℕ) (p : Partition) → Same p d.follower (asks d.follower d.token n out).after
asked_same d n out p = asked_as (λ x. is_level (at x p).state) d n out

-- ---- from level to behind, and from behind to level

turned_behind : (up : Bool) (f : Following) (p : Partition) → state_in (turned up f) p ≡ Behind []
turned_behind up f One = refl
turned_behind up f Two = refl
turned_behind up f Three = refl

to_desk : (d e : Desk) (f : Following) (p : Partition) (x : Standing) → e ≡ moved d f → state_in f p ≡ x
    → state_of e p ≡ x
to_desk d e f p x k l = ap (λ (y : Desk). state_of y p) k ∙ l

from_desk : (d e : Desk) (f : Following) (p : Partition) (x : Standing) → e ≡ moved d f → state_of e p ≡ x
    → state_in f p ≡ x
from_desk d e f p x k l = sym (ap (λ (y : Desk). state_of y p) k) ∙ l

not_both : {X : Type 0} (x : Standing) → x ≡ Behind [] → x ≡ Level → X
not_both x b l = absurd (let z : Behind [] ≡ Level = sym b ∙ l in cc)

pub stays_level : StaysLevel
stays_level s d (done.Venue v) w e p (m, k) b l = ap (λ (y : Desk). state_of y p) k ∙ l
stays_level s d done.Up w e p h b l = absurd (let z : true ≡ false = b in cc)
stays_level s d done.Lost w e p h b l = absurd (let z : true ≡ false = b in cc)
stays_level s d (done.Live m r) w e p (i, a, k) b l =
    to_desk d e (live_step d.follower (heard_in m.items)).after p Level k
    (carried _ _ (live_same p d.follower (heard_in m.items)) l)
stays_level s d (done.Recovered m r) w e p (i, a, k) b l = by (recovered_so p d.follower (heard_in m.items))
  where
    by : Same p d.follower (recovered_step d.follower (heard_in m.items)).after
        ⊎ ((h : Heard) × (heard_in m.items ≡ Ok h) × Levelled p d.follower h (recovered_step d.follower (heard_in m.items)))
        → state_of e p ≡ Level
    by (inl same) = to_desk d e (recovered_step d.follower (heard_in m.items)).after p Level k (carried _ _ same l)
    by (inr (h, q, now)) = to_desk d e (recovered_step d.follower (heard_in m.items)).after p Level k now.level
stays_level s d (done.Ask n r) w e p (m, a, c, k) b l =
    to_desk d e (asks d.follower d.token n r.before.items).after p Level k
    (carried _ _ (asked_same d n r.before.items p) l)

pub level_by_download : LevelByDownload
level_by_download s d (done.Venue v) w e p (m, k) b l = absurd (b (sym (ap (λ (y : Desk). state_of y p) k) ∙ l))
level_by_download s d done.Up w e p (m, k) b l = not_both (state_in (turned true d.follower) p)
    (turned_behind true d.follower p) (from_desk d e (turned true d.follower) p Level k l)
level_by_download s d done.Lost w e p (m, k) b l = not_both (state_in (turned false d.follower) p)
    (turned_behind false d.follower p) (from_desk d e (turned false d.follower) p Level k l)
level_by_download s d (done.Live m r) w e p (i, a, k) b l =
    absurd (b (carried _ _ (sym (live_same p d.follower (heard_in m.items)))
    (from_desk d e (live_step d.follower (heard_in m.items)).after p Level k l)))
level_by_download s d (done.Recovered m r) w e p (i, a, k) b l = by (recovered_so p d.follower (heard_in m.items))
  where
    now : state_in (recovered_step d.follower (heard_in m.items)).after p ≡ Level
    now = from_desk d e (recovered_step d.follower (heard_in m.items)).after p Level k l

    by : Same p d.follower (recovered_step d.follower (heard_in m.items)).after
        ⊎ ((h : Heard) × (heard_in m.items ≡ Ok h) × Levelled p d.follower h (recovered_step d.follower (heard_in m.items)))
        → Completes d p (done.Recovered m r)
    by (inl same) = absurd (b (carried _ _ (sym same) now))
    by (inr (h, q, z)) = record { complete = q ∙ ap Ok z.complete; ends = a ∙ z.ends; runs = z.runs }
level_by_download s d (done.Ask n r) w e p (m, a, c, k) b l = absurd (b (carried _ _ (sym (asked_same d n r.before.items p))
    (from_desk d e (asks d.follower d.token n r.before.items).after p Level k l)))

-- ---- from overrun to level

level_not_overrun : {X : Type 0} (s : Standing) (n : ℕ) → s ≡ Overrun n → s ≡ Level → X
level_not_overrun s n o l = absurd (let z : Overrun n ≡ Level = sym o ∙ l in cc)

-- whatever levels it is a complete end, and that one has reached what passed
reached_by : (s : State) (d : Desk) (x : Done) (w : State) (e : Desk) (p : Partition) (n : ℕ) → Does s d x w e
    → state_of d p ≡ Overrun n → state_of e p ≡ Level → Completes d p x → n ≤ (at e.follower.sides p).place
reached_by s d (done.Recovered m r) w e p n (i, a, k) o l c = by (recovered_so p d.follower (heard_in m.items))
  where
    after : Following
    after = (recovered_step d.follower (heard_in m.items)).after

    now : state_in after p ≡ Level
    now = from_desk d e after p Level k l

    by : Same p d.follower after
        ⊎ ((h : Heard) × (heard_in m.items ≡ Ok h) × Levelled p d.follower h (recovered_step d.follower (heard_in m.items)))
        → n ≤ (at e.follower.sides p).place
    by (inl same) = level_not_overrun (state_in d.follower p) n o (carried _ _ (sym same) now)
    by (inr (h, q, became)) = subst (λ (y : Desk). n ≤ (at y.follower.sides p).place) (sym k) (became.reached n o)
reached_by s d (done.Venue v) w e p n h o l c = absurd c.complete
reached_by s d done.Up w e p n h o l c = absurd c.complete
reached_by s d done.Lost w e p n h o l c = absurd c.complete
reached_by s d (done.Live m r) w e p n h o l c = absurd c.complete
reached_by s d (done.Ask i r) w e p n h o l c = absurd c.complete

pub level_once_reached : LevelOnceReached
level_once_reached s d x w e p n h o l =
    reached_by s d x w e p n h o l
    (level_by_download s d x w e p h (λ z. level_not_overrun (state_of d p) n o z) l)

-- ---- a follower that is given nothing

one_behind : (s : State) (d : Desk) (x : Done) (w : State) (e : Desk) (p : Partition) → Does s d x w e → gives x
    ≡ false → state_of d p ≡ Behind [] → state_of e p ≡ Behind []
one_behind s d (done.Venue v) w e p (m, k) g b = ap (λ (y : Desk). state_of y p) k ∙ b
one_behind s d done.Up w e p (m, k) g b =
    to_desk d e (turned true d.follower) p (Behind []) k (turned_behind true d.follower p)
one_behind s d done.Lost w e p (m, k) g b =
    to_desk d e (turned false d.follower) p (Behind []) k (turned_behind false d.follower p)
one_behind s d (done.Live m r) w e p h g b = absurd (let z : true ≡ false = g in cc)
one_behind s d (done.Recovered m r) w e p h g b = absurd (let z : true ≡ false = g in cc)
one_behind s d (done.Ask n r) w e p (m, a, c, k) g b =
    to_desk d e (asks d.follower d.token n r.before.items).after p (Behind []) k
    (asked_as (λ x. (at x p).state) d n r.before.items ∙ b)

all_behind : (s : State) (d : Desk) (xs : List Done) (w : State) (e : Desk) (p : Partition) → Runs s d xs w e
    → list_any gives xs ≡ false → state_of d p ≡ Behind [] → state_of e p ≡ Behind []
all_behind s d [] w e p (a, b) g l = ap (λ (y : Desk). state_of y p) b ∙ l
all_behind s d (x ∷ xs) w e p (u, f, m, h, k, n, t, r) g l =
    let (here, later) = or_parts (gives x) (list_any gives xs) g in
    all_behind u f xs w e p r later (one_behind s d x u f p m here l)

fresh_behind : (p : Partition) → state_of fresh p ≡ Behind []
fresh_behind One = refl
fresh_behind Two = refl
fresh_behind Three = refl

pub stays_behind : StaysBehind
stays_behind s xs w e p r g = all_behind s fresh xs w e p r g (fresh_behind p)
