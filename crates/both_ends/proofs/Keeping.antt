-- What holds of both ends and of the line between them after every call that the line allows. Assumes nothing.
use Rattle.std.proofs.Common.{◌≡◌, ◌⊎◌, inl, inr, ℕ, ◌≤◌, max, true, false, List, [], ◌∷◌, ◌++◌, None, Ok, Err, Option, Result, length, refl, sym, ◌∙◌, subst}
use Rattle.codes.specs.declared.session.AckResponse.TheVariants.{Successful, LimitReached, InvalidAppId, ServiceUnavailable}
use Rattle.codes.specs.declared.session.Partition.{Partition}
use Rattle.codes.specs.declared.session.Partition.TheVariants.{One, Two, Three}
use Rattle.both_ends.proofs.Carrying.{reports_of, Delivery, OfPart, delivery_cut}
use Rattle.both_ends.proofs.Marks.{Marks, Whole, Load, unloaded}
use Rattle.both_ends.specs.Agreement.{place, is_hers}
use Rattle.both_ends.specs.Allowed.{Line}
use Rattle.both_ends.specs.Connecting.{up_in}
use Rattle.both_ends.specs.declared.connection.Connection.{Connection}
use Rattle.both_ends.specs.declared.connection.Connection.TheVariants as conn
use Rattle.both_ends.specs.declared.opening.Opening.{Opening}
use Rattle.both_ends.specs.declared.opening.Opening.TheVariants.{Awaited, Open, Failed}
use Rattle.both_ends.specs.Runs.{Desk}
use Rattle.both_ends.specs.Tallied.{Tallied}
use Rattle.follower.specs.Asking.{request, ReadBack}
use Rattle.follower.specs.Following.{Following, is_up, download_of}
use Rattle.follower.specs.Hearing.{heard_in}
use Rattle.follower.specs.Quiet.{Quiet}
use Rattle.follower.specs.declared.heard.Heard.{Heard}
use Rattle.follower.specs.declared.heard.Heard.TheVariants.{Report, Ack, End, Reject, Nothing}
use Rattle.follower.specs.declared.pending.Pending.{Pending}
use Rattle.follower.specs.Lines.{up_on, stage_on}
use Rattle.follower.specs.declared.line.Line.{Line as Connected}
use Rattle.follower.specs.declared.line.Line.TheVariants as line
use Rattle.follower.specs.declared.stage.Stage.{Stage}
use Rattle.follower.specs.declared.stage.Stage.TheVariants.{Idle, Asked, Running}
use Rattle.gateway.specs.State.{State, session}
use Rattle.layout.specs.declared.fault.Fault.{Fault}
use Rattle.limits.specs.declared.TheConstants.{ORDERS}
use Rattle.partitions.specs.PerPartition.{at}
use Rattle.partitions.specs.declared.per_partition.PerPartition.{PerPartition}
use Rattle.sessions.specs.declared.download.Download.{Download}
use Rattle.sessions.specs.Sessions.{download}
use Rattle.sessions.specs.declared.session.Session.{Session}
use Rattle.store.specs.Kept.{Kept}
use Rattle.venue.specs.Books.{Sound}

-- ---- the recovery channel

-- what ends a download that is asked
abbrev pub Refuses : Result Heard Fault → Type 0
Refuses (Ok (Ack Successful)) = ⊥
Refuses (Ok (Ack LimitReached)) = Unit {0}
Refuses (Ok (Ack InvalidAppId)) = Unit {0}
Refuses (Ok (Ack ServiceUnavailable)) = Unit {0}
Refuses (Ok Reject) = Unit {0}
Refuses (Ok (Report p h)) = ⊥
Refuses (Ok (End r)) = ⊥
Refuses (Ok Nothing) = ⊥
Refuses (Err e) = ⊥

-- the request is on its way to the gateway
abbrev pub Waits : Partition → Load → Option Download → Line → Type 0
Waits p d o x = (x.asked ≡ request p d.from ∷ []) × ReadBack p d.from × (x.recovered ≡ []) × (o ≡ None)

-- it was refused, and no download runs
abbrev pub Refused : Option Download → Line → Type 0
Refused o x =
    (x.asked ≡ []) × (o ≡ None) × ((x.recovered ≡ []) ⊎ ((m : List ℕ) × (x.recovered ≡ m ∷ []) × Refuses (heard_in m)))

-- it was granted, and its download is under way behind the word of it
abbrev pub Granted : Partition → Load → Option Download → Line → Type 0
Granted p d o x =
    (x.asked ≡ []) × (m : List ℕ) × (ms : List (List ℕ)) × (x.recovered ≡ m ∷ ms) × (heard_in m ≡ Ok (Ack Successful))
    × Delivery p o ms d.loaded d.to d.aim

abbrev pub AskedAs : Partition → Load → Option Download → Line → Type 0
AskedAs p d o x = Waits p d o x ⊎ (Refused o x ⊎ Granted p d o x)

abbrev pub RunsAs : Partition → Load → Option Download → Line → Type 0
RunsAs p d o x = (x.asked ≡ []) × OfPart p x.again d.again × Delivery p o x.recovered d.loaded d.to d.aim

-- nothing is asked, and nothing under way
abbrev pub Still : Option Download → Line → Type 0
Still o x = (x.asked ≡ []) × (x.recovered ≡ []) × (x.again ≡ []) × (o ≡ None)

-- by how far the follower's download is: what is asked, under way, and may come again
abbrev pub Staged : Stage → PerPartition Load → Option Download → Line → Type 0
Staged Idle ds o x = Still o x
Staged (Asked p) ds o x = (x.again ≡ []) × ((at ds p).again ≡ []) × AskedAs p (at ds p) o x
Staged (Running p) ds o x = RunsAs p (at ds p) o x

asked_cut : (p : Partition) (d : Load) (o : Option Download) (x : Line) → AskedAs p d o x → AskedAs p d None x
asked_cut p d o x (inl (e, r, h, f)) = inl (e, r, h, refl)
asked_cut p d o x (inr (inl (a, f, h))) = inr (inl (a, refl, h))
asked_cut p d o x (inr (inr (a, m, ms, e, h, f))) =
    inr (inr (a, m, ms, e, h, delivery_cut p o ms d.loaded d.to d.aim f))

-- the gateway's channel is closed
pub staged_cut : (t : Stage) (ds : PerPartition Load) (o : Option Download) (x : Line) → Staged t ds o x
    → Staged t ds None x
staged_cut Idle ds o x (a, r, g, e) = (a, r, g, refl)
staged_cut (Asked p) ds o x (a, g, h) = (a, g, asked_cut p (at ds p) o x h)
staged_cut (Running p) ds o x (a, r, h) =
    (a, r, delivery_cut p o x.recovered (at ds p).loaded (at ds p).to (at ds p).aim h)

-- what is under way live is nothing to it
pub staged_live : (t : Stage) (ds : PerPartition Load) (o : Option Download) (x : Line) (ms : List (List ℕ))
    → Staged t ds o x → Staged t ds o (record x { live = ms })
staged_live Idle ds o x ms h = h
staged_live (Asked p) ds o x ms h = h
staged_live (Running p) ds o x ms h = h

-- ---- the recovery channel, by how it began

abbrev pub NoneRuns : Stage → Type 0
NoneRuns Idle = Unit {0}
NoneRuns (Asked p) = Unit {0}
NoneRuns (Running p) = ⊥

-- the gateway was given nothing there
abbrev pub Unused : Option Download → Line → Type 0
Unused o x = (x.recovered ≡ []) × (x.again ≡ []) × (o ≡ None)

-- all that is under way there grants nothing
abbrev pub Refusing : List (List ℕ) → Type 0
Refusing [] = Unit {0}
Refusing (m ∷ ms) = Refuses (heard_in m) × Refusing ms

pub refusing_more : (ms : List (List ℕ)) (m : List ℕ) → Refuses (heard_in m) → Refusing ms → Refusing (ms ++ m ∷ [])
refusing_more [] m r h = (r, tt)
refusing_more (i ∷ ms) m r (a, h) = (a, refusing_more ms m r h)

-- before anything was given there; then; and where the first was a Logon that is no message
abbrev pub Channelled : Opening → Stage → PerPartition Load → Option Download → Line → Type 0
Channelled Awaited g ds o x = NoneRuns g × Unused o x × Staged g ds o x
Channelled Open g ds o x = Staged g ds o x
Channelled Failed g ds o x = NoneRuns g × Refusing x.recovered × (x.again ≡ []) × (o ≡ None)

-- whatever moves, but for what is under way there
pub channelled_on : (h : Opening) (g : Stage) (ds ds' : PerPartition Load) (o o' : Option Download) (x x' : Line)
    → x'.recovered ≡ x.recovered → x'.again ≡ x.again → (o ≡ None → o' ≡ None) → (Staged g ds o x → Staged g ds' o' x')
    → Channelled h g ds o x → Channelled h g ds' o' x'
channelled_on Awaited g ds ds' o o' x x' er ea eo on (n, (r, a, e), st) = (n, (er ∙ r, ea ∙ a, eo e), on st)
channelled_on Open g ds ds' o o' x x' er ea eo on st = on st
channelled_on Failed g ds ds' o o' x x' er ea eo on (n, r, a, e) = (n, subst Refusing (sym er) r, ea ∙ a, eo e)

pub channelled_live : (h : Opening) (g : Stage) (ds : PerPartition Load) (o : Option Download) (x : Line)
    (ms : List (List ℕ)) → Channelled h g ds o x → Channelled h g ds o (record x { live = ms })
channelled_live h g ds o x ms =
    channelled_on h g ds ds o o x (record x { live = ms }) refl refl (λ e. e) (staged_live g ds o x ms)

-- a channel that began as it should
pub opened : (h : Opening) (g : Stage) (ds : PerPartition Load) (o : Option Download) (x : Line) → h ≡ Open
    → Staged g ds o x → Channelled h g ds o x
opened Awaited g ds o x e st = absurd cc
opened Open g ds o x e st = st
opened Failed g ds o x e st = absurd cc

-- ---- both ends

-- a number that the follower took in a partition
abbrev pub Taking : Type 1
Taking = Partition → ℕ → Type 0

-- one number more was taken, in one partition
abbrev pub Only : Partition → ℕ → Taking → Type 0
Only p n t = (q : Partition) (i : ℕ) → t q i → (p ≡ q) × (n ≡ i)

abbrev pub or_one : Taking → Taking → Taking
or_one t u q i = t q i ⊎ u q i

-- the marks of a partition: how far the line brought, and had brought at the up, is known to nobody
abbrev pub marks_of : Kept → Session → Following → Line → PerPartition ℕ → PerPartition ℕ → PerPartition Load → Partition
    → Marks
marks_of k s f x y b ds p = record {
  stored = at k p;
  side = at f.sides p;
  sent = at s.sent p;
  live = reports_of p x.live;
  brought = at y p;
  base = at b p;
  load = at ds p;
}

-- no downloads
abbrev pub unloads : PerPartition ℕ → PerPartition Load
unloads y = record { one = unloaded y.one; two = unloaded y.two; three = unloaded y.three }

pub at_unloads : (y : PerPartition ℕ) (p : Partition) → at (unloads y) p ≡ unloaded (at y p)
at_unloads y One = refl
at_unloads y Two = refl
at_unloads y Three = refl

-- the number of the last report that was folded in a partition
abbrev pub place_in : Following → Partition → ℕ
place_in f p = (at f.sides p).place

-- a connection whose Logon was accepted
pub record Joined (c : ℕ) (k : Kept) (s : Session) (f : Following) (x : Line) (t : Taking) : Type 0 where
  pub y : PerPartition ℕ
  pub b : PerPartition ℕ
  pub ds : PerPartition Load
  pub parts : (p : Partition) → Whole c (marks_of k s f x y b ds p)
  pub taken : (p : Partition) (n : ℕ) → t p n → n ≤ max (place_in f p) (at y p)
  pub staged : Channelled x.opening (download_of f) ds (download s) x

-- what holds while a connection is away, ready or up
abbrev pub Phase : Connection → ℕ → Kept → Session → Following → Line → Taking → Type 0
Phase conn.Away c k s f x t = Unit {0}
Phase conn.Ready c k s f x t = Joined c k s f x t
Phase conn.Up c k s f x t = Joined c k s f x t

pub phase_on : (c : ℕ) (k k' : Kept) (s s' : Session) (f f' : Following) (x x' : Line) (t t' : Taking)
    → (Joined c k s f x t → Joined c k' s' f' x' t') → (a : Connection) → Phase a c k s f x t
    → Phase a c k' s' f' x' t'
phase_on c k k' s s' f f' x x' t t' on conn.Away h = tt
phase_on c k k' s s' f f' x x' t t' on conn.Ready h = on h
phase_on c k k' s s' f f' x x' t t' on conn.Up h = on h

-- by type, a follower that is not up has no download, and one that is has the one that it says
pub idle_where : (l : Connected) → up_on l ≡ false → stage_on l ≡ Idle
idle_where line.Away e = refl
idle_where (line.Up g) e = absurd cc

pub line_is : (l : Connected) → up_on l ≡ true → l ≡ line.Up (stage_on l)
line_is line.Away e = absurd cc
line_is (line.Up g) e = refl

pub record Keeps (c : ℕ) (s : State) (d : Desk) (x : Line) (t : Taking) : Type 0 where
  pub up : up_in x.connection ≡ is_up d.follower
  pub quiet : Quiet d.follower
  pub placed : (p : Partition) → (place d p ≡ 0) ⊎ (is_hers c s p (place d p) ≡ true)
  pub known : Tallied c s.venue.kept d.follower.standings (place d)
  pub hers : (p : Partition) (n : ℕ) → t p n → is_hers c s p n ≡ true
  pub sound : is_up d.follower ≡ true → Sound s.venue
  pub few : is_up d.follower ≡ true → length s.venue.rows ≤ ORDERS
  pub phase : Phase x.connection c s.venue.kept (session s c) d.follower x t

-- what was taken may be told in other words, and who keeps it does not hang on the token
pub keeps_taken : (c : ℕ) (s : State) (d : Desk) (x : Line) (t t' : Taking) (token : Pending)
    → ((p : Partition) (n : ℕ) → t' p n → t p n) → Keeps c s d x t
    → Keeps c s (record { follower = d.follower; token = token }) x t'
keeps_taken c s d x t t' token less k = record {
  up = k.up;
  quiet = k.quiet;
  placed = k.placed;
  known = k.known;
  hers = λ p n h. k.hers p n (less p n h);
  sound = k.sound;
  few = k.few;
  phase = phase_on c s.venue.kept s.venue.kept (session s c) (session s c) d.follower d.follower x x t t'
      (λ h. record { y = h.y; b = h.b; ds = h.ds; parts = h.parts; taken = λ p n i. h.taken p n (less p n i); staged = h.staged })
      x.connection k.phase;
}
