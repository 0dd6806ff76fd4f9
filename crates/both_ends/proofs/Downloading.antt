-- One download, call by call, and what it makes of both ends. Assumes nothing.
use Rattle.std.specs.Prelude.{drop, nat_le, nat_lt, take}
use Rattle.std.proofs.Common.{◌≡◌, ◌≢◌, ◌⊎◌, inl, inr, ℕ, suc, ◌+◌, ◌-◌, ◌<◌, ◌≤◌, Bool, true, false, cond, leb, List, [], ◌∷◌, ◌++◌, Some, None, Ok, Err, Option, Result, IfOk, length, pos, refl, sym, ap, ◌∙◌, subst, arith, Vec, Global}
use Rattle.std.proofs.lemmas.Bool.{cases_lt, lt-leb, le-leb, leb-true, leb-false, true≢false}
use Rattle.std.proofs.lemmas.List.{get_or-set_same}
use Rattle.answers.specs.Bytes.{answer_bytes, end_bytes}
use Rattle.answers.specs.declared.answer.Answer.TheVariants.{Ack as AnsweredAck}
use Rattle.codes.specs.Session.{partition_code, same_partition}
use Rattle.codes.specs.declared.session.AckResponse.TheVariants.{Successful}
use Rattle.codes.specs.declared.session.Partition.{Partition}
use Rattle.codes.specs.declared.session.Partition.TheVariants.{One, Two, Three}
use Rattle.codes.specs.declared.session.ReportResponse.TheVariants as ending
use Rattle.both_ends.proofs.Flights.{there_within}
use Rattle.both_ends.proofs.Granting.{Grants, HandsOut, granted_session, grants, hands_out, recovering_there}
use Rattle.both_ends.proofs.Heard.{ack_heard, end_heard, report_heard, nothing_heard}
use Rattle.both_ends.proofs.Levelling.{downloads_level, passed_hers}
use Rattle.both_ends.proofs.Passing.{made_push}
use Rattle.both_ends.proofs.Requested.{request_long}
use Rattle.both_ends.proofs.Waiting.{Left, ask_left, asked_bytes, fits_at, given_back, left_none, reached_on, request_left, sends_left, still_at, tied_at}
use Rattle.both_ends.specs.Agreement.{is_unfit, place, refuses_report}
use Rattle.both_ends.specs.Allowed.{Line, Message, after_log, quiet}
use Rattle.both_ends.specs.Asking.{Answer, made}
use Rattle.both_ends.specs.Both.{Ends}
use Rattle.both_ends.specs.Catching.{CanAsk, IsOpen, granted, missed}
use Rattle.both_ends.specs.Downloading.{Adds, Downloaded, Exchanges, IsAsked, IsClear, IsGiven, Loading, Passes, Reached, Ready, Stays, Waiting, left_by, written}
use Rattle.both_ends.specs.Laws.{state_of}
use Rattle.both_ends.specs.Runs.{Desk, call_of}
use Rattle.both_ends.specs.declared.call.Call.{Call}
use Rattle.both_ends.specs.declared.call.Call.TheVariants as call
use Rattle.both_ends.specs.declared.call.Asked.{Asked as AskedOf}
use Rattle.both_ends.specs.declared.call.Done.{Done}
use Rattle.both_ends.specs.declared.call.Done.TheVariants as done
use Rattle.follower.specs.Asking.{asking, asking_of, asks_of, is_free, partition_of as follower_partition, request, ReadBack}
use Rattle.follower.specs.Owing.{awaited, owed}
use Rattle.follower.specs.declared.fault.FollowerFault.{FollowerFault}
use Rattle.follower.specs.declared.pending.Pending.{Pending}
use Rattle.follower.specs.Folding.{Reached as Folded_to, reached, caught_up}
use Rattle.follower.specs.Sides.{held_in, completed_state}
use Rattle.follower.specs.declared.line.Line.TheVariants as connected
use Rattle.follower.specs.Following.{Following, Step, download_of, is_up, answered, refused, folded, folded_to, acked, ended, ended_of, levelled, no_download, recovered_of, recovered_step, recovering, reported}
use Rattle.follower.specs.Hearing.{heard_in}
use Rattle.follower.specs.Numbers.{number_of}
use Rattle.follower.specs.declared.answer.Recovered.{Recovered}
use Rattle.follower.specs.declared.answer.Recovered.TheVariants as recovered
use Rattle.follower.specs.declared.fault.FollowerFault.TheVariants as fault
use Rattle.follower.specs.declared.heard.Heard.{Heard}
use Rattle.follower.specs.declared.heard.Heard.TheVariants.{Report, Ack, End}
use Rattle.follower.specs.declared.heard.NumberedReport.{NumberedReport}
use Rattle.follower.specs.declared.side.Side.{Side}
use Rattle.follower.specs.declared.side.State.{State as Standing}
use Rattle.follower.specs.declared.side.State.TheVariants.{Level, Behind, Overrun}
use Rattle.follower.specs.declared.stage.Stage.TheVariants as stage
use Rattle.gateway.specs.Calls.{recovered_bytes}
use Rattle.gateway.specs.State.{State, session, with_session}
use Rattle.gateway.specs.Telling.{RecoveredTold}
use Rattle.gateway_runs.specs.Runs.{bytes_of}
use Rattle.gateway_runs.specs.Runs as runs
use Rattle.gateway_runs.specs.declared.call.Call.TheVariants as venue_call
use Rattle.gateway_runs.specs.declared.call.Done.{Done as VenueDone}
use Rattle.gateway_runs.specs.declared.call.Done.TheVariants as venue
use Rattle.gateway_runs.specs.declared.call.Reply.{Reply}
use Rattle.keyed.specs.Numbers.{under}
use Rattle.layout.specs.declared.fault.Fault.{Fault}
use Rattle.limits.specs.declared.TheConstants.{DOWNLOADED, REQUESTS}
use Rattle.matching.specs.Asked.{Asked}
use Rattle.partitions.proofs.Written.{at_written, by_partition}
use Rattle.partitions.specs.PerPartition.{at, with_at}
use Rattle.partitions.specs.declared.per_partition.PerPartition.{PerPartition}
use Rattle.reports.specs.Fold.{Knowledge, fold}
use Rattle.reports.specs.Tally.{is_of}
use Rattle.reports.specs.declared.report.Entry.{Entry}
use Rattle.reports.specs.declared.standings.FoldRefusal.{FoldRefusal}
use Rattle.store.proofs.Nexts.{next-lowest}
use Rattle.reports.specs.Told.{told_of}
use Rattle.both_ends.proofs.Sendings.{one_in}
use Rattle.sessions.proofs.Owned.{Next, next_owned}
use Rattle.sessions.specs.Downloads.{answered as answered_out, begun, handed_out, recovered as recovered_of_download, remaining, up_to}
use Rattle.sessions.specs.Laws.{owned}
use Rattle.sessions.specs.Sessions.{download, fresh, is_on, on, running}
use Rattle.wire.specs.Kinds.{total_of}
use Rattle.wire.specs.declared.kinds.Kind.TheVariants.{MissedMessageRequest as Request}
use Rattle.sessions.specs.declared.download.Download.{Download}
use Rattle.sessions.specs.declared.download.HandedOut.{HandedOut}
use Rattle.sessions.specs.declared.download.HandedOut.TheVariants as handed
use Rattle.sessions.specs.declared.session.Channel.TheVariants.{Recovery}
use Rattle.sessions.specs.declared.session.LoggedOn.{LoggedOn}
use Rattle.sessions.specs.declared.session.LoggedOn.TheVariants.{Off, Live, Recovering}
use Rattle.sessions.specs.declared.session.Session.{Session}
use Rattle.store.specs.Kept.{Kept, next_after}
use Rattle.store.specs.Laws.{Lowest}
use Rattle.store.specs.Messages.{EntryTold, entry_bytes, stored_bytes}
use Rattle.texts.specs.declared.values.Time.{Time}
use Rattle.venue.proofs.Recording.{same_self}
use Rattle.wire.specs.declared.message.TheConstants.{BUFFER}

-- ---- what the follower makes of what it is given on the recovery channel

module _ (f : Following) (up : is_up f ≡ true) where
  taken : (h : Heard) → recovered_step f (Ok h) ≡ recovering f h
  taken h = ap (λ b. cond b (recovering f h) (refused fault.NotUp f)) up

  -- an Ack of what it asked
  granted_step : (p : Partition) → download_of f ≡ stage.Asked p
      → recovered_step f (Ok (Ack Successful)) ≡ answered recovered.Begun (record f { line = connected.Up (stage.Running p) })
  granted_step p d = taken (Ack Successful) ∙ ap (λ g. acked f g Successful) d

  -- the end of a download that hands out no more
  limit_step : (p : Partition) → download_of f ≡ stage.Running p
      → recovered_step f (Ok (End ending.MessageLimit)) ≡ answered recovered.Ended (no_download f)
  limit_step p d = taken (End ending.MessageLimit) ∙ ap (λ g. ended f g ending.MessageLimit) d

  -- the complete end, where the fold refuses nothing that is held
  record Completed (p : Partition) (a : Step Recovered) : Type 0 where
    pub stays_up : is_up a.after ≡ true
    pub idle : download_of a.after ≡ stage.Idle
    pub others : (q : Partition) → p ≢ q → at a.after.sides q ≡ at f.sides q

  completed_as : (p : Partition) (r : Result Folded_to FoldRefusal) → is_unfit (levelled f p r).answer ≡ false
      → Completed p (levelled f p r)
  completed_as p (Err e) h = absurd (true≢false h)
  completed_as p (Ok r) h = record {
    stays_up = refl;
    idle = refl;
    others = by_partition (λ q y. p ≢ q → y ≡ at f.sides q) f.sides p
        (record { place = r.place; state = completed_state (at f.sides p).state r.place }) (λ n. absurd (n refl))
        (λ q n i. refl);
  }

  -- where nothing is held the place stays
  unheld_place : (p : Partition) (n : ℕ) → (at f.sides p).state ≡ Overrun n → download_of f ≡ stage.Running p
      → (at (recovered_step f (Ok (End ending.Complete))).after.sides p).place ≡ (at f.sides p).place
  unheld_place p n over d =
      let now : recovered_step f (Ok (End ending.Complete)) ≡ ended f (stage.Running p) ending.Complete =
      taken (End ending.Complete) ∙ ap (λ g. ended f g ending.Complete) d in
      let here = at f.sides p in
      ap (λ (a : Step Recovered). (at a.after.sides p).place) now
      ∙ ap (λ hs. (at (levelled f p (caught_up p (reached f.standings here.place) hs)).after.sides p).place) (ap held_in over)
      ∙ ap (λ (y : Side). y.place)
      (at_written f.sides p (record { place = here.place; state = completed_state here.state here.place }))

  complete_step : (p : Partition) → download_of f ≡ stage.Running p
      → is_unfit (recovered_step f (Ok (End ending.Complete))).answer ≡ false
      → Completed p (recovered_step f (Ok (End ending.Complete)))
  complete_step p d fits =
      let now : recovered_step f (Ok (End ending.Complete)) ≡ ended f (stage.Running p) ending.Complete =
      taken (End ending.Complete) ∙ ap (λ g. ended f g ending.Complete) d in
      subst (Completed p) (sym now) (completed_as p (caught_up p (reached f.standings (at f.sides p).place) (held_in (at f.sides p).state))
      (subst (λ (a : Step Recovered). is_unfit a.answer ≡ false) now fits))

  -- the next report of a download that runs, where the fold does not refuse it
  record FoldedOn (p : Partition) (n : ℕ) (a : Step Recovered) : Type 0 where
    pub stays_up : is_up a.after ≡ true
    pub runs : download_of a.after ≡ stage.Running p
    pub place : (at a.after.sides p).place ≡ n
    pub state : (at a.after.sides p).state ≡ (at f.sides p).state
    pub others : (q : Partition) → p ≢ q → at a.after.sides q ≡ at f.sides q

  folded_as : (p : Partition) (n : ℕ) → download_of f ≡ stage.Running p → (r : Result Knowledge FoldRefusal)
      → is_unfit (folded_to recovered.Folded f p n r).answer ≡ false → FoldedOn p n (folded_to recovered.Folded f p n r)
  folded_as p n d (Err e) h = absurd (true≢false h)
  folded_as p n d (Ok k) h =
      let y : Side = record (at f.sides p) { place = n } in
      record {
        stays_up = up;
        runs = d;
        place = ap (λ (s : Side). s.place) (at_written f.sides p y);
        state = ap (λ (s : Side). s.state) (at_written f.sides p y);
        others = by_partition (λ q z. p ≢ q → z ≡ at f.sides q) f.sides p y (λ e. absurd (e refl)) (λ q e i. refl);
      }

  report_step : (p : Partition) (h : NumberedReport) → download_of f ≡ stage.Running p → (at f.sides p).place < number_of h
      → is_unfit (recovered_step f (Ok (Report p h))).answer ≡ false
      → FoldedOn p (number_of h) (recovered_step f (Ok (Report p h)))
  report_step p h d lt fits =
      let now : recovered_step f (Ok (Report p h)) ≡ folded recovered.Folded f p h =
      taken (Report p h) ∙ (ap (λ g. reported f g p h) d
      ∙ (ap (λ b. cond b (recovered_of f p h) (refused fault.Partition f)) (same_self p)
      ∙ ap (λ b. cond b (answered recovered.Already f) (folded recovered.Folded f p h))
      (lt-leb (number_of h) (at f.sides p).place lt))) in
      subst (FoldedOn p (number_of h)) (sym now) (folded_as p (number_of h) d (fold p h.told f.standings)
      (subst (λ (a : Step Recovered). is_unfit a.answer ≡ false) now fits))

-- ---- what was called

pub recovery_is : (c : ℕ) (v : Vec ℕ Global) (t : Time) (buf : Vec ℕ Global) (z : Done)
    → call_of z ≡ call.Venue (venue_call.Recovery c v t buf)
    → (r : Reply) × (z ≡ done.Venue (venue.Recovery c v t r)) × (r.before ≡ buf)
recovery_is c v t buf (done.Venue (venue.Recovery line m i r)) e = (r, cc, cc)
recovery_is c v t buf z e = absurd cc

pub sending_is : (c : ℕ) (buf : Vec ℕ Global) (z : Done) → call_of z ≡ call.Venue (venue_call.SendRecovered c buf)
    → (r : Reply) × (z ≡ done.Venue (venue.SendRecovered c r)) × (r.before ≡ buf)
sending_is c buf (done.Venue (venue.SendRecovered line r)) e = (r, cc, cc)
sending_is c buf z e = absurd cc

asked_is : (n : ℕ) (buf : Vec ℕ Global) (z : Done) → call_of z ≡ call.Ask n buf
    → (r : AskedOf) × (z ≡ done.Ask n r) × (r.before ≡ buf)
asked_is n buf (done.Ask i r) e = (r, (let same : i ≡ n = cc in ap (λ j. done.Ask j r) same), cc)
asked_is n buf z e = absurd cc

-- ---- what a desk that awaits nothing asks

asking_is : (f : Following) (t : Pending) (p : Partition) (room : ℕ) → is_up f ≡ true → download_of f ≡ stage.Idle
    → owed t ≡ None → nat_lt room BUFFER ≡ false → asking f t (partition_code p) room ≡ Ok p
asking_is f t p room up idle none wide =
    ap (λ b. cond b (Err fault.Buffer) (cond (is_up f) (asking_of f t (follower_partition (partition_code p))) (Err fault.NotUp)))
    wide
    ∙ (ap (λ u. cond u (asking_of f t (follower_partition (partition_code p))) (Err fault.NotUp)) up
    ∙ (ap (asking_of f t) (named p)
    ∙ (ap (λ g. cond (is_free g (owed t)) (Ok p) (Err fault.OutOfTurn)) idle
    ∙ ap (λ o. cond (is_free stage.Idle o) (Ok p) (Err fault.OutOfTurn)) none)))
  where
    named : (p : Partition) → follower_partition (partition_code p) ≡ Some p
    named One = refl
    named Two = refl
    named Three = refl

-- a request is not empty
pub request_some : (p : Partition) (n : ℕ) → ReadBack p n → request p n ≢ []
request_some p n back e = (let z : 0 ≡ total_of Request = sym (ap length e) ∙ request_long p n back in omega arith)

-- ---- numbers that are missed

-- the owner's reports above the next one
next_missed : (c : ℕ) (l : List Entry) (a n : ℕ) → up_to (length l) (next_after l c a) ≡ Some n
    → length (owned l c a (length l)) ≡ length (owned l c n (length l)) + 1
next_missed c l a n e =
    let h : Next c l a (length l) (Some n) = subst (Next c l a (length l)) e (next_owned c l a (length l)) in
    let k : length (owned l c a (length l)) ≡ suc (length (owned l c n (length l))) = ap length h in omega arith

none_missed : (c : ℕ) (l : List Entry) (a : ℕ) → up_to (length l) (next_after l c a) ≡ None
    → owned l c a (length l) ≡ []
none_missed c l a e = subst (Next c l a (length l)) e (next_owned c l a (length l))

some_missed : (c : ℕ) (l : List Entry) (a n : ℕ) → up_to (length l) (next_after l c a) ≡ Some n
    → owned l c a (length l) ≢ []
some_missed c l a n e f =
    let h : Next c l a (length l) (Some n) = subst (Next c l a (length l)) e (next_owned c l a (length l)) in
    (let z : n ∷ owned l c n (length l) ≡ [] = sym h ∙ f in cc)

-- where none is missed, no number above is the owner's
none_above : (c : ℕ) (l : List Entry) (a n : ℕ) → a < n → is_of c (under l n) ≡ true → owned l c a (length l) ≡ [] → ⊥
none_above c l a n lt hers none = by (next_after l c a) (next-lowest l c a) (next_owned c l a (length l))
  where
    by : (r : Option ℕ) → Lowest l c a r → Next c l a (length l) (up_to (length l) r) → ⊥
    by None h x = (let z : false ≡ true = sym (h n lt) ∙ hers in cc)
    by (Some m) h x =
        let y : Next c l a (length l) (Some m) =
        subst (λ b. Next c l a (length l) (cond b (Some m) None)) (le-leb m (length l) (there_within c l m h.1)) x in
        (let z : m ∷ owned l c m (length l) ≡ [] = sym y ∙ none in cc)

above_in : (c : ℕ) (l : List Entry) (a t : ℕ) (r : Option ℕ) (n : ℕ) → Lowest l c a r → up_to t r ≡ Some n → a < n
above_in c l a t None n h e = absurd cc
above_in c l a t (Some m) n h e = by (leb m t) e
  where
    by : (b : Bool) → cond b (Some m) None ≡ Some n → a < n
    by true g = let same : m ≡ n = cc in subst (λ i. a < i) same h.0
    by false g = absurd cc

-- ---- the session after a call

session_set : (s w : State) (c : ℕ) (x : Session) → c < length s.lines → w ≡ with_session s c x → session w c ≡ x
session_set s w c x there e = ap (λ (i : State). session i c) e ∙ get_or-set_same s.lines c x fresh there

-- a channel that is logged on, and on which no download runs
none_runs : (o : LoggedOn) → is_on Recovery o ≡ true → running o ≡ None → o ≡ Recovering None
none_runs Off h e = absurd cc
none_runs Live h e = absurd cc
none_runs (Recovering d) h e = ap Recovering e

wide_too : (i j : Vec ℕ Global) → i ≡ j → nat_lt (length j.items) BUFFER ≡ false
    → nat_lt (length i.items) BUFFER ≡ false
wide_too i j e h = ap (λ (k : Vec ℕ Global). nat_lt (length k.items) BUFFER) e ∙ h

-- in no bytes nothing is heard
unheard : {X : Type 0} (h : Heard) → heard_in [] ≡ Ok h → X
unheard h e = absurd (let (f, g) = nothing_heard in let z : Ok h ≡ Err f = sym e ∙ g in cc)

module _ {M Q A : Type 0} (did : M → Asked → M → Type 0) (c : ℕ) where
  -- ---- what was left is given to the follower

  -- it makes of it what it hears, and refuses nothing
  pub record Gives (h : Message) (m e : Ends M Q A) : Type 0 where
    pub state : e.gateway.state ≡ m.gateway.state
    pub follower : e.desk.follower ≡ (recovered_step m.desk.follower (heard_in h)).after
    pub fits : is_unfit (recovered_step m.desk.follower (heard_in h)).answer ≡ false
    pub reached : Reached (made e.log) e.gateway.state e.desk
    pub clear : IsClear c (made e.log)
    -- the complete end of a download that runs makes its partition level, or leaves it overrun
    pub level : (p : Partition) → heard_in h ≡ Ok (End ending.Complete) → is_up m.desk.follower ≡ true
        → download_of m.desk.follower ≡ stage.Running p
        → state_of e.desk p ≡ completed_state (state_of m.desk p) (place e.desk p)

  pub gives : (h : Message) (z : Done) (m e : Ends M Q A) → IsGiven h z → Adds did z m e
      → Reached (made m.log) m.gateway.state m.desk → Left c h (made m.log) → Gives h m e
  gives h (done.Recovered v r) m e is a reached l =
      let (same, answer, after) = a.moves.does in
      let on = reached_on did (done.Recovered v r) m e a reached in
      let (x, ok, began, none) = given_back did c h (done.Recovered v r) m e is a l in
      let log = ap made a.log ∙ made_push m.log (done.Recovered v r) in
      let fits : is_unfit r ≡ false = fits_at c (made m.log) (done.Recovered v r) e.gateway.state e.desk x
      (subst (λ xs. Reached xs e.gateway.state e.desk) log on) (sym (ap (λ xs. after_log c xs quiet) log) ∙ ok) in
      record {
        state = same;
        follower = ap (λ (d : Desk). d.follower) after
            ∙ ap (λ i. (recovered_step m.desk.follower (heard_in i)).after) is;
        fits = subst (λ i. is_unfit (recovered_step m.desk.follower (heard_in i)).answer ≡ false) is
            (sym (ap is_unfit answer) ∙ fits);
        reached = on;
        clear = (x, ok, began, none);
        level = λ p complete up runs.
            downloads_level c reached.0 reached.1 (made m.log) m.gateway.state m.desk (done.Recovered v r)
            e.gateway.state e.desk p reached.2 (x, sym (ap (λ xs. after_log c xs quiet) log) ∙ ok) (same, answer, after)
            (ap heard_in is ∙ complete) up runs;
      }
  gives h (done.Venue v) m e is a reached l = absurd is
  gives h done.Up m e is a reached l = absurd is
  gives h done.Lost m e is a reached l = absurd is
  gives h (done.Live v r) m e is a reached l = absurd is
  gives h (done.Ask n r) m e is a reached l = absurd is

  -- what is missed hangs on the store and the place alone
  pub missed_same : (p : Partition) (b e : Ends M Q A) → e.gateway.state.venue.kept ≡ b.gateway.state.venue.kept
      → place e.desk p ≡ place b.desk p
      → missed c e.gateway.state e.desk p ≡ missed c b.gateway.state b.desk p
  missed_same p b e k h =
      ap (λ (i : Kept). owned (at i p) c (place e.desk p) (length (at i p))) k
      ∙ ap (λ n. owned (at b.gateway.state.venue.kept p) c n (length (at b.gateway.state.venue.kept p))) h

  -- ---- a desk that can ask

  -- asking moves neither the gateway nor a partition
  pub record Unmoved (b e : Ends M Q A) : Type 0 where
    pub state : e.gateway.state ≡ b.gateway.state
    pub sides : e.desk.follower.sides ≡ b.desk.follower.sides

  pub waits : (p : Partition) (buf : Vec ℕ Global) (h : Message) (b e : Ends M Q A) → Ready c b
      → nat_lt (length buf.items) BUFFER ≡ false → Passes did (call.Ask (partition_code p) buf) h b e
      → Waiting c p h e × Unmoved b e
  waits p buf h b e ready wide x =
      let (r, is, before) = asked_is (partition_code p) buf x.made x.is in
      let adds : Adds did (done.Ask (partition_code p) r) b e = subst (λ i. Adds did i b e) is x.adds in
      let f = b.desk.follower in
      let room : nat_lt (length r.before.items) BUFFER ≡ false = wide_too r.before buf before wide in
      let ok : asking f b.desk.token (partition_code p) (length r.before.items) ≡ Ok p =
      asking_is f b.desk.token p (length r.before.items) ready.asks.up ready.asks.idle
      (tied_at (made b.log) b.gateway.state b.desk ready.reached ∙ ap awaited ready.asks.idle) room in
      let asked_as = λ (o : Result Partition FollowerFault). asks_of f b.desk.token r.before.items o in
      let (same, ans, out, moves) = adds.moves.does in
      let answer : r.answer ≡ Ok (total_of Request) = ans ∙ ap (λ o. (asked_as o).answer) ok in
      let wrote : r.after.items ≡ request p (place b.desk p) ++ drop (total_of Request) r.before.items =
      out ∙ ap (λ o. (asked_as o).out) ok in
      let follower : e.desk.follower ≡ record f { line = connected.Up (stage.Asked p) } =
      ap (λ (d : Desk). d.follower) moves ∙ ap (λ o. (asked_as o).after) ok in
      let sides = ap (λ (i : Following). i.sides) follower in
      let here : place e.desk p ≡ place b.desk p = ap (λ (i : PerPartition Side). (at i p).place) sides in
      let back : ReadBack p (place b.desk p) = subst (λ o. IfOk o (λ i. ReadBack i (at f.sides i).place)) ok adds.moves.told in
      let bytes : h ≡ request p (place b.desk p) =
      x.left ∙ (ap left_by is ∙ (ap (λ i. written i r.after.items) answer
      ∙ (ap (take (total_of Request)) wrote ∙ asked_bytes p (place b.desk p) r.before.items back))) in
      let none : download (session b.gateway.state c) ≡ None = (still_at c (made b.log) b.gateway.state b.desk
      ready.asks.line.0 ready.reached ready.asks.line.1 ready.asks.line.2 ready.asks.up ready.asks.idle).3 in (
        record {
          reached = reached_on did (done.Ask (partition_code p) r) b e adds ready.reached;
          line = by h bytes back
              (subst (λ i. ((i ≡ []) × IsOpen c (made e.log)) ⊎ IsAsked c i (made e.log)) (sym (x.left ∙ ap left_by is))
              (ask_left did c (partition_code p) r b e adds ready.reached ready.asks.line));
          up = ap is_up follower;
          asks = ap download_of follower;
          on = ap (λ (i : State). (session i c).on) same
              ∙ none_runs (session b.gateway.state c).on ready.asks.on none;
          request = bytes ∙ ap (request p) (sym here);
          back = subst (ReadBack p) (sym here) back;
        },
        record { state = same; sides = sides },
      )
    where
      by : (h : Message) → h ≡ request p (place b.desk p) → ReadBack p (place b.desk p)
          → ((h ≡ []) × IsOpen c (made e.log)) ⊎ IsAsked c h (made e.log) → IsAsked c h (made e.log)
      by h is back (inl (n, o)) = absurd (request_some p (place b.desk p) back (sym is ∙ n))
      by h is back (inr a) = a

  -- ---- the request is granted, and the follower told

  granted_begins : (p : Partition) (h m : Message) (b mid e : Ends M Q A) (w : Waiting c p m b)
      → mid.gateway.state ≡ with_session b.gateway.state c (granted_session b.gateway.state c p (place b.desk p))
      → mid.desk ≡ b.desk → heard_in h ≡ Ok (Ack Successful) → Gives h mid e → Loading c p 0 b e
  granted_begins p h m b mid e w set same hd g =
      let f = b.desk.follower in
      let there = recovering_there b.gateway.state c None w.on in
      let now : e.gateway.state
      ≡ with_session b.gateway.state c (granted_session b.gateway.state c p (place b.desk p)) = g.state ∙ set in
      let sess : session e.gateway.state c ≡ granted_session b.gateway.state c p (place b.desk p) =
      session_set b.gateway.state e.gateway.state c _ there now in
      let kept : e.gateway.state.venue.kept ≡ b.gateway.state.venue.kept = ap (λ (i : State). i.venue.kept) now in
      let step : e.desk.follower ≡ record f { line = connected.Up (stage.Running p) } =
      g.follower ∙ (ap (λ (d : Desk). (recovered_step d.follower (heard_in h)).after) same
      ∙ (ap (λ i. (recovered_step f i).after) hd ∙ ap (λ (a : Step Recovered). a.after) (granted_step f w.up p w.asks))) in
      let sides = ap (λ (i : Following). i.sides) step in
      let here : place e.desk p ≡ place b.desk p = ap (λ (i : PerPartition Side). (at i p).place) sides in
      let len = ap (λ k. length (at k p)) kept in
      record {
        reached = g.reached;
        line = g.clear;
        up = ap is_up step;
        runs = ap download_of step;
        stays = record {
          kept = kept;
          others = λ q n. ap (λ i. at i q) sides;
          granted = ap (λ (i : Session). i.used) sess;
        };
        on = ap (λ (i : Session). i.on) sess
            ∙ (ap (λ n. Recovering (Some (begun p n (length (at b.gateway.state.venue.kept p))))) (sym here)
            ∙ ap (λ n. Recovering (Some (begun p (place e.desk p) n))) (sym len));
        state = ap (λ (i : PerPartition Side). (at i p).state) sides;
        left = (let k : length (missed c e.gateway.state e.desk p) ≡ length (missed c b.gateway.state b.desk p) =
            ap length (missed_same p b e kept here) in omega arith);
        few = omega arith;
      }

  -- a call of the gateway that was passed, as it was made
  pub record Passed (z : Done) (h : Message) (b e : Ends M Q A) : Type 0 where
    pub adds : Adds did z b e
    pub bytes : h ≡ left_by z

  pub passed : (x : Call) (z : Done) (h : Message) (b e : Ends M Q A) (y : Passes did x h b e) → y.made ≡ z → Passed z h b e
  passed x z h b e y is = record { adds = subst (λ i. Adds did i b e) is y.adds; bytes = y.left ∙ ap left_by is }

  module _ (p : Partition) (v : Vec ℕ Global) (t : Time) (buf : Vec ℕ Global) (wide : nat_lt (length buf.items) BUFFER ≡ false)
      (b : Ends M Q A) (w : Waiting c p v.items b) (some : granted c b.gateway.state < 48) where
    abbrev z : Reply → Done
    z r = done.Venue (venue.Recovery c v t r)

    granting : (r : Reply) (h : Message) (e : Ends M Q A) → r.before ≡ buf → Passed (z r) h b e
        → Grants c b.gateway.state p (place b.desk p) r e.gateway.state
    granting r h e before y = grants c b.gateway.state p (place b.desk p) v t r e.gateway.state y.adds.moves.does.0
        w.request w.back (wide_too r.before buf before wide) w.on (lt-leb REQUESTS (granted c b.gateway.state) some)

    pub loads_first : (came : Bool) (e : Ends M Q A) → Exchanges did (venue_call.Recovery c v t buf) came b e
        → (came ≡ true) × Loading c p 0 b e
    loads_first false e x =
        let (r, is, before) = recovery_is c v t buf x.made x.is in
        let y = passed (call.Venue (venue_call.Recovery c v t buf)) (z r) [] b e x is in
        let g = granting r [] e before y in
        unheard (Ack Successful) (ap heard_in (y.bytes ∙ g.bytes) ∙ ack_heard Successful)
    loads_first true e (mid, h, ne, x, i, given, a) =
        let (r, is, before) = recovery_is c v t buf x.made x.is in
        let y = passed (call.Venue (venue_call.Recovery c v t buf)) (z r) h b mid x is in
        let g = granting r h mid before y in
        let l : Left c h (made mid.log) = subst (λ j. Left c j (made mid.log)) (sym y.bytes)
        (request_left did c v t r b mid y.adds w.line) in
        let gave = gives h i mid e given a (reached_on did (z r) b mid y.adds w.reached) l in (
          refl,
          granted_begins p h v.items b mid e w g.after y.adds.moves.does.1
              (ap heard_in (y.bytes ∙ g.bytes) ∙ ack_heard Successful) gave,
        )

  -- ---- what is handed out of a download that runs

  -- what is heard in it, and what is left of the download
  record Handed (e : Ends M Q A) (bytes : Message) (w : State) (h : Heard) (o : Option Download) : Type 0 where
    pub heard : heard_in bytes ≡ Ok h
    pub after : w ≡ with_session e.gateway.state c (record (session e.gateway.state c) { on = Recovering o })

  module _ (p : Partition) (k : ℕ) (b e : Ends M Q A) (l : Loading c p k b e) where
    abbrev s : State
    s = e.gateway.state

    abbrev f : Following
    f = e.desk.follower

    abbrev reports : List Entry
    reports = at s.venue.kept p

    abbrev q : Download
    q = record { partition = p; last = place e.desk p; target = length reports; handed = k }

    abbrev next : Option ℕ
    next = up_to (length reports) (next_after reports c (place e.desk p))

    -- a report more
    record More (bytes : Message) (w : State) : Type 0 where
      pub number : ℕ
      pub report : NumberedReport
      pub hands : Handed e bytes w (Report p report) (Some (record q { last = number; handed = k + 1 }))
      pub under : number_of report ≡ number
      pub above : place e.desk p < number
      pub fewer : length (missed c s e.desk p) ≡ length (owned reports c number (length reports)) + 1
      pub room : k < 64

    abbrev Out : Message → State → Type 0
    Out bytes w =
        (Handed e bytes w (End ending.Complete) None × (missed c s e.desk p ≡ []))
        ⊎ ((Handed e bytes w (End ending.MessageLimit) None × (missed c s e.desk p ≢ []) × (64 ≤ k)) ⊎ More bytes w)

    module _ (bytes : Message) (w : State) where
      out_by : (o : Option ℕ) → next ≡ o
          → bytes ≡ recovered_bytes s.venue.kept (answered_out (handed_out q o)).0
          → w ≡ with_session s c (record (session s c) { on = Recovering (answered_out (handed_out q o)).1 })
          → RecoveredTold s.venue.kept (answered_out (handed_out q o)).0 → Out bytes w
      out_by None n i j told = inl (
        record { heard = ap heard_in i ∙ end_heard ending.Complete; after = j },
        none_missed c reports (place e.desk p) n,
      )
      out_by (Some n) is i j told = by (nat_le DOWNLOADED k) refl i j told
        where
          abbrev_of : Bool → HandedOut × Option Download
          abbrev_of full = cond full (handed.Ended ending.MessageLimit, None)
              (handed.Report p n, Some (record q { last = n; handed = k + 1 }))

          reported_out : nat_le DOWNLOADED k ≡ false → (o : Option Entry) → under reports n ≡ o → EntryTold p n o
              → bytes ≡ stored_bytes s.venue.kept p n
              → w ≡ with_session s c (record (session s c) { on = Recovering (Some (record q { last = n; handed = k + 1 })) })
              → Out bytes w
          reported_out room None u told i j = absurd (let h = (one_in c reports q (next_after reports c (place e.desk p)) n
              (next-lowest reports c (place e.desk p)) is).hers in
              true≢false (sym h ∙ ap (is_of c) u))
          reported_out room (Some x) u told i j =
              let h = one_in c reports q (next_after reports c (place e.desk p)) n
              (next-lowest reports c (place e.desk p)) is in
              inr (inr (record {
                number = n;
                report = record { sequence = pos n; told = told_of x.report };
                hands = record {
                  heard = ap heard_in (i ∙ ap (λ o. entry_bytes p n o) u) ∙ report_heard p n x.report told;
                  after = j;
                };
                under = refl;
                above = above_in c reports (place e.desk p) (length reports) (next_after reports c (place e.desk p)) n
                    (next-lowest reports c (place e.desk p)) is;
                fewer = next_missed c reports (place e.desk p) n is;
                room = leb-false DOWNLOADED k room;
              }))

          by : (full : Bool) → nat_le DOWNLOADED k ≡ full
              → bytes ≡ recovered_bytes s.venue.kept (answered_out (abbrev_of full)).0
              → w ≡ with_session s c (record (session s c) { on = Recovering (answered_out (abbrev_of full)).1 })
              → RecoveredTold s.venue.kept (answered_out (abbrev_of full)).0 → Out bytes w
          by true f i j told = inr (inl (
            record { heard = ap heard_in i ∙ end_heard ending.MessageLimit; after = j },
            some_missed c reports (place e.desk p) n is,
            leb-true DOWNLOADED k f,
          ))
          by false f i j told = reported_out f (under reports n) refl told i j

    -- ---- and given to the follower

    module _ (mid g : Ends M Q A) (bytes : Message) (h : Heard) (o : Option Download)
        (out : Handed e bytes mid.gateway.state h o) (same : mid.desk ≡ e.desk) (gave : Gives bytes mid g) where
      now : g.gateway.state ≡ with_session s c (record (session s c) { on = Recovering o })
      now = gave.state ∙ out.after

      sess : session g.gateway.state c ≡ record (session s c) { on = Recovering o }
      sess = session_set s g.gateway.state c _ (recovering_there s c (Some q) l.on) now

      kept : g.gateway.state.venue.kept ≡ s.venue.kept
      kept = ap (λ (i : State). i.venue.kept) now

      step : g.desk.follower ≡ (recovered_step f (Ok h)).after
      step = gave.follower ∙ (ap (λ (d : Desk). (recovered_step d.follower (heard_in bytes)).after) same
          ∙ ap (λ i. (recovered_step f i).after) out.heard)

      fits : is_unfit (recovered_step f (Ok h)).answer ≡ false
      fits = subst (λ i. is_unfit (recovered_step f i).answer ≡ false) out.heard
          (subst (λ (d : Desk). is_unfit (recovered_step d.follower (heard_in bytes)).answer ≡ false) same gave.fits)

      stays : ((i : Partition) → p ≢ i → at (recovered_step f (Ok h)).after.sides i ≡ at f.sides i) → Stays c p 1 b g
      stays others = record {
        kept = kept ∙ l.stays.kept;
        others = λ i n. ap (λ (j : Following). at j.sides i) step ∙ (others i n ∙ l.stays.others i n);
        granted = ap (λ (i : Session). i.used) sess ∙ l.stays.granted;
      }

      open_line : IsClear c (made g.log) → IsOpen c (made g.log)
      open_line (x, ok, began, none) = (x, ok, began)

      -- a desk that awaits nothing more can ask
      ready : o ≡ None → is_up g.desk.follower ≡ true → download_of g.desk.follower ≡ stage.Idle → Ready c g
      ready e up idle = record {
        reached = gave.reached;
        asks = record {
          line = open_line gave.clear;
          up = up;
          idle = idle;
          on = ap (λ (i : Session). is_on Recovery i.on) sess;
        };
      }

    more : (mid g : Ends M Q A) (bytes : Message) (m : More bytes mid.gateway.state) → mid.desk ≡ e.desk
        → Gives bytes mid g → Loading c p (k + 1) b g
    more mid g bytes m same gave =
        let h = Report p m.report in
        let o : Option Download = Some (record q { last = m.number; handed = k + 1 }) in
        let st = step mid g bytes h o m.hands same gave in
        let lt : place e.desk p < number_of m.report = (let u = m.under in let a = m.above in omega arith) in
        let fold = report_step f l.up p m.report l.runs lt (fits mid g bytes h o m.hands same gave) in
        let here : place g.desk p ≡ m.number = ap (λ (j : Following). (at j.sides p).place) st ∙ (fold.place ∙ m.under) in
        let k' = kept mid g bytes h o m.hands same gave in
        let len : length (at g.gateway.state.venue.kept p) ≡ length reports = ap (λ (i : Kept). length (at i p)) k' in
        let left : length (missed c g.gateway.state g.desk p) ≡ length (owned reports c m.number (length reports)) =
        ap (λ (i : Kept). length (owned (at i p) c (place g.desk p) (length (at i p)))) k'
        ∙ ap (λ n. length (owned reports c n (length reports))) here in
        record {
          reached = gave.reached;
          line = gave.clear;
          up = ap is_up st ∙ fold.stays_up;
          runs = ap download_of st ∙ fold.runs;
          stays = stays mid g bytes h o m.hands same gave fold.others;
          on = ap (λ (i : Session). i.on) (sess mid g bytes h o m.hands same gave)
              ∙ (ap (λ n. Recovering (Some (record { partition = p; last = n; target = length reports; handed = k + 1 })))
              (sym here)
              ∙ ap (λ n. Recovering (Some (record { partition = p; last = place g.desk p; target = n; handed = k + 1 })))
              (sym len));
          state = ap (λ (j : Following). (at j.sides p).state) st ∙ (fold.state ∙ l.state);
          left = (let a = l.left in let b = m.fewer in omega arith);
          few = (let a = m.room in omega arith);
        }

    limit : (mid g : Ends M Q A) (bytes : Message) → Handed e bytes mid.gateway.state (End ending.MessageLimit) None
        → missed c s e.desk p ≢ [] → 64 ≤ k → mid.desk ≡ e.desk → Gives bytes mid g → Downloaded c p b g
    limit mid g bytes out some full same gave =
        let h = End ending.MessageLimit in
        let st : g.desk.follower ≡ no_download f = step mid g bytes h None out same gave
        ∙ ap (λ (a : Step Recovered). a.after) (limit_step f l.up p l.runs) in
        let here : place g.desk p ≡ place e.desk p = ap (λ (j : Following). (at j.sides p).place) st in
        let k' = kept mid g bytes h None out same gave in
        let left : missed c g.gateway.state g.desk p ≡ missed c s e.desk p =
        ap (λ (i : Kept). owned (at i p) c (place g.desk p) (length (at i p))) k'
        ∙ ap (λ n. owned reports c n (length reports)) here in
        let size : length (missed c g.gateway.state g.desk p) ≡ length (missed c s e.desk p) = ap length left in
        record {
          ready = ready mid g bytes h None out same gave refl (ap is_up st)
              (ap download_of st);
          stays = stays mid g bytes h None out same gave
              (λ i n. ap (λ (a : Step Recovered). at a.after.sides i) (limit_step f l.up p l.runs));
          brought = inr (
            ap (λ (j : Following). (at j.sides p).state) st ∙ l.state,
            (λ z. some (sym left ∙ z)),
            (let a = l.left in let b = l.few in omega arith),
          );
        }

    -- all of the owner's came, and so all that passed
    reached_passed : (n : ℕ) → state_of e.desk p ≡ Overrun n → missed c s e.desk p ≡ [] → n ≤ place e.desk p
    reached_passed n over none = elim (cases_lt (place e.desk p) n) [
      | inr le ↦ le
      | inl lt ↦
          let hers = passed_hers c l.reached.0 l.reached.1 (made e.log) s e.desk l.line.0 p n l.reached.2 l.line.1 l.up over in
          absurd (none_above c reports (place e.desk p) n lt hers none)
    ]

    complete : (mid g : Ends M Q A) (bytes : Message) → Handed e bytes mid.gateway.state (End ending.Complete) None
        → missed c s e.desk p ≡ [] → mid.desk ≡ e.desk → Gives bytes mid g → Downloaded c p b g
    complete mid g bytes out none same gave =
        let h = End ending.Complete in
        let st = step mid g bytes h None out same gave in
        let done = complete_step f l.up p l.runs (fits mid g bytes h None out same gave) in
        let size : length (missed c s e.desk p) ≡ 0 = ap length none in
        record {
          ready = ready mid g bytes h None out same gave refl (ap is_up st ∙ done.stays_up)
              (ap download_of st ∙ done.idle);
          stays = stays mid g bytes h None out same gave done.others;
          brought = inl (
            level (state_of e.desk p) refl (gave.level p out.heard (ap (λ (d : Desk). is_up d.follower) same ∙ l.up)
                (ap (λ (d : Desk). download_of d.follower) same ∙ l.runs)
                ∙ ap (λ (d : Desk). completed_state (state_of d p) (place g.desk p)) same),
            (let a = l.left in let b = l.few in omega arith),
          );
        }
      where
        level : (z : Standing) → state_of e.desk p ≡ z → state_of g.desk p ≡ completed_state z (place g.desk p)
            → state_of g.desk p ≡ Level
        level Level is h = h
        level (Behind hs) is h = h
        level (Overrun n) is h =
            let st = step mid g bytes (End ending.Complete) None out same gave in
            let here : place g.desk p ≡ place e.desk p = ap (λ (j : Following). (at j.sides p).place) st
            ∙ unheld_place f l.up p n is l.runs in
            let le : n ≤ place g.desk p = subst (λ i. n ≤ i) (sym here) (reached_passed n is none) in
            h ∙ ap (λ b. cond b Level (Overrun n)) (le-leb n (place g.desk p) le)

    goes_on : (mid g : Ends M Q A) (bytes : Message) → Out bytes mid.gateway.state → mid.desk ≡ e.desk
        → Gives bytes mid g → Loading c p (k + 1) b g ⊎ Downloaded c p b g
    goes_on mid g bytes (inl (h, n)) same gave = inr (complete mid g bytes h n same gave)
    goes_on mid g bytes (inr (inl (h, n, full))) same gave = inr (limit mid g bytes h n full same gave)
    goes_on mid g bytes (inr (inr m)) same gave = inl (more mid g bytes m same gave)

    nothing_out : {X : Type 0} (w : State) → Out [] w → X
    nothing_out w (inl (h, n)) = unheard (End ending.Complete) h.heard
    nothing_out w (inr (inl (h, n, full))) = unheard (End ending.MessageLimit) h.heard
    nothing_out w (inr (inr m)) = unheard (Report p m.report) m.hands.heard

    module _ (buf : Vec ℕ Global) (wide : nat_lt (length buf.items) BUFFER ≡ false) where
      abbrev sends : Reply → Done
      sends r = done.Venue (venue.SendRecovered c r)

      handing : (r : Reply) (bytes : Message) (mid : Ends M Q A) → r.before ≡ buf → Passed (sends r) bytes e mid
          → Out bytes mid.gateway.state
      handing r bytes mid before y =
          let h = hands_out c s q r mid.gateway.state y.adds.moves.does.0 (wide_too r.before buf before wide) l.on in
          out_by bytes mid.gateway.state next refl (y.bytes ∙ h.bytes) h.after
          (subst (λ o. RecoveredTold s.venue.kept (recovered_of_download s.venue.kept c o).0) (ap running l.on)
          (y.adds.moves.told h.fault))

      pub loads_on : (came : Bool) (g : Ends M Q A) → Exchanges did (venue_call.SendRecovered c buf) came e g
          → (came ≡ true) × (Loading c p (k + 1) b g ⊎ Downloaded c p b g)
      loads_on false g x =
          let (r, is, before) = sending_is c buf x.made x.is in
          let y = passed (call.Venue (venue_call.SendRecovered c buf)) (sends r) [] e g x is in
          nothing_out g.gateway.state (handing r [] g before y)
      loads_on true g (mid, h, ne, x, i, given, a) =
          let (r, is, before) = sending_is c buf x.made x.is in
          let y = passed (call.Venue (venue_call.SendRecovered c buf)) (sends r) h e mid x is in
          let left : Left c h (made mid.log) = subst (λ j. Left c j (made mid.log)) (sym y.bytes)
          (sends_left did c r e mid y.adds l.line) in
          let gave = gives h i mid g given a (reached_on did (sends r) e mid y.adds l.reached) left in
          (refl, goes_on mid g h (handing r h mid before y) y.adds.moves.does.1 gave)
