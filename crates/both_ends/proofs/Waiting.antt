-- What the line allows of the calls of a download, and what it has under way behind each. Assumes nothing.
use Rattle.std.specs.Prelude.{drop, nat_lt, take, slice_index_or}
use Rattle.std.specs.List.{list_any}
use Rattle.std.specs.Str.{bytes_eq}
use Rattle.std.proofs.Common.{◌≡◌, ◌≢◌, ◌⊎◌, inl, inr, ℕ, ◌≤◌, Bool, true, false, cond, ◌&&◌, eqb, List, [], ◌∷◌, ◌++◌, Some, None, Ok, Err, Option, Result, IfOk, length, refl, sym, ap, ◌∙◌, subst, arith, Vec, Global}
use Rattle.std.proofs.Math.Seq.{take-append_seam}
use Rattle.std.proofs.lemmas.Bool.{eq-eqb, or_parts, true≢false}
use Rattle.std.proofs.lemmas.List.Sums.{fold_push}
use Rattle.std.proofs.lemmas.Slice.Eq.{bytes_eq-Decides}
use Rattle.answers.specs.Bytes.{answer_bytes, end_bytes}
use Rattle.answers.specs.declared.answer.Answer.{Answer as Told}
use Rattle.answers.specs.declared.answer.Answer.TheVariants as answer
use Rattle.codes.specs.declared.session.AckResponse.{AckResponse}
use Rattle.codes.specs.declared.session.AckResponse.TheVariants.{Successful}
use Rattle.codes.specs.declared.session.Partition.{Partition}
use Rattle.configuration.specs.declared.participant.Participant.{Participant}
use Rattle.both_ends.proofs.Agreeing.{begun, log_keeps}
use Rattle.both_ends.proofs.Follows.{up_of}
use Rattle.both_ends.proofs.Heard.{ack_heard, end_heard, logon_heard, nothing_heard, reject_heard, report_heard}
use Rattle.both_ends.proofs.Keeping.{Keeps, Channelled, Still, Taking}
use Rattle.both_ends.proofs.Marks.{Load}
use Rattle.both_ends.proofs.Passing.{made_push}
use Rattle.both_ends.specs.Agreement.{Took, place, refuses_report}
use Rattle.both_ends.proofs.Requested.{request_long}
use Rattle.both_ends.specs.Allowed.{Line, Message, after_ask, after_call, after_failure, after_log, after_recovery, answered, behind, given_recovered, given_recovery, is_failed_logon, is_no_message, left_reject, next_of, next_other, next_report, onward, quiet}
use Rattle.both_ends.specs.Asking.{Moves, made}
use Rattle.both_ends.specs.Both.{Ends}
use Rattle.both_ends.specs.Connections.{is_answer, is_heard}
use Rattle.both_ends.specs.Catching.{IsOpen}
use Rattle.both_ends.specs.Downloading.{Adds, IsAsked, IsClear, IsGiven, Reached, written}
use Rattle.both_ends.specs.Runs.{Desk, Does, Runs, Tells, fresh, moved}
use Rattle.both_ends.specs.declared.call.Asked.{Asked as AskedOf}
use Rattle.both_ends.specs.declared.call.Done.{Done}
use Rattle.both_ends.specs.declared.call.Done.TheVariants as done
use Rattle.both_ends.specs.declared.opening.Opening.{Opening}
use Rattle.both_ends.specs.declared.opening.Opening.TheVariants.{Awaited, Open, Failed}
use Rattle.follower.specs.Asking.{asking, asking_of, asks_of, is_free, partition_of, request, ReadBack}
use Rattle.follower.specs.Following.{Following, download_of, is_up}
use Rattle.follower.specs.Hearing.{heard_in}
use Rattle.follower.specs.Owing.{Tied, owed}
use Rattle.follower.specs.declared.fault.FollowerFault.{FollowerFault}
use Rattle.follower.specs.declared.fault.FollowerFault.TheVariants.{Buffer, NotUp, OutOfTurn}
use Rattle.follower.specs.declared.pending.Pending.{Pending}
use Rattle.follower.specs.declared.heard.Heard.{Heard}
use Rattle.follower.specs.declared.heard.Heard.TheVariants.{Report, Ack, End, Reject, Nothing}
use Rattle.follower.specs.declared.stage.Stage.{Stage}
use Rattle.follower.specs.declared.stage.Stage.TheVariants as stage
use Rattle.gateway.specs.Calls.{recovered_bytes}
use Rattle.gateway.specs.State.{State, session, fresh as fresh_state}
use Rattle.gateway.specs.Telling.{RecoverTold, RecoveredTold}
use Rattle.gateway.specs.declared.fault.GatewayFault.{GatewayFault}
use Rattle.gateway_runs.proofs.Effects.{RecoveryDoes, RecoverDoes, effect_recover, effect_recovery}
use Rattle.gateway_runs.specs.Runs.{Turns, bytes_of}
use Rattle.keyed.specs.Numbers.{under}
use Rattle.gateway_runs.specs.declared.call.Done.TheVariants as venue
use Rattle.gateway_runs.specs.declared.call.Reply.{Reply}
use Rattle.layout.specs.declared.fault.Fault.{Fault}
use Rattle.limits.specs.declared.TheConstants.{ORDERS}
use Rattle.matching.specs.Asked.{Asked}
use Rattle.partitions.specs.PerPartition.{at}
use Rattle.partitions.specs.declared.per_partition.PerPartition.{PerPartition}
use Rattle.reports.specs.declared.report.Entry.{Entry}
use Rattle.sessions.specs.Downloads.{recovered}
use Rattle.sessions.specs.Sessions.{download}
use Rattle.sessions.specs.declared.download.HandedOut.{HandedOut}
use Rattle.sessions.specs.declared.download.HandedOut.TheVariants as handed
use Rattle.sessions.specs.declared.session.Session.{Session}
use Rattle.store.specs.Kept.{Kept}
use Rattle.store.specs.Messages.{EntryTold, entry_bytes}
use Rattle.texts.specs.declared.values.Time.{Time}
use Rattle.wire.specs.Kinds.{letter_of, total_of}
use Rattle.wire.specs.declared.kinds.Kind.TheVariants as kind
use Rattle.wire.specs.declared.kinds.Kind.TheVariants.{MissedMessageRequest as Request}
use Rattle.wire.specs.declared.message.TheConstants.{BUFFER}
use Rattle.venue.specs.Books.{Books, Over, Sound}

-- ---- a call more of a log

-- one call, seen from what both ends show
pub record Calls (s : State) (d : Desk) (z : Done) (w : State) (e : Desk) : Type 0 where
  pub does : Does s d z w e
  pub told : Tells s d z
  pub sound : Sound w.venue
  pub few : length w.venue.rows ≤ ORDERS
  pub tied : Tied e.token e.follower

-- the token stays tied to the follower
tied_after : (s : State) (d : Desk) (xs : List Done) (w : State) (e : Desk) → Runs s d xs w e → Tied d.token d.follower
    → Tied e.token e.follower
tied_after s d [] w e (a, b) t = subst (λ (i : Desk). Tied i.token i.follower) (sym b) t
tied_after s d (x ∷ xs) w e (u, f, h, k, l, m, n, r) t = tied_after u f xs w e r n

pub tied_at : (xs : List Done) (s : State) (d : Desk) → Reached xs s d → Tied d.token d.follower
tied_at xs s d (ps, v, r) = tied_after (fresh_state ps v) fresh xs s d r refl

pub runs_both : (s : State) (d : Desk) (xs : List Done) (u : State) (f : Desk) (ys : List Done) (w : State) (e : Desk)
    → Runs s d xs u f → Runs u f ys w e → Runs s d (xs ++ ys) w e
runs_both s d [] u f ys w e (a, b) h =
    subst (λ (i : State). Runs i d ys w e) a (subst (λ (j : Desk). Runs u j ys w e) b h)
runs_both s d (x ∷ xs) u f ys w e (i, j, h, k, l, m, n, r) g = (i, j, h, k, l, m, n, runs_both i j xs u f ys w e r g)

runs_more : (s : State) (d : Desk) (xs : List Done) (u : State) (f : Desk) (z : Done) (w : State) (e : Desk)
    → Runs s d xs u f → Calls u f z w e → Runs s d (xs ++ z ∷ []) w e
runs_more s d xs u f z w e r h =
    runs_both s d xs u f (z ∷ []) w e r (w, e, h.does, h.told, h.sound, h.few, h.tied, (refl, refl))

-- the line goes on
line_more : (c : ℕ) (xs : List Done) (z : Done) (x y : Line) → after_log c xs quiet ≡ Ok x → after_call c z x ≡ Ok y
    → after_log c (xs ++ z ∷ []) quiet ≡ Ok y
line_more c xs z x y h g = fold_push (onward c) (Ok quiet) xs z ∙ (ap (λ r. onward c r z) h ∙ g)

module _ {M Q A : Type 0} (did : M → Asked → M → Type 0) where
  abbrev pub seen : (z : Done) (b e : Ends M Q A) → Adds did z b e
      → Calls b.gateway.state b.desk z e.gateway.state e.desk
  seen z b e a = record {
    does = a.moves.does;
    told = a.moves.told;
    sound = a.moves.sound;
    few = a.moves.few;
    tied = a.moves.tied;
  }

  pub reached_on : (z : Done) (b e : Ends M Q A) → Adds did z b e → Reached (made b.log) b.gateway.state b.desk
      → Reached (made e.log) e.gateway.state e.desk
  reached_on z b e a (ps, v, r) = (
    ps,
    v,
    subst (λ xs. Runs (fresh_state ps v) fresh xs e.gateway.state e.desk) (sym (ap made a.log ∙ made_push b.log z))
        (runs_more (fresh_state ps v) fresh (made b.log) b.gateway.state b.desk z e.gateway.state e.desk r
        (seen z b e a)),
  )

  pub line_on : (c : ℕ) (z : Done) (b e : Ends M Q A) (x y : Line) → Adds did z b e
      → after_log c (made b.log) quiet ≡ Ok x → after_call c z x ≡ Ok y → after_log c (made e.log) quiet ≡ Ok y
  line_on c z b e x y a h g =
      ap (λ xs. after_log c xs quiet) (ap made a.log ∙ made_push b.log z) ∙ line_more c (made b.log) z x y h g

-- ---- what both ends keep

abbrev pub taken_by : List Done → Taking
taken_by xs p n = ⊥ ⊎ Took p n xs

pub keeps_at : (c : ℕ) (xs : List Done) (s : State) (d : Desk) (x : Line) → Reached xs s d → after_log c xs quiet ≡ Ok x
    → Keeps c s d x (taken_by xs)
keeps_at c xs s d x (ps, v, r) h =
    (log_keeps c xs (fresh_state ps v) fresh quiet (λ p n. ⊥) s d x (begun c ps v) r h).1

-- the fold refused nothing in the last call
last_fits : (xs : List Done) (z : Done) → list_any refuses_report (xs ++ z ∷ []) ≡ false → refuses_report z ≡ false
last_fits [] z h = (or_parts (refuses_report z) false h).0
last_fits (x ∷ xs) z h =
    last_fits xs z (or_parts (refuses_report x) (list_any refuses_report (xs ++ z ∷ [])) h).1

pub fits_at : (c : ℕ) (xs : List Done) (z : Done) (s : State) (d : Desk) (x : Line) → Reached (xs ++ z ∷ []) s d
    → after_log c (xs ++ z ∷ []) quiet ≡ Ok x → refuses_report z ≡ false
fits_at c xs z s d x (ps, v, r) h = last_fits xs z
    (log_keeps c (xs ++ z ∷ []) (fresh_state ps v) fresh quiet (λ p n. ⊥) s d x (begun c ps v) r h).0

-- where nothing is asked nothing is under way on the recovery channel, and no download runs
pub still_at : (c : ℕ) (xs : List Done) (s : State) (d : Desk) (x : Line) → Reached xs s d → after_log c xs quiet ≡ Ok x
    → x.opening ≢ Failed → is_up d.follower ≡ true → download_of d.follower ≡ stage.Idle
    → Still (download (session s c)) x
still_at c xs s d x r h began up idle =
    let k = keeps_at c xs s d x r h in
    let (i, u) = up_of c s.venue.kept (session s c) d.follower x (taken_by xs) x.connection (k.up ∙ up) k.phase in
    by x.opening u.ds refl (subst (λ g. Channelled x.opening g u.ds (download (session s c)) x) idle u.staged)
  where
    by : (o : Opening) (ds : PerPartition Load) → x.opening ≡ o
        → Channelled o stage.Idle ds (download (session s c)) x → Still (download (session s c)) x
    by Awaited ds e (n, u, st) = st
    by Open ds e st = st
    by Failed ds e st = absurd (began e)

-- ---- messages under way

pub front : (m : Message) (ms : List Message) → next_of m (m ∷ ms) ≡ Some ms
front m ms = ap (λ b. cond b (Some ms) None) ((bytes_eq-Decides m m).1 refl)

same_line : (c : ℕ) → eqb c c ≡ true
same_line c = eq-eqb c c refl

-- what a call left on the recovery channel: under way, if the follower hears anything in it
pub record Left (c : ℕ) (h : Message) (xs : List Done) : Type 0 where
  pub line : Line
  pub allowed : after_log c xs quiet ≡ Ok line
  pub began : line.opening ≢ Failed
  pub way : ((is_heard (heard_in h) ≡ true) × (line.recovered ≡ h ∷ []))
      ⊎ ((is_heard (heard_in h) ≡ false) × (line.recovered ≡ []))

pub left_open : (c : ℕ) (h : Message) (xs : List Done) → Left c h xs → IsOpen c xs
left_open c h xs l = (l.line, l.allowed, l.began)

pub clear_open : (c : ℕ) (xs : List Done) → IsClear c xs → IsOpen c xs
clear_open c xs (x, a, b, r) = (x, a, b)

-- in no bytes it hears nothing
none_heard : is_heard (heard_in []) ≡ false
none_heard = let (f, e) = nothing_heard in ap is_heard e

pub left_none : (c : ℕ) (xs : List Done) → Left c [] xs → IsClear c xs
left_none c xs l = by l.way
  where
    by : ((is_heard (heard_in []) ≡ true) × (l.line.recovered ≡ [] ∷ []))
        ⊎ ((is_heard (heard_in []) ≡ false) × (l.line.recovered ≡ [])) → IsClear c xs
    by (inl (h, e)) = absurd (true≢false (sym h ∙ none_heard))
    by (inr (h, e)) = (l.line, l.allowed, l.began, e)

-- the line behind a message that comes
record Behind (m : Message) (h : Result Heard Fault) (x : Line) : Type 0 where
  pub line : Line
  pub goes : given_recovered m h x ≡ Ok line
  pub opening : line.opening ≡ x.opening
  pub recovered : line.recovered ≡ []

-- it is the one under way
next_comes : (m : Message) (h : Result Heard Fault) (x : Line) → x.recovered ≡ m ∷ [] → is_heard h ≡ true → Behind m h x
next_comes m h x e = by h
  where
    next : next_of m x.recovered ≡ Some []
    next = ap (next_of m) e ∙ front m []

    by : (h : Result Heard Fault) → is_heard h ≡ true → Behind m h x
    by (Ok (Report p n)) t = record {
      line = record x { recovered = []; again = m ∷ x.again };
      goes = ap (λ o. next_report m o x) next;
      opening = refl;
      recovered = refl;
    }
    by (Ok (Ack r)) t = record {
      line = record x { recovered = []; again = [] };
      goes = ap (λ o. next_other o x) next;
      opening = refl;
      recovered = refl;
    }
    by (Ok (End r)) t = record {
      line = record x { recovered = []; again = [] };
      goes = ap (λ o. next_other o x) next;
      opening = refl;
      recovered = refl;
    }
    by (Ok Reject) t = record {
      line = record x { recovered = []; again = [] };
      goes = ap (λ o. next_other o x) next;
      opening = refl;
      recovered = refl;
    }
    by (Ok Nothing) t = absurd cc
    by (Err f) t = absurd cc

-- or nothing is heard in it
nothing_comes : (m : Message) (h : Result Heard Fault) (x : Line) → x.recovered ≡ [] → is_heard h ≡ false → Behind m h x
nothing_comes m (Ok (Report p n)) x e t = absurd cc
nothing_comes m (Ok (Ack r)) x e t = absurd cc
nothing_comes m (Ok (End r)) x e t = absurd cc
nothing_comes m (Ok Reject) x e t = absurd cc
nothing_comes m (Ok Nothing) x e t = record { line = x; goes = refl; opening = refl; recovered = e }
nothing_comes m (Err f) x e t = record { line = x; goes = refl; opening = refl; recovered = e }

behind_left : (c : ℕ) (h : Message) (xs : List Done) (l : Left c h xs) → Behind h (heard_in h) l.line
behind_left c h xs l = by l.way
  where
    by : ((is_heard (heard_in h) ≡ true) × (l.line.recovered ≡ h ∷ []))
        ⊎ ((is_heard (heard_in h) ≡ false) × (l.line.recovered ≡ [])) → Behind h (heard_in h) l.line
    by (inl (t, e)) = next_comes h (heard_in h) l.line e t
    by (inr (t, e)) = nothing_comes h (heard_in h) l.line e t

module _ {M Q A : Type 0} (did : M → Asked → M → Type 0) (c : ℕ) where
  -- what was left is given to the follower
  pub given_back : (h : Message) (z : Done) (b e : Ends M Q A) → IsGiven h z → Adds did z b e → Left c h (made b.log)
      → IsClear c (made e.log)
  given_back h (done.Recovered v r) b e is a l =
      let g = behind_left c h (made b.log) l in (
        g.line,
        line_on did c (done.Recovered v r) b e l.line g.line a l.allowed
            (ap (λ i. given_recovered i (heard_in i) l.line) is ∙ g.goes),
        (λ f. l.began (sym g.opening ∙ f)),
        g.recovered,
      )
  given_back h (done.Venue v) b e is a l = absurd is
  given_back h done.Up b e is a l = absurd is
  given_back h done.Lost b e is a l = absurd is
  given_back h (done.Live m r) b e is a l = absurd is
  given_back h (done.Ask n r) b e is a l = absurd is

-- ---- a call for the next of a download

-- what is handed out is heard, if it is anything
out_heard : (k : Kept) (o : Option HandedOut) → RecoveredTold k o
    → (recovered_bytes k o ≡ []) ⊎ (is_heard (heard_in (recovered_bytes k o)) ≡ true)
out_heard k None t = inl refl
out_heard k (Some (handed.Ended r)) t = inr (ap is_heard (end_heard r))
out_heard k (Some (handed.Report p n)) t = by (under (at k p) n) t
  where
    by : (i : Option Entry) → EntryTold p n i
        → (entry_bytes p n i ≡ []) ⊎ (is_heard (heard_in (entry_bytes p n i)) ≡ true)
    by None t = inl refl
    by (Some i) t = inr (ap is_heard (report_heard p n i.report t))

-- what is behind a message under way, where it is heard
behind_one : (m : Message) → is_heard (heard_in m) ≡ true → behind [] m ≡ m ∷ []
behind_one [] h = absurd (true≢false (sym h ∙ none_heard))
behind_one (b ∷ bs) h = refl

sent_way : (x : Line) (bytes : Message) → x.recovered ≡ []
    → (bytes ≡ []) ⊎ (is_heard (heard_in bytes) ≡ true)
    → ((is_heard (heard_in bytes) ≡ true) × (behind x.recovered bytes ≡ bytes ∷ []))
    ⊎ ((is_heard (heard_in bytes) ≡ false) × (behind x.recovered bytes ≡ []))
sent_way x bytes e (inl n) = inr (ap (λ b. is_heard (heard_in b)) n ∙ none_heard, ap (behind x.recovered) n ∙ e)
sent_way x bytes e (inr h) = inl (h, ap (λ r. behind r bytes) e ∙ behind_one bytes h)

recovers_heard : (c : ℕ) (s : State) (r : Reply) (w : State) → Turns s (venue.SendRecovered c r) w
    → RecoverTold (length r.before.items) c s → (bytes_of r ≡ []) ⊎ (is_heard (heard_in (bytes_of r)) ≡ true)
recovers_heard c s r w h told = by (effect_recover c s r w h)
  where
    by : RecoverDoes s c (length r.before.items) (bytes_of r) (session w c)
        → (bytes_of r ≡ []) ⊎ (is_heard (heard_in (bytes_of r)) ≡ true)
    by (inl (e, k)) = inl e
    by (inr (e, a, b, fault)) = subst (λ i. (i ≡ []) ⊎ (is_heard (heard_in i) ≡ true)) (sym e)
        (out_heard s.venue.kept (recovered s.venue.kept c (download (session s c))).0 (told fault))

module _ {M Q A : Type 0} (did : M → Asked → M → Type 0) (c : ℕ) where
  pub sends_left : (r : Reply) (b e : Ends M Q A) → Adds did (done.Venue (venue.SendRecovered c r)) b e
      → IsClear c (made b.log) → Left c (bytes_of r) (made e.log)
  sends_left r b e a (x, ok, began, none) =
      let y = record x { recovered = behind x.recovered (bytes_of r) } in
      record {
        line = y;
        allowed = line_on did c (done.Venue (venue.SendRecovered c r)) b e x y a ok
            (ap (λ i. Ok (cond i y x)) (same_line c));
        began = began;
        way = sent_way x (bytes_of r) none
            (recovers_heard c b.gateway.state r e.gateway.state a.moves.does.0 a.moves.told);
      }

-- ---- a request given to the gateway

not_logon : (p : Partition) (n : ℕ) → eqb (slice_index_or (request p n) 3 0) (letter_of kind.Logon) ≡ false
unfolding request
not_logon p n = refl

no_failure : (r : Result ℕ GatewayFault) (p : Partition) (n : ℕ) → is_failed_logon r (request p n) ≡ false
no_failure r p n = ap (λ b. is_no_message r && b) (not_logon p n) ∙ by (is_no_message r)
  where
    by : (b : Bool) → (b && false) ≡ false
    by true = refl
    by false = refl

-- what a gateway answers on its recovery channel is an answer to a request, or nothing
abbrev IsReply : Result Heard Fault → Type 0
IsReply h = (is_heard h ≡ false) ⊎ (is_answer h ≡ true)

reply_heard : (a : Told) → IsReply (heard_in (answer_bytes a))
reply_heard answer.Silent = inl none_heard
reply_heard (answer.LogonReply z) =
    elim (logon_heard z) [ inl e ↦ inl (ap is_heard e) | inr (f, e) ↦ inl (ap is_heard e) ]
reply_heard (answer.Ack r) = inr (ap is_answer (ack_heard r))
reply_heard (answer.Reject r) =
    elim (reject_heard r) [ inl e ↦ inr (ap is_answer e) | inr (f, e) ↦ inl (ap is_heard e) ]

recovery_heard : (k : Kept) (m bytes : Message) (x y : Session) → RecoveryDoes k m bytes x y → IsReply (heard_in bytes)
recovery_heard k m bytes x y (inl (i, q, reads, is, e, o, es, ed)) =
    subst (λ b. IsReply (heard_in b)) (sym e) (reply_heard (answer.Ack Successful))
recovery_heard k m bytes x y (inr (a, e, n, h)) = subst (λ b. IsReply (heard_in b)) (sym e) (reply_heard a)

-- the line behind a request that is answered, or not
record Replied (bytes m : Message) (h : Result Heard Fault) (x : Line) : Type 0 where
  pub line : Line
  pub goes : after_recovery h bytes m x ≡ Ok line
  pub opening : line.opening ≡ x.opening
  pub way : ((is_heard h ≡ true) × (line.recovered ≡ bytes ∷ [])) ⊎ ((is_heard h ≡ false) × (line.recovered ≡ []))

replied : (bytes m : Message) (h : Result Heard Fault) (x : Line) → x.asked ≡ m ∷ [] → x.recovered ≡ [] → IsReply h
    → Replied bytes m h x
replied bytes m h x k r = by h
  where
    next : next_of m x.asked ≡ Some []
    next = ap (next_of m) k ∙ front m []

    then_line : Line
    then_line = record x { asked = []; recovered = x.recovered ++ bytes ∷ [] }

    by : (h : Result Heard Fault) → IsReply h → Replied bytes m h x
    by (Ok (Report p n)) (inl e) = absurd cc
    by (Ok (Report p n)) (inr e) = absurd cc
    by (Ok (End i)) (inl e) = absurd cc
    by (Ok (End i)) (inr e) = absurd cc
    by (Ok Nothing) t = record { line = x; goes = refl; opening = refl; way = inr (refl, r) }
    by (Err f) t = record { line = x; goes = refl; opening = refl; way = inr (refl, r) }
    by (Ok (Ack i)) t = record {
      line = then_line;
      goes = ap (λ o. answered bytes o x) next;
      opening = refl;
      way = inl (refl, ap (λ l. l ++ bytes ∷ []) r);
    }
    by (Ok Reject) t = record {
      line = then_line;
      goes = ap (λ o. answered bytes o x) next;
      opening = refl;
      way = inl (refl, ap (λ l. l ++ bytes ∷ []) r);
    }

-- by how the channel began
record Opens (bytes m : Message) (r : Reply) (x : Line) : Type 0 where
  pub line : Line
  pub goes : given_recovery x.opening m r x ≡ Ok line
  pub began : line.opening ≢ Failed
  pub way : ((is_heard (heard_in bytes) ≡ true) × (line.recovered ≡ bytes ∷ []))
      ⊎ ((is_heard (heard_in bytes) ≡ false) × (line.recovered ≡ []))

opens : (m : Message) (r : Reply) (x : Line) (o : Opening) → x.opening ≡ o → is_failed_logon r.answer m ≡ false
    → x.opening ≢ Failed → x.asked ≡ m ∷ [] → x.recovered ≡ [] → IsReply (heard_in (bytes_of r))
    → Opens (bytes_of r) m r x
opens m r x Awaited i fine began k e h =
    let y = replied (bytes_of r) m (heard_in (bytes_of r)) (record x { opening = Open }) k e h in
    record {
      line = y.line;
      goes = ap (λ o. given_recovery o m r x) i
          ∙ (ap (λ b. cond b (Ok (after_failure (left_reject r) x))
          (after_recovery (heard_in (bytes_of r)) (bytes_of r) m (record x { opening = Open }))) fine ∙ y.goes);
      began = λ f. (let z : Open ≡ Failed = sym y.opening ∙ f in cc);
      way = y.way;
    }
opens m r x Open i fine began k e h =
    let y = replied (bytes_of r) m (heard_in (bytes_of r)) x k e h in
    record {
      line = y.line;
      goes = ap (λ o. given_recovery o m r x) i ∙ y.goes;
      began = λ f. began (sym y.opening ∙ f);
      way = y.way;
    }
opens m r x Failed i fine began k e h = absurd (began i)

module _ {M Q A : Type 0} (did : M → Asked → M → Type 0) (c : ℕ) where
  pub request_left : (v : Vec ℕ Global) (t : Time) (r : Reply) (b e : Ends M Q A)
      → Adds did (done.Venue (venue.Recovery c v t r)) b e → IsAsked c v.items (made b.log)
      → Left c (bytes_of r) (made e.log)
  request_left v t r b e a l =
      let no : is_failed_logon r.answer v.items ≡ false =
      ap (is_failed_logon r.answer) l.request ∙ no_failure r.answer l.partition l.from in
      let does = effect_recovery c b.gateway.state v t r e.gateway.state a.moves.does.0 in
      let o = opens v.items r l.line l.line.opening refl no l.began l.asked l.recovered
      (recovery_heard b.gateway.state.venue.kept v.items (bytes_of r) (session b.gateway.state c)
      (session e.gateway.state c) does) in
      record {
        line = o.line;
        allowed = line_on did c (done.Venue (venue.Recovery c v t r)) b e l.line o.line a l.allowed
            (ap (λ i. cond i (given_recovery l.line.opening v.items r l.line) (Ok l.line)) (same_line c) ∙ o.goes);
        began = o.began;
        way = o.way;
      }

-- ---- asking

-- a request is asked only of a follower that is up and awaits nothing
pub record Free (f : Following) : Type 0 where
  pub up : is_up f ≡ true
  pub idle : download_of f ≡ stage.Idle

pub asking_free : (f : Following) (t : Pending) (n room : ℕ) (p : Partition) → asking f t n room ≡ Ok p → Free f
asking_free f t n room p e = by (nat_lt room BUFFER) e
  where
    idle_of : (g : Stage) (o : Option Partition) → is_free g o ≡ true → g ≡ stage.Idle
    idle_of stage.Idle o h = refl
    idle_of (stage.Asked q) o h = absurd cc
    idle_of (stage.Running q) o h = absurd cc

    by_free : (b : Bool) (q : Partition) → is_free (download_of f) (owed t) ≡ b → cond b (Ok q) (Err OutOfTurn) ≡ Ok p
        → download_of f ≡ stage.Idle
    by_free true q h z = idle_of (download_of f) (owed t) h
    by_free false q h z = absurd cc

    by_partition : (o : Option Partition) → asking_of f t o ≡ Ok p → download_of f ≡ stage.Idle
    by_partition None z = absurd cc
    by_partition (Some q) z = by_free (is_free (download_of f) (owed t)) q refl z

    by_up : (u : Bool) → is_up f ≡ u → cond u (asking_of f t (partition_of n)) (Err NotUp) ≡ Ok p → Free f
    by_up true q z = record { up = q; idle = by_partition (partition_of n) z }
    by_up false q z = absurd cc

    by : (b : Bool) → cond b (Err Buffer) (cond (is_up f) (asking_of f t (partition_of n)) (Err NotUp)) ≡ Ok p → Free f
    by true z = absurd cc
    by false z = by_up (is_up f) refl z

-- what was asked stands at the front of the buffer
pub asked_bytes : (p : Partition) (n : ℕ) (buffer : List ℕ) → ReadBack p n
    → take (total_of Request) (request p n ++ drop (total_of Request) buffer) ≡ request p n
asked_bytes p n buffer back =
    ap (λ i. take i (request p n ++ drop (total_of Request) buffer)) (sym (request_long p n back))
    ∙ take-append_seam (request p n) (drop (total_of Request) buffer)

module _ {M Q A : Type 0} (did : M → Asked → M → Type 0) (c : ℕ) where
  pub ask_left : (n : ℕ) (r : AskedOf) (b e : Ends M Q A) → Adds did (done.Ask n r) b e
      → Reached (made b.log) b.gateway.state b.desk → IsOpen c (made b.log)
      → ((written r.answer r.after.items ≡ []) × IsOpen c (made e.log))
      ⊎ IsAsked c (written r.answer r.after.items) (made e.log)
  ask_left n r b e a reached (x, ok, began) =
      let (w, ans, out, d) = a.moves.does in
      by (asking f b.desk.token n (length r.before.items)) refl ans out d a.moves.told
    where
      f : Following
      f = b.desk.follower

      Ends_as : Result ℕ FollowerFault → List ℕ → Type 0
      Ends_as i out = ((written i out ≡ []) × IsOpen c (made e.log)) ⊎ IsAsked c (written i out) (made e.log)

      by : (o : Result Partition FollowerFault) → asking f b.desk.token n (length r.before.items) ≡ o
          → r.answer ≡ (asks_of f b.desk.token r.before.items o).answer
          → r.after.items ≡ (asks_of f b.desk.token r.before.items o).out
          → e.desk ≡ moved b.desk (asks_of f b.desk.token r.before.items o).after
          → IfOk o (λ p. ReadBack p (at f.sides p).place) → Ends_as r.answer r.after.items
      by (Err i) q ans out d back =
          subst (λ j. Ends_as j r.after.items) (sym ans) (inl (
            refl,
            (x, line_on did c (done.Ask n r) b e x x a ok (ap (λ j. Ok (after_ask j r.after.items x)) ans), began),
          ))
      by (Ok p) q ans out d back =
          let fr = asking_free f b.desk.token n (length r.before.items) p q in
          let st = still_at c (made b.log) b.gateway.state b.desk x reached ok began fr.up fr.idle in
          let m = request p (at f.sides p).place in
          let is : take (total_of Request) r.after.items ≡ m =
          ap (λ j. take (total_of Request) j) out ∙ asked_bytes p (at f.sides p).place r.before.items back in
          let y = record x { asked = x.asked ++ take (total_of Request) r.after.items ∷ [] } in
          subst (λ j. Ends_as j r.after.items) (sym ans) (inr (record {
            partition = p;
            from = (at f.sides p).place;
            request = is;
            line = y;
            allowed = line_on did c (done.Ask n r) b e x y a ok (ap (λ j. Ok (after_ask j r.after.items x)) ans);
            began = began;
            recovered = st.1;
            asked = ap (λ l. l ++ take (total_of Request) r.after.items ∷ []) st.0;
          }))
