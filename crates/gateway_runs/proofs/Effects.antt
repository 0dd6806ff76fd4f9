-- What a call makes of the session of one line. Assumes nothing.
use Rattle.std.proofs.Common.{Vec, Global}
use Rattle.std.specs.Prelude.{◌≢◌, drop, take, is_some, slice_get, slice_index_or, nat_le}
use Rattle.std.proofs.Common.{◌≡◌, ◌⊎◌, inl, inr, ℕ, ◌+◌, ◌<◌, Bool, true, false, cond, List, [], Some, None, Option, Ok, Err, Result, length, refl, sym, ap, ◌∙◌, subst, arith}
use Rattle.std.proofs.Math.Seq.{take-append_seam}
use Rattle.std.proofs.lemmas.List.{get_or-set_same}
use Rattle.answers.specs.Bytes.{answer_bytes}
use Rattle.answers.specs.declared.answer.Answer.{Answer}
use Rattle.answers.specs.declared.answer.Admission.TheVariants as admission
use Rattle.answers.specs.declared.answer.Answer.TheVariants.{Silent, LogonReply, Ack}
use Rattle.answers.specs.declared.answer.Reason.{Reason}
use Rattle.answers.specs.declared.answer.Reason.TheVariants as reason
use Rattle.codes.specs.declared.session.AckResponse.{AckResponse}
use Rattle.codes.specs.declared.session.AckResponse.TheVariants.{Successful, LimitReached, InvalidAppId}
use Rattle.codes.specs.declared.session.Partition.{Partition}
use Rattle.gateway.specs.Calls.{Hands, Handed, Loses, send_fault, live_handed, recovery_handed, recovered_bytes, sent_bytes}
use Rattle.gateway.specs.Doing.{Outcome, acted}
use Rattle.gateway.specs.Hearing.{Settled, Read, Checked, Hears, answered, call_fault, fronted, outcome_of, last_of, line_fault, logout, missed, missed_by, missed_on, partition_of, reader_of, rejection, requested_as, silently}
use Rattle.gateway.specs.Lines.{admitted, admits, logon}
use Rattle.gateway.specs.State.{State, session, with_session, lasts}
use Rattle.gateway.specs.declared.fault.GatewayFault.{GatewayFault}
use Rattle.layout.specs.Writing.{encode, field_bytes}
use Rattle.layout.specs.declared.fault.Fault.{Fault}
use Rattle.limits.specs.declared.TheConstants.{REQUESTS}
use Rattle.gateway_runs.proofs.Walking.{call_there, first_none, line_there}
use Rattle.gateway_runs.proofs.Lines.{lines_apart}
use Rattle.gateway_runs.specs.Laws.{line_of}
use Rattle.gateway_runs.specs.Runs.{Turns, bytes_of, giving, left}
use Rattle.gateway_runs.specs.declared.call.Done.{Done}
use Rattle.gateway_runs.specs.declared.call.Done.TheVariants as done
use Rattle.gateway_runs.specs.declared.call.Reply.{Reply}
use Rattle.session_messages.specs.declared.logon.Logon.{Logon}
use Rattle.session_messages.specs.declared.missed_message_request.MissedMessageRequest.{MissedMessageRequest}
use Rattle.partitions.specs.PerPartition.{at}
use Rattle.requests.specs.Deciding.{Decision}
use Rattle.sessions.specs.Downloads.{begun, recovered}
use Rattle.sessions.specs.Sending.{next_to_send, sent_after}
use Rattle.sessions.specs.Sessions.{acknowledged, closed, download, fresh, logged_on_from, on, recovery_closed, running, with_download, with_running, with_sent, without_recovery}
use Rattle.sessions.specs.declared.download.Download.{Download}
use Rattle.sessions.specs.declared.session.Channel.{Channel}
use Rattle.sessions.specs.declared.session.Channel.TheVariants.{RealTime, Recovery}
use Rattle.refusals.specs.declared.LogonRefusal.TheVariants.{AlreadyOn, BadCredentials, RecoveryBeforeRealTime}
use Rattle.refusals.specs.declared.RequestRefusal.TheVariants.{DownloadRuns}
use Rattle.sessions.specs.declared.session.LoggedOn.{LoggedOn}
use Rattle.sessions.specs.declared.session.LoggedOn.TheVariants.{Off, Live, Recovering}
use Rattle.sessions.specs.declared.session.Session.{Session}
use Rattle.store.specs.Kept.{Kept}
use Rattle.texts.specs.declared.values.Time.{Time}
use Rattle.venue.specs.Acts.{Act}
use Rattle.wire.specs.Messages.{Reads, verdict}
use Rattle.wire.specs.declared.kinds.Channel.TheVariants as reader
use Rattle.wire.specs.declared.message.Message.{Message}
use Rattle.wire.specs.declared.message.Message.TheVariants as message

-- ---- what a call can make of a session: x is the one before, y the one after

-- how far was sent stays, and the download
abbrev pub Stays : Session → Session → Type 0
Stays x y = (y.sent ≡ x.sent) × (download y ≡ download x)

-- how far was sent stays, and no download runs
abbrev pub Closes : Session → Session → Type 0
Closes x y = (y.sent ≡ x.sent) × (download y ≡ None)

-- what is reported from now on is sent, and no download runs
abbrev pub Opens : Kept → Session → Type 0
Opens k y = (y.sent ≡ lasts k) × (download y ≡ None)

-- the answer to a Logon that is accepted
abbrev pub accepted_bytes : List ℕ
accepted_bytes = answer_bytes (LogonReply admission.Accepted)

-- a real-time message: a Logon was accepted, and the answer says so; or none was, and the answer is another
abbrev pub RealTimeDoes : Kept → List ℕ → Session → Session → Type 0
RealTimeDoes k bytes x y =
    ((bytes ≡ accepted_bytes) × Opens k y) ⊎ ((bytes ≢ accepted_bytes) × (Stays x y ⊎ Closes x y))

-- whether an answer grants a request
abbrev pub Grants : Answer → Bool
Grants (Ack Successful) = true
Grants a = false

-- a request was read and granted, and its download begins
abbrev pub Granted : Kept → List ℕ → List ℕ → Session → Session → Type 0
Granted k bs bytes x y =
    (m : MissedMessageRequest)
    × (p : Partition)
    × Reads reader.Recovery bs (message.MissedMessageRequest m)
    × (partition_of m.partition ≡ Some p)
    × (bytes ≡ answer_bytes (Ack Successful))
    × (download x ≡ None)
    × (y.sent ≡ x.sent)
    × (download y ≡ Some (begun p m.last.value (length (at k p))))

-- a recovery message: a request was granted; or none was, and what is answered grants none
abbrev pub RecoveryDoes : Kept → List ℕ → List ℕ → Session → Session → Type 0
RecoveryDoes k bs bytes x y =
    Granted k bs bytes x y
    ⊎ ((a : Answer) × (bytes ≡ answer_bytes a) × (Grants a ≡ false) × (Stays x y ⊎ Closes x y))

-- a call for the line's next report: refused; or its bytes, and how far was sent moves on
abbrev pub SendDoes : State → ℕ → ℕ → List ℕ → Session → Type 0
SendDoes s c room bytes y =
    let k = s.venue.kept in
    let x = session s c in
    ((bytes ≡ []) × Stays x y)
    ⊎ ((bytes ≡ sent_bytes k (next_to_send k c x.sent))
    × (y.sent ≡ sent_after k c x.sent)
    × (download y ≡ download x)
    × (send_fault RealTime room c s ≡ None))

-- a call for the next of the line's download, in the same way
abbrev pub RecoverDoes : State → ℕ → ℕ → List ℕ → Session → Type 0
RecoverDoes s c room bytes y =
    let k = s.venue.kept in
    let x = session s c in
    let next = recovered k c (download x) in
    ((bytes ≡ []) × Stays x y)
    ⊎ ((bytes ≡ recovered_bytes k next.0)
    × (y.sent ≡ x.sent)
    × (download y ≡ next.1)
    × (send_fault Recovery room c s ≡ None))

-- ---- what a call left, and the session after it

left_err : (r : Result ℕ GatewayFault) (f : GatewayFault) (out : List ℕ) → r ≡ Err f → left r out ≡ []
left_err r f out e = ap (λ (z : Result ℕ GatewayFault). left z out) e

left_ok : (r : Result ℕ GatewayFault) (bytes buffer out : List ℕ) → r ≡ Ok (length bytes) → out ≡ fronted bytes buffer
    → left r out ≡ bytes
left_ok r bytes buffer out e f =
    ap (λ (z : Result ℕ GatewayFault). left z out) e ∙ ap
    (λ (z : List ℕ). take (length bytes) z) f ∙ take-append_seam bytes (drop (length bytes) buffer)

-- of a line that there is, the session is the one that was set
set_here : (line : ℕ) (s : State) (x : Session) → line < length s.lines → session (with_session s line x) line ≡ x
set_here line s x there = get_or-set_same s.lines line x fresh there

-- the session after a request that is granted
abbrev begins : Kept → Partition → MissedMessageRequest → Session → Session
begins k p m x =
    record x { on = Recovering (Some (begun p m.last.value (length (at k p)))); used = x.used + 1 }

-- without the recovery channel no download runs
ended : (o : LoggedOn) → running (without_recovery o) ≡ None
ended Off = refl
ended Live = refl
ended (Recovering d) = refl

-- what is left of a download is the one that then runs
left_running : (k : Kept) (c : ℕ) (o : LoggedOn) → running (with_running o (recovered k c (running o)).1)
    ≡ (recovered k c (running o)).1
left_running k c Off = refl
left_running k c Live = refl
left_running k c (Recovering d) = refl

-- what holds of what a call left and of the session after it
module _ (line : ℕ) (P : List ℕ → Session → Type 0) where
  abbrev Makes : Outcome → Type 0
  Makes o = P (answer_bytes o.answer) (session o.changed line)

  -- what is done on the venue changes no session
  made : (t : Time) (acts : List Act) (bytes : List ℕ) (u w : State) (r : Result ℕ GatewayFault) (out : List ℕ)
      → left r out ≡ bytes → w ≡ acted t acts u → P bytes (session u line) → P (left r out) (session w line)
  made t acts bytes u w r out e f h =
      subst (λ (z : List ℕ). P z (session w line)) (sym e) (subst (λ (z : State). P bytes (session z line)) (sym f) h)

  kept : (bytes : List ℕ) (u w : State) (r : Result ℕ GatewayFault) (out : List ℕ)
      → left r out ≡ bytes → w ≡ u → P bytes (session u line) → P (left r out) (session w line)
  kept bytes u w r out e f h =
      subst (λ (z : List ℕ). P z (session w line)) (sym e) (subst (λ (z : State). P bytes (session z line)) (sym f) h)

  placed : (s : State) (bytes : List ℕ) (x : Session) → line < length s.lines → P bytes x
      → P bytes (session (with_session s line x) line)
  placed s bytes x there h = subst (P bytes) (sym (set_here line s x there)) h

  settled_makes : (t : Time) (o : Outcome) (buffer : List ℕ) (r : Result ℕ GatewayFault) (w : State) (out : List ℕ)
      → Makes o → Settled (λ u acts. w ≡ acted t acts u) o buffer r out → P (left r out) (session w line)
  settled_makes t o buffer r w out h (e, f, g) =
      made t o.acts (answer_bytes o.answer) o.changed w r out (left_ok r (answer_bytes o.answer) buffer out e g) f h

-- it holds of each thing that a message can come to, on a line that there is
record Holds (line : ℕ) (P : List ℕ → Session → Type 0) (ch : Channel) (bs : List ℕ) (s : State) : Type 0 where
  rejects : (why : Reason) (m : Message) → P (answer_bytes (rejection why m)) (session s line)
  opens : (m : Logon) → Makes line P (answered (logon ch line m s))
  asks : (m : MissedMessageRequest) → Reads (reader_of ch) bs (message.MissedMessageRequest m) → on ch (session s line)
      ≡ true → Makes line P (missed_on ch line m s)
  closes : Makes line P (logout ch line s)

module _ (line : ℕ) (P : List ℕ → Session → Type 0) (ch : Channel) (bs : List ℕ) (s : State)
    (same : P [] (session s line)) where
  module _ (h : Holds line P ch bs s) where
    asked_makes : (m : Message) (o : Decision) → Makes line P (requested_as m s o)
    asked_makes m (Err t) = h.rejects (reason.Turned t) m
    asked_makes m (Ok acts) = same

    where_on : (m : Message) (b : Bool) (o : Outcome) → on ch (session s line) ≡ b
        → (on ch (session s line) ≡ true → Makes line P o)
        → Makes line P (cond b o (answered (rejection reason.NotLoggedOn m, s)))
    where_on m true o e f = f e
    where_on m false o e f = h.rejects reason.NotLoggedOn m

    silence : (m : Message) → Makes line P (cond (on ch (session s line)) (silently s)
        (answered (rejection reason.NotLoggedOn m, s)))
    silence m = where_on m (on ch (session s line)) (silently s) refl (λ e. same)

    asked : (m : Message) (o : Decision) → Makes line P
        (cond (on ch (session s line)) (requested_as m s o) (answered (rejection reason.NotLoggedOn m, s)))
    asked m o = where_on m (on ch (session s line)) (requested_as m s o) refl (λ e. asked_makes m o)

    outcome_makes : (m : Message) (t : Time) (spare : ℕ) → Reads (reader_of ch) bs m
        → Makes line P (outcome_of ch line m t spare s)
    outcome_makes (message.Logon m) t spare reads = h.opens m
    outcome_makes (message.NewOrder m) t spare reads = asked (message.NewOrder m) _
    outcome_makes (message.OrderCancelRequest m) t spare reads = asked (message.OrderCancelRequest m) _
    outcome_makes (message.OrderCancelReplaceRequest m) t spare reads = asked (message.OrderCancelReplaceRequest m) _
    outcome_makes (message.OrderMassCancelRequest m) t spare reads = asked (message.OrderMassCancelRequest m) _
    outcome_makes (message.MissedMessageRequest m) t spare reads =
        where_on (message.MissedMessageRequest m) (on ch (session s line)) _ refl (λ e. h.asks m reads e)
    outcome_makes (message.Logout m) t spare reads =
        where_on (message.Logout m) (on ch (session s line)) _ refl (λ e. h.closes)
    outcome_makes m t spare reads = silence m

  -- a call that takes a message
  module _ (t : Time) (buffer : List ℕ) (spare : ℕ) (r : Result ℕ GatewayFault) (w : State) (out : List ℕ)
      (ready : line < length s.lines → Holds line P ch bs s) where
    abbrev Ends : State → List Act → Type 0
    Ends u acts = w ≡ acted t acts u

    read_makes : (o : Option Fault) → line < length s.lines → Read Ends o (giving ch line bs t buffer spare) s r out
        → P (left r out) (session w line)
    read_makes (Some f) there (e, g, k) = kept line P [] s w r out (left_err r _ out e) g same
    read_makes None there (m, reads, k) =
        settled_makes line P t (outcome_of ch line m t spare s) buffer r w out
        (outcome_makes (ready there) m t spare reads) k

    checked_makes : (o : Option GatewayFault) → call_fault (length buffer) line s ≡ o
        → Checked Ends o (giving ch line bs t buffer spare) s r out → P (left r out) (session w line)
    checked_makes (Some f) n (e, g, k) = kept line P [] s w r out (left_err r f out e) g same
    checked_makes None n k = read_makes (verdict (reader_of ch) bs) (call_there (length buffer) line s n) k

    hears_makes : Hears Ends (giving ch line bs t buffer spare) s r out → P (left r out) (session w line)
    hears_makes k = checked_makes (call_fault (length buffer) line s) refl k

  -- a call that hands something out
  hands_makes : (o : Option GatewayFault) (h : Handed) (buffer : List ℕ) (r : Result ℕ GatewayFault) (w : State)
      (out : List ℕ) → (o ≡ None → P h.bytes (session h.after line)) → Hands (λ u acts. w ≡ u) o h s buffer r out
      → P (left r out) (session w line)
  hands_makes (Some f) h buffer r w out after (e, g, k) = kept line P [] s w r out (left_err r f out e) g same
  hands_makes None h buffer r w out after (e, g, k) =
      kept line P h.bytes h.after w r out (left_ok r h.bytes buffer out e k) g (after refl)

-- what a Missed Message Request comes to, on a line that there is
module _ (line : ℕ) (P : List ℕ → Session → Type 0) (s : State) (m : MissedMessageRequest)
    (there : line < length s.lines)
    (turned : P (answer_bytes (rejection (reason.Request DownloadRuns) (message.MissedMessageRequest m)))
    (session s line))
    (refused : (a : AckResponse) → Grants (Ack a) ≡ false → P (answer_bytes (Ack a)) (session s line))
    (granted : (p : Partition) → partition_of m.partition ≡ Some p → download (session s line) ≡ None
    → P (answer_bytes (Ack Successful)) (begins s.venue.kept p m (session s line))) where
  counted_makes : (p : Partition) (b : Bool) → partition_of m.partition ≡ Some p → download (session s line) ≡ None
      → Makes line P (missed_by (Ok (cond b (session s line, LimitReached)
      (begins s.venue.kept p m (session s line), Successful))) line m s)
  counted_makes p true e f = placed line P s _ (session s line) there (refused LimitReached refl)
  counted_makes p false e f = placed line P s _ _ there (granted p e f)

  named_makes : (p : Option Partition) → partition_of m.partition ≡ p → download (session s line) ≡ None
      → Makes line P (missed_by (Ok (acknowledged p m.last.value (last_of s.venue.kept p) (session s line))) line m s)
  named_makes None e f = placed line P s _ (session s line) there (refused InvalidAppId refl)
  named_makes (Some p) e f = counted_makes p (nat_le REQUESTS (session s line).used) e f

  idle_makes : (d : Option Download) → download (session s line) ≡ d
      → Makes line P (missed_by (cond (is_some d) (Err DownloadRuns)
      (Ok (acknowledged (partition_of m.partition) m.last.value (last_of s.venue.kept (partition_of m.partition))
      (session s line)))) line m s)
  idle_makes (Some d) e = turned
  idle_makes None e = named_makes (partition_of m.partition) refl e

  missed_makes : Makes line P (missed line m s)
  missed_makes = idle_makes (download (session s line)) refl

-- ---- replies that are not an accepted Logon's

apart : (i : ℕ) (bytes : List ℕ) → slice_index_or bytes i 0 ≢ slice_index_or accepted_bytes i 0 → bytes ≢ accepted_bytes
apart i bytes ne e = ne (ap (λ (l : List ℕ). slice_index_or l i 0) e)

nothing_apart : [] ≢ accepted_bytes
nothing_apart = apart 3 [] (λ e. let z : ◌≡◌ {A = ℕ} 0 66 = e in omega arith)

reject_apart : (why : Reason) (m : Message) → answer_bytes (rejection why m) ≢ accepted_bytes
reject_apart why m = apart 3 (answer_bytes (rejection why m)) (λ e. let z : ◌≡◌ {A = ℕ} 51 66 = e in omega arith)

again_apart : answer_bytes (LogonReply (admission.Refused AlreadyOn)) ≢ accepted_bytes
unfolding encode field_bytes
again_apart =
    apart 4 (answer_bytes (LogonReply (admission.Refused AlreadyOn)))
    (λ e. let z : ◌≡◌ {A = ℕ} 12 0 = e in omega arith)

unknown_apart : answer_bytes (LogonReply (admission.Refused BadCredentials)) ≢ accepted_bytes
unfolding encode field_bytes
unknown_apart =
    apart 4 (answer_bytes (LogonReply (admission.Refused BadCredentials)))
    (λ e. let z : ◌≡◌ {A = ℕ} 11 0 = e in omega arith)

-- ---- a real-time message

module _ (line : ℕ) (s : State) where
  abbrev Tells : List ℕ → Session → Type 0
  Tells bytes y = RealTimeDoes s.venue.kept bytes (session s line) y

  -- only a line that is off is logged on, so no download runs then
  real_opens : line < length s.lines → (known : Bool) (o : LoggedOn)
      → Makes line Tells (answered (admitted known line s
      (logged_on_from RealTime o (lasts s.venue.kept) (session s line))))
  real_opens there true Off = placed line Tells s accepted_bytes _ there (inl (refl, (refl, refl)))
  real_opens there false Off = inr (unknown_apart, inl (refl, refl))
  real_opens there known Live = inr (again_apart, inl (refl, refl))
  real_opens there known (Recovering d) = inr (again_apart, inl (refl, refl))

  real_holds : (bs : List ℕ) → line < length s.lines → Holds line Tells RealTime bs s
  real_holds bs there = record {
    rejects = λ why m. inr (reject_apart why m, inl (refl, refl));
    opens = λ m. real_opens there (admits (slice_get s.participants line) m) (session s line).on;
    asks = λ m reads e. inr (nothing_apart, inl (refl, refl));
    closes = placed line Tells s [] (closed (session s line)) there (inr (nothing_apart, inr (refl, refl)));
  }

pub effect_realtime : (c : ℕ) (s : State) (bs : Vec ℕ Global) (t : Time) (r : Reply) (w : State)
    → Turns s (done.RealTime c bs t r) w
    → RealTimeDoes s.venue.kept (bytes_of r) (session s c) (session w c)
effect_realtime c s bs t r w (spare, k) =
    hears_makes c (Tells c s) RealTime bs.items s
    (inr (nothing_apart, inl (refl, refl))) t r.before.items spare r.answer w r.after.items (real_holds c s bs.items) k

-- ---- a recovery message

module _ (line : ℕ) (bs : List ℕ) (s : State) where
  abbrev Replies : List ℕ → Session → Type 0
  Replies bytes y = RecoveryDoes s.venue.kept bs bytes (session s line) y

  stays_by : (a : Answer) → Grants a ≡ false → Replies (answer_bytes a) (session s line)
  stays_by a e = inr (a, refl, e, inl (refl, refl))

  recovery_opens : line < length s.lines → (known : Bool) (o : LoggedOn) → (session s line).on ≡ o
      → Makes line Replies (answered (admitted known line s
      (logged_on_from Recovery o (lasts s.venue.kept) (session s line))))
  recovery_opens there known Off e = stays_by (LogonReply (admission.Refused RecoveryBeforeRealTime)) refl
  recovery_opens there true Live e = placed line Replies s _ _ there
      (inr (LogonReply admission.Accepted, refl, refl, inl (refl, sym (ap running e))))
  recovery_opens there false Live e = stays_by (LogonReply (admission.Refused BadCredentials)) refl
  recovery_opens there known (Recovering d) e = stays_by (LogonReply (admission.Refused AlreadyOn)) refl

  recovery_holds : line < length s.lines → Holds line Replies Recovery bs s
  recovery_holds there = record {
    rejects = λ why m. stays_by (rejection why m) refl;
    opens = λ m. recovery_opens there (admits (slice_get s.participants line) m) (session s line).on refl;
    asks = λ m reads e.
        missed_makes line Replies s m there
        (stays_by (rejection (reason.Request DownloadRuns) (message.MissedMessageRequest m)) refl)
        (λ a g. stays_by (Ack a) g)
        (λ p named none. inl (m, p, reads, named, refl, none, refl, refl));
    closes = placed line Replies s [] (recovery_closed (session s line)) there
        (inr (Silent, refl, refl, inr (refl, ended (session s line).on)));
  }

pub effect_recovery : (c : ℕ) (s : State) (bs : Vec ℕ Global) (t : Time) (r : Reply) (w : State)
    → Turns s (done.Recovery c bs t r) w
    → RecoveryDoes s.venue.kept bs.items (bytes_of r) (session s c) (session w c)
effect_recovery c s bs t r w (spare, k) =
    hears_makes c (Replies c bs.items s) Recovery bs.items s (stays_by c bs.items s Silent refl) t r.before.items spare r.answer w r.after.items
    (recovery_holds c bs.items s) k

-- ---- a lost line, and what is handed out

closing : (Q : Session → Type 0) (line : ℕ) (s : State) (t : Time) (r : Result (Unit {0}) GatewayFault) (w : State)
    → Q (session s line) → Q (closed (session s line)) → Loses (λ u acts. w ≡ acted t acts u) line s r
    → Q (session w line)
closing Q line s t (Ok u) w same shut (x, e) =
    let there = line_there line s (first_none (line_fault line s) _ x) in
    subst (λ (z : State). Q (session z line)) (sym e)
    (subst Q (sym (set_here line s (closed (session s line)) there)) shut)
closing Q line s t (Err f) w same shut (x, e) = subst (λ (z : State). Q (session z line)) (sym e) same

pub effect_lost : (c : ℕ) (s : State) (t : Time) (r : Result (Unit {0}) GatewayFault) (w : State)
    → Turns s (done.LineLost c t r) w
    → Stays (session s c) (session w c) ⊎ Closes (session s c) (session w c)
effect_lost c s t r w (spare, k) =
    closing (λ y. Stays (session s c) y ⊎ Closes (session s c) y) c s t r w (inl (refl, refl)) (inr (refl, refl)) k

sends_there : (ch : Channel) (line room : ℕ) (s : State) → send_fault ch room line s ≡ None → line < length s.lines
sends_there ch line room s e = call_there room line s (first_none (call_fault room line s) _ e)

pub effect_send : (c : ℕ) (s : State) (r : Reply) (w : State) → Turns s (done.Send c r) w
    → SendDoes s c (length r.before.items) (bytes_of r) (session w c)
effect_send c s r w (spare, k) =
    let x = session s c in
    let marked = with_sent x (sent_after s.venue.kept c x.sent) in
    hands_makes c (SendDoes s c (length r.before.items)) RealTime [] s (inl (refl, (refl, refl)))
    (send_fault RealTime (length r.before.items) c s) (live_handed c s) r.before.items r.answer w r.after.items
    (λ e. placed c (SendDoes s c (length r.before.items)) s _ marked (sends_there RealTime c (length r.before.items) s e) (inr (refl, refl, refl, e))) k

pub effect_recover : (c : ℕ) (s : State) (r : Reply) (w : State) → Turns s (done.SendRecovered c r) w
    → RecoverDoes s c (length r.before.items) (bytes_of r) (session w c)
effect_recover c s r w (spare, k) =
    let x = session s c in
    let rest = with_download x (recovered s.venue.kept c (download x)).1 in
    hands_makes c (RecoverDoes s c (length r.before.items)) Recovery [] s (inl (refl, (refl, refl)))
    (send_fault Recovery (length r.before.items) c s) (recovery_handed c s) r.before.items r.answer w r.after.items
    (λ e. placed c (RecoverDoes s c (length r.before.items)) s _ rest (sends_there Recovery c (length r.before.items) s e)
    (inr (refl, refl, left_running s.venue.kept c x.on, e))) k

pub effect_other : (c : ℕ) (s : State) (d : Done) (w : State) → Turns s d w → line_of d ≢ Some c → session w c
    ≡ session s c
effect_other c s d w k ne = lines_apart s d w c k ne
