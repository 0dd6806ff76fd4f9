-- What a gateway makes of a request that it grants, and of a download that runs. Assumes nothing.
use Rattle.std.specs.Prelude.{drop, take, is_some, nat_le, nat_lt, slice_index_or}
use Rattle.std.specs.Option.{option_or}
use Rattle.std.proofs.Common.{◌≡◌, ◌⊎◌, inl, inr, ℕ, ◌+◌, ◌<◌, ◌≤◌, Bool, true, false, cond, List, [], ◌∷◌, ◌++◌, Some, None, Option, Ok, Err, Result, length, pos, refl, sym, ap, ◌∙◌, subst, arith, Vec, Global}
use Rattle.std.proofs.Math.Seq.{take-append_seam}
use Rattle.std.proofs.lemmas.Bool.{cases_lt, lt-ltb}
use Rattle.std.proofs.lemmas.List.{get_or_past}
use Rattle.answers.specs.Bytes.{answer_bytes}
use Rattle.answers.specs.declared.answer.Answer.TheVariants.{Ack}
use Rattle.answers.specs.declared.answer.Reason.TheVariants as reason
use Rattle.codes.specs.Session.{partition_code}
use Rattle.codes.specs.declared.session.AckResponse.TheVariants.{Successful, LimitReached}
use Rattle.codes.specs.declared.session.Partition.{Partition}
use Rattle.codes.specs.declared.session.Partition.TheVariants.{One, Two, Three}
use Rattle.follower.specs.Asking.{request, IsRequest, ReadBack}
use Rattle.gateway.specs.Calls.{Hands, Handed, on_fault, recovered_bytes, recovery_handed, send_fault}
use Rattle.gateway.specs.Doing.{Outcome, acted}
use Rattle.gateway.specs.Hearing.{Checked, Read, Settled, answered, call_fault, fronted, last_of, line_fault, missed, missed_by, outcome_of, partition_of, rejection}
use Rattle.gateway.specs.State.{State, session, with_session}
use Rattle.gateway.specs.declared.fault.GatewayFault.{GatewayFault}
use Rattle.gateway.specs.declared.fault.GatewayFault.TheVariants.{NoSuchLine, Session as OfSession, ShortBuffer}
use Rattle.gateway.specs.declared.fault.SessionFault.TheVariants.{NotLoggedOn}
use Rattle.gateway_runs.specs.Runs.{Turns, bytes_of, giving, left}
use Rattle.gateway_runs.specs.declared.call.Done.TheVariants as done
use Rattle.gateway_runs.specs.declared.call.Reply.{Reply}
use Rattle.limits.specs.declared.TheConstants.{REQUESTS}
use Rattle.partitions.specs.PerPartition.{at}
use Rattle.session_messages.specs.declared.missed_message_request.MissedMessageRequest.{MissedMessageRequest}
use Rattle.sessions.specs.Downloads.{begun, recovered}
use Rattle.sessions.specs.Sessions.{acknowledged, download, fresh, on, requested, with_download}
use Rattle.sessions.specs.declared.download.Download.{Download}
use Rattle.sessions.specs.declared.session.Channel.TheVariants.{Recovery}
use Rattle.sessions.specs.declared.session.LoggedOn.{LoggedOn}
use Rattle.sessions.specs.declared.session.LoggedOn.TheVariants.{Off, Live, Recovering}
use Rattle.sessions.specs.declared.session.Session.{Session}
use Rattle.texts.specs.declared.values.Time.{Time}
use Rattle.venue.specs.Acts.{Act}
use Rattle.wire.specs.Messages.{Reads, verdict}
use Rattle.wire.specs.declared.kinds.Channel.TheVariants as reader
use Rattle.wire.specs.declared.message.Message.{Message}
use Rattle.wire.specs.declared.message.Message.TheVariants as message
use Rattle.wire.specs.declared.message.TheConstants.{BUFFER}

-- ---- a line whose recovery channel is logged on

pub recovering_there : (s : State) (c : ℕ) (o : Option Download) → (session s c).on ≡ Recovering o → c < length s.lines
recovering_there s c o e = by (cases_lt c (length s.lines))
  where
    by : (c < length s.lines) ⊎ (length s.lines ≤ c) → c < length s.lines
    by (inl h) = h
    by (inr h) = absurd (let z : Off ≡ Recovering o = sym (ap (λ (x : Session). x.on) (get_or_past s.lines c fresh h)) ∙ e in cc)

module _ (s : State) (c room : ℕ) (there : c < length s.lines) (wide : nat_lt room BUFFER ≡ false) where
  no_line_fault : line_fault c s ≡ None
  no_line_fault = ap (λ b. cond b None (Some NoSuchLine)) (lt-ltb c (length s.lines) there)

  no_call_fault : call_fault room c s ≡ None
  no_call_fault = ap (λ b. cond b (Some ShortBuffer) (line_fault c s)) wide ∙ no_line_fault

-- ---- a request is granted

-- the session after it
abbrev pub granted_session : State → ℕ → Partition → ℕ → Session
granted_session s c p z =
    let x = session s c in
    record x { on = Recovering (Some (begun p z (length (at s.venue.kept p)))); used = x.used + 1 }

module _ (c : ℕ) (s : State) (p : Partition) (z : ℕ) (on_is : (session s c).on ≡ Recovering None)
    (left_some : nat_le REQUESTS (session s c).used ≡ false) where
  abbrev x : Session
  x = session s c

  named : (n : _) → n ≡ pos (partition_code p) → partition_of n ≡ Some p
  named n e = ap partition_of e ∙ by p
    where
      by : (p : Partition) → partition_of (pos (partition_code p)) ≡ Some p
      by One = refl
      by Two = refl
      by Three = refl

  request_granted : requested (Some p) z (last_of s.venue.kept (Some p)) x ≡ Ok (granted_session s c p z, Successful)
  request_granted =
      ap (λ o. requested (Some p) z (length (at s.venue.kept p)) (record x { on = o })) on_is
      ∙ ap (λ b. Ok (cond b (record x { on = Recovering None }, LimitReached) (granted_session s c p z, Successful)))
      left_some

  granted_as : (i : MissedMessageRequest) → i.partition ≡ pos (partition_code p) → i.last.value ≡ z
      → missed c i s ≡ answered (Ack Successful, with_session s c (granted_session s c p z))
  granted_as i e f =
      ap (λ o. missed_by (requested o i.last.value (last_of s.venue.kept o) x) c i s) (named i.partition e)
      ∙ (ap (λ v. missed_by (requested (Some p) v (last_of s.venue.kept (Some p)) x) c i s) f
      ∙ ap (λ r. missed_by r c i s) request_granted)

  outcome_is : (m : Message) (t : Time) (spare : ℕ) → IsRequest p z m
      → outcome_of Recovery c m t spare s ≡ answered (Ack Successful, with_session s c (granted_session s c p z))
  outcome_is (message.MissedMessageRequest i) t spare (e, f) =
      ap (λ o. cond (on Recovery (record x { on = o })) (missed c i s)
      (answered (rejection reason.NotLoggedOn (message.MissedMessageRequest i), s))) on_is ∙ granted_as i e f
  outcome_is m t spare h = absurd h

-- what a granted request leaves
pub record Grants (c : ℕ) (s : State) (p : Partition) (z : ℕ) (r : Reply) (w : State) : Type 0 where
  pub bytes : bytes_of r ≡ answer_bytes (Ack Successful)
  pub after : w ≡ with_session s c (granted_session s c p z)
  pub answer : (n : ℕ) × (r.answer ≡ Ok n)

left_all : (r : Result ℕ GatewayFault) (bytes buffer out : List ℕ) → r ≡ Ok (length bytes) → out ≡ fronted bytes buffer
    → left r out ≡ bytes
left_all r bytes buffer out e f =
    ap (λ (z : Result ℕ GatewayFault). left z out) e
    ∙ (ap (λ (z : List ℕ). take (length bytes) z) f ∙ take-append_seam bytes (drop (length bytes) buffer))

pub grants : (c : ℕ) (s : State) (p : Partition) (z : ℕ) (bs : Vec ℕ Global) (t : Time) (r : Reply) (w : State)
    → Turns s (done.Recovery c bs t r) w → bs.items ≡ request p z → ReadBack p z
    → nat_lt (length r.before.items) BUFFER ≡ false → (session s c).on ≡ Recovering None
    → nat_le REQUESTS (session s c).used ≡ false → Grants c s p z r w
grants c s p z bs t r w (spare, k) is back wide on_is left_some =
    let there = recovering_there s c None on_is in
    let g = giving Recovery c bs.items t r.before.items spare in
    let read : Read Goes (verdict reader.Recovery bs.items) g s r.answer r.after.items =
    subst (λ o. Checked Goes o g s r.answer r.after.items)
    (no_call_fault s c (length r.before.items) there wide) k in
    let (m, reads, settled) = subst (λ o. Read Goes o g s r.answer r.after.items)
    (ap (verdict reader.Recovery) is ∙ back.taken) read in
    let asks : IsRequest p z m = back.read m (subst (λ b. Reads reader.Recovery b m) is reads) in
    let (answered_ok, after, out) = subst (λ o. Settled Goes o r.before.items r.answer r.after.items)
    (outcome_is c s p z on_is left_some m t spare asks) settled in
    record {
      bytes = left_all r.answer (answer_bytes (Ack Successful)) r.before.items r.after.items answered_ok out;
      after = after;
      answer = (length (answer_bytes (Ack Successful)), answered_ok);
    }
  where
    Goes : State → List Act → Type 0
    Goes u acts = w ≡ acted t acts u

-- ---- a download that runs hands out what is next

-- what it leaves
pub record HandsOut (c : ℕ) (s : State) (q : Download) (r : Reply) (w : State) : Type 0 where
  pub bytes : bytes_of r ≡ recovered_bytes s.venue.kept (recovered s.venue.kept c (Some q)).0
  pub after : w ≡ with_session s c (record (session s c) { on = Recovering (recovered s.venue.kept c (Some q)).1 })
  pub fault : send_fault Recovery (length r.before.items) c s ≡ None

pub hands_out : (c : ℕ) (s : State) (q : Download) (r : Reply) (w : State) → Turns s (done.SendRecovered c r) w
    → nat_lt (length r.before.items) BUFFER ≡ false → (session s c).on ≡ Recovering (Some q) → HandsOut c s q r w
hands_out c s q r w (spare, k) wide on_is =
    let there = recovering_there s c (Some q) on_is in
    let x = session s c in
    let is_on : on_fault Recovery c s ≡ None =
    ap (λ o. cond (on Recovery (record x { on = o })) None (Some (OfSession NotLoggedOn))) on_is in
    let fault : send_fault Recovery (length r.before.items) c s ≡ None =
    ap (λ o. option_or o (on_fault Recovery c s)) (no_call_fault s c (length r.before.items) there wide) ∙ is_on in
    let (e, g, out) = subst (λ o. Hands (λ u acts. w ≡ u) o (recovery_handed c s) s r.before.items r.answer r.after.items)
    fault k in
    record {
      bytes = left_all r.answer (recovery_handed c s).bytes r.before.items r.after.items e out
          ∙ ap (λ o. recovered_bytes s.venue.kept (recovered s.venue.kept c (download (record x { on = o }))).0) on_is;
      after = g ∙ ap (λ o. with_session s c (with_download (record x { on = o })
          (recovered s.venue.kept c (download (record x { on = o }))).1)) on_is;
      fault = fault;
    }
