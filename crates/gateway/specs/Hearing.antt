-- What a message gets, and what it leaves. Assumes nothing.
use Rattle.std.specs.Prelude.{◌≡◌, ℕ, List, [], ◌++◌, length, drop, ℤ, pos, negsuc, slice_get, slice_index_or, Some, None, Ok, Err, Option, Result, nat_lt, ◌==◌, if◌then◌else◌}
use Rattle.std.specs.Option.{option_map_or}
use Rattle.answers.specs.Bytes.{answer_bytes}
use Rattle.answers.specs.declared.answer.Answer.{Answer}
use Rattle.answers.specs.declared.answer.Answer.TheVariants.{Silent, Ack, Reject}
use Rattle.answers.specs.declared.answer.Reason.{Reason}
use Rattle.answers.specs.declared.answer.Reason.TheVariants as reason
use Rattle.wire.specs.declared.message.TheConstants.{BUFFER}
use Rattle.codes.specs.declared.session.AckResponse.{AckResponse}
use Rattle.codes.specs.declared.session.Partition.{Partition}
use Rattle.codes.specs.declared.session.Partition.TheVariants.{One, Two, Three}
use Rattle.configuration.specs.declared.participant.Participant.{Participant}
use Rattle.gateway.specs.Doing.{Comes, Outcome}
use Rattle.gateway.specs.Lines.{ends_of, logon, line_closed}
use Rattle.gateway.specs.State.{State, session, with_session}
use Rattle.gateway.specs.declared.fault.GatewayFault.{GatewayFault}
use Rattle.gateway.specs.declared.fault.GatewayFault.TheVariants as call
use Rattle.gateway.specs.declared.fault.SessionFault.{SessionFault}
use Rattle.gateway.specs.declared.fault.SessionFault.TheVariants.{NotLoggedOn, Wire}
use Rattle.layout.specs.declared.fault.Fault.{Fault}
use Rattle.layout.specs.declared.fault.Fault.TheVariants as fault
use Rattle.session_messages.specs.declared.missed_message_request.MissedMessageRequest.{MissedMessageRequest}
use Rattle.partitions.specs.PerPartition.{at}
use Rattle.texts.specs.Says.{kept}
use Rattle.requests.specs.Cancels.{cancel}
use Rattle.requests.specs.MassCancels.{mass_cancel}
use Rattle.requests.specs.NewOrders.{new_order}
use Rattle.requests.specs.Deciding.{Decision}
use Rattle.requests.specs.Replaces.{replace}
use Rattle.refusals.specs.declared.Turned.{Turned}
use Rattle.sessions.specs.Sessions.{on, requested, recovery_closed}
use Rattle.sessions.specs.declared.session.Channel.{Channel}
use Rattle.sessions.specs.declared.session.Channel.TheVariants.{RealTime, Recovery}
use Rattle.refusals.specs.declared.RequestRefusal.{RequestRefusal}
use Rattle.sessions.specs.declared.session.Session.{Session}
use Rattle.store.specs.Kept.{Kept}
use Rattle.texts.specs.declared.fixed.FixedText.{FixedText}
use Rattle.texts.specs.declared.values.Time.{Time}
use Rattle.matching.specs.Asked.{Asked}
use Rattle.venue.specs.Acts.{Act}
use Rattle.venue.specs.Books.{Over}
use Rattle.wire.specs.Kinds.{letter_of}
use Rattle.wire.specs.Messages.{kind_of, verdict, Reads}
use Rattle.wire.specs.declared.kinds.Channel.{Channel as Reader}
use Rattle.wire.specs.declared.kinds.Channel.TheVariants as reader
use Rattle.wire.specs.declared.message.Message.{Message}
use Rattle.wire.specs.declared.message.Message.TheVariants as message

abbrev pub answered : Answer × State → Outcome
answered (a, s) = record { answer = a; changed = s; acts = [] }

abbrev pub silently : State → Outcome
silently s = answered (Silent, s)

abbrev pub doing : List Act → State → Outcome
doing acts s = record { answer = Silent; changed = s; acts = acts }

-- ---- a message that is turned down

-- the Client Order ID of a request
abbrev pub client_of : Message → Option (FixedText 20)
client_of (message.NewOrder m) = Some (kept m.client_order_id.text)
client_of (message.OrderCancelRequest m) = Some (kept m.client_order_id.text)
client_of (message.OrderCancelReplaceRequest m) = Some (kept m.client_order_id.text)
client_of (message.OrderMassCancelRequest m) = Some (kept m.client_order_id.text)
client_of m = None

abbrev pub rejection : Reason → Message → Answer
rejection why m = Reject (record { reason = why; message_type = letter_of (kind_of m); client = client_of m })

-- the type of what is no message is told where it is one of the channel's
abbrev pub type_told : Fault → List ℕ → ℕ
type_told fault.Short bs = 0
type_told fault.Start bs = 0
type_told fault.Unknown bs = 0
type_told fault.Length bs = slice_index_or bs 3 0
type_told (fault.Field at) bs = slice_index_or bs 3 0

abbrev pub fault_rejection : Fault → List ℕ → Answer
fault_rejection f bs = Reject (record { reason = reason.Fault f; message_type = type_told f bs; client = None })

-- ---- a message of a line that is logged on

-- a partition by its number
abbrev pub partition_at : ℕ → Option Partition
partition_at n = if n == 1 then Some One else if n == 2 then Some Two else if n == 3 then Some Three else None

abbrev pub partition_of : ℤ → Option Partition
partition_of (pos n) = partition_at n
partition_of (negsuc n) = None

abbrev pub last_of : Kept → Option Partition → ℕ
last_of k o = option_map_or (λ p. length (at k p)) o 0

-- what the session makes of a Missed Message Request
abbrev pub missed_by : Result (Session × AckResponse) RequestRefusal → ℕ → MissedMessageRequest → State → Outcome
missed_by (Err e) line m s = answered (rejection (reason.Request e) (message.MissedMessageRequest m), s)
missed_by (Ok (x, r)) line m s = answered (Ack r, with_session s line x)

abbrev pub missed : ℕ → MissedMessageRequest → State → Outcome
missed line m s =
    let p = partition_of m.partition in
    missed_by (requested p m.last.value (last_of s.venue.kept p) (session s line)) line m s

-- only the recovery channel's reader takes one
abbrev pub missed_on : Channel → ℕ → MissedMessageRequest → State → Outcome
missed_on Recovery line m s = missed line m s
missed_on RealTime line m s = silently s

-- the answer to a request, which is turned down or done
abbrev pub answer_for : Message → Result (Unit {0}) Turned → Answer
answer_for m (Ok u) = Silent
answer_for m (Err t) = rejection (reason.Turned t) m

-- what was decided of a request
abbrev pub requested_as : Message → State → Decision → Outcome
requested_as m s (Err t) = answered (rejection (reason.Turned t) m, s)
requested_as m s (Ok acts) = doing acts s

-- a Logout; the line's marked orders expire with a real-time one
abbrev pub logout : Channel → ℕ → State → Outcome
logout RealTime line s = doing (ends_of line s) (line_closed line s)
logout Recovery line s = silently (with_session s line (recovery_closed (session s line)))

-- the firm of a line's CompID
abbrev pub firm_of : Option Participant → ℕ
firm_of o = option_map_or (λ p. p.firm) o 0

abbrev pub firm : State → ℕ → ℕ
firm s line = firm_of (slice_get s.participants line)

-- with so many spare places
abbrev pub taken : Channel → ℕ → Message → Time → ℕ → State → Outcome
taken ch line (message.NewOrder m) t spare s =
    requested_as (message.NewOrder m) s (new_order line m t s.venue spare)
taken ch line (message.OrderCancelRequest m) t spare s =
    requested_as (message.OrderCancelRequest m) s (cancel line m t s.venue spare)
taken ch line (message.OrderCancelReplaceRequest m) t spare s =
    requested_as (message.OrderCancelReplaceRequest m) s (replace line m t s.venue spare)
taken ch line (message.OrderMassCancelRequest m) t spare s =
    requested_as (message.OrderMassCancelRequest m) s
    (mass_cancel s.participants (firm s line) line m t s.venue spare)
taken ch line (message.MissedMessageRequest m) t spare s = missed_on ch line m s
taken ch line (message.Logout m) t spare s = logout ch line s
taken ch line m t spare s = silently s

-- any message: only a Logon is taken before a Logon
abbrev pub outcome_of : Channel → ℕ → Message → Time → ℕ → State → Outcome
outcome_of ch line (message.Logon m) t spare s = answered (logon ch line m s)
outcome_of ch line m t spare s =
    if on ch (session s line)
    then taken ch line m t spare s
    else answered (rejection reason.NotLoggedOn m, s)

-- what a caller inside is told, and what is done
abbrev pub Took : {M : Type 0} → (M → Asked → M → Type 0) → Time → Outcome → Over State M → Answer → Over State M
    → Type 0
Took did t o x r y = (r ≡ o.answer) × Comes did t x y o.changed o.acts

-- ---- the call

-- who reads on a channel
abbrev pub reader_of : Channel → Reader
reader_of RealTime = reader.RealTime
reader_of Recovery = reader.Recovery

-- the checks that come before any message is looked at: room for an answer, and the line
abbrev pub line_fault : ℕ → State → Option GatewayFault
line_fault line s = if nat_lt line (length s.lines) then None else Some call.NoSuchLine

abbrev pub call_fault : ℕ → ℕ → State → Option GatewayFault
call_fault room line s = if nat_lt room BUFFER then Some call.ShortBuffer else line_fault line s

-- a buffer after these bytes were written to its front
abbrev pub fronted : List ℕ → List ℕ → List ℕ
fronted bs buffer = bs ++ drop (length bs) buffer

-- a message is read; or what is given is none, and a Reject says so
abbrev pub Understands : Channel → List ℕ → List ℕ → Result Message SessionFault → List ℕ → Type 0
Understands ch bs buffer (Ok m) after = Reads (reader_of ch) bs m × (after ≡ buffer)
Understands ch bs buffer (Err NotLoggedOn) after = ⊥
Understands ch bs buffer (Err (Wire f)) after =
    (verdict (reader_of ch) bs ≡ Some f) × (after ≡ fronted (answer_bytes (fault_rejection f bs)) buffer)

-- what was given, where, with which buffer for the answer, and how many places are spare
pub record Given : Type 0 where
  pub channel : Channel
  pub line : ℕ
  pub bytes : List ℕ
  pub time : Time
  pub buffer : List ℕ
  pub spare : ℕ

-- below, `goes u acts` says that the state is u and that these acts are then done

-- the answer stands at the front of the buffer
abbrev pub Settled : (State → List Act → Type 0) → Outcome → List ℕ → Result ℕ GatewayFault → List ℕ → Type 0
Settled goes o buffer r after =
    (r ≡ Ok (length (answer_bytes o.answer))) × goes o.changed o.acts
    × (after ≡ fronted (answer_bytes o.answer) buffer)

abbrev pub Read : (State → List Act → Type 0) → Option Fault → Given → State → Result ℕ GatewayFault → List ℕ → Type 0
Read goes (Some f) g s r after =
    (r ≡ Err (call.Session (Wire f))) × goes s [] × (after ≡ fronted (answer_bytes (fault_rejection f g.bytes)) g.buffer)
Read goes None g s r after =
    (m : Message) × Reads (reader_of g.channel) g.bytes m
    × Settled goes (outcome_of g.channel g.line m g.time g.spare s) g.buffer r after

abbrev pub Checked : (State → List Act → Type 0) → Option GatewayFault → Given → State → Result ℕ GatewayFault → List ℕ
    → Type 0
Checked goes (Some e) g s r after = (r ≡ Err e) × goes s [] × (after ≡ g.buffer)
Checked goes None g s r after = Read goes (verdict (reader_of g.channel) g.bytes) g s r after

-- a message given on a channel of a line: the checks, the answer, what is done and the buffer after it
abbrev pub Hears : (State → List Act → Type 0) → Given → State → Result ℕ GatewayFault → List ℕ → Type 0
Hears goes g s r after = Checked goes (call_fault (length g.buffer) g.line s) g s r after
