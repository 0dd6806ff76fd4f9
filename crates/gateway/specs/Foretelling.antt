-- What a preview says is what the same request then does. Assumes nothing.
use Rattle.std.specs.Option.{option_map_or}
use Rattle.std.specs.Prelude.{◌≡◌, ◌≢◌, ℕ, ◌≤◌, Bool, false, ◌&&◌, not, List, [], ◌∷◌, length, Some, None, Ok, Err, Option, Result}
use Rattle.answers.specs.Bytes.{answer_bytes}
use Rattle.answers.specs.declared.answer.Reason.TheVariants as reason
use Rattle.answers.specs.declared.answer.Reason.{Reason}
use Rattle.codes.specs.declared.session.Partition.{Partition}
use Rattle.gateway.specs.Counting.{going_in}
use Rattle.gateway.specs.Doing.{acted}
use Rattle.gateway.specs.Hearing.{Hears, fronted, rejection}
use Rattle.gateway.specs.Previews.{request_verdict}
use Rattle.gateway.specs.State.{State}
use Rattle.gateway.specs.declared.fault.GatewayFault.TheVariants.{Session}
use Rattle.gateway.specs.declared.fault.GatewayFault.{GatewayFault}
use Rattle.gateway.specs.declared.fault.SessionFault.TheVariants.{NotLoggedOn}
use Rattle.gateway.specs.declared.preview.Going.{Going}
use Rattle.gateway.specs.declared.preview.PreviewFault.TheVariants.{Call, Turned, Refused}
use Rattle.gateway.specs.declared.preview.PreviewFault.{PreviewFault}
use Rattle.keyed.specs.Numbers.{under}
use Rattle.layout.specs.declared.fault.Fault.TheVariants as fault
use Rattle.orders.specs.Rows.{is_open}
use Rattle.orders.specs.declared.row.Row.{Row}
use Rattle.partitions.specs.PerPartition.{at, for_each}
use Rattle.partitions.specs.declared.per_partition.PerPartition.{PerPartition}
use Rattle.reports.specs.declared.report.MassAnswer.TheVariants.{Accepted, Rejected}
use Rattle.reports.specs.declared.report.MassAnswer.{MassAnswer}
use Rattle.reports.specs.declared.report.Report.TheVariants.{MassCancel}
use Rattle.reports.specs.declared.report.Report.{Report}
use Rattle.sessions.specs.declared.session.Channel.TheVariants.{RealTime}
use Rattle.texts.specs.declared.values.Time.{Time}
use Rattle.venue.specs.Acts.{Act, Note}
use Rattle.wire.specs.declared.message.Message.{Message}
use Rattle.wire.specs.declared.message.TheConstants.{BUFFER}

-- what a report of a mass cancel says, if it is one, and what is told first in acts
abbrev pub mass_answer : Report → Option MassAnswer
mass_answer (MassCancel r) = Some r.answer
mass_answer r = None

abbrev pub answer_in : List Act → Option MassAnswer
answer_in (Note p e ∷ acts) = mass_answer e.report
answer_in acts = None

-- an order that is open, and is not open among the rows afterwards
abbrev pub is_gone : List Row → Row → Bool
is_gone after r = is_open r && not (option_map_or is_open (under after r.number) false)

-- what a call on a line's real-time channel did: its answer, the buffer after it, what it made of the sessions, and the
-- acts that were then done
pub record Did : Type 0 where
  pub answer : Result ℕ GatewayFault
  pub reply : List ℕ
  pub changed : State
  pub acts : List Act

-- nothing was done
pub record Nothing (s : State) (d : Did) : Type 0 where
  pub changed : d.changed ≡ s
  pub acts : d.acts ≡ []

-- the caller was refused
pub record RefusedCaller (f : GatewayFault) (s : State) (d : Did) : Type 0 where
  pub answer : d.answer ≡ Err f
  pub nothing : Nothing s d

-- the message was answered with a Reject for this reason
pub record RejectedFor (why : Reason) (buffer : List ℕ) (s : State) (d : Did) : Type 0 where
  pub message : Message
  pub answer : d.answer ≡ Ok (length (answer_bytes (rejection why message)))
  pub reply : d.reply ≡ fronted (answer_bytes (rejection why message)) buffer
  pub nothing : Nothing s d

-- the message was answered by nothing, and a report says to the requester what became of it
pub record Told (a : MassAnswer) (buffer : List ℕ) (s : State) (d : Did) : Type 0 where
  pub answer : d.answer ≡ Ok 0
  pub reply : d.reply ≡ buffer
  pub changed : d.changed ≡ s
  pub report : answer_in d.acts ≡ Some a

-- each partition's figures are those of its orders that were open before and are not after
abbrev pub Gone : PerPartition Going → Time → State → Did → Type 0
Gone g t s d =
    (p : Partition)
    → at g p ≡ going_in (is_gone (acted t d.acts d.changed).venue.rows) s.venue.instruments s.venue.rows p

-- at this time the call did what the preview said
abbrev pub AsForetold : Result (PerPartition Going) PreviewFault → Time → List ℕ → State → Did → Type 0
AsForetold (Ok g) t buffer s d = Told Accepted buffer s d × Gone g t s d
AsForetold (Err (Call (Session NotLoggedOn))) t buffer s d = RejectedFor reason.NotLoggedOn buffer s d
AsForetold (Err (Call f)) t buffer s d = RefusedCaller f s d
AsForetold (Err (Turned e)) t buffer s d = RejectedFor (reason.Turned e) buffer s d
AsForetold (Err (Refused e)) t buffer s d = Told (Rejected e) buffer s d × Gone (for_each (record { orders = 0; shares = 0 })) t s d

-- whatever the very call does with the same bytes on the same line, at any time and with any buffer that has room for an
-- answer, is as foretold; but for bytes of another type, of which a preview says 3
abbrev pub Foretold : ℕ → List ℕ → ℕ → State → Result (PerPartition Going) PreviewFault → Type 0
Foretold line bs spare s r =
    (t : Time) (buffer : List ℕ) (d : Did) → request_verdict bs ≢ Some fault.Unknown → BUFFER ≤ length buffer
    → Hears (λ u acts. (u ≡ d.changed) × (acts ≡ d.acts)) (record {
      channel = RealTime;
      line = line;
      bytes = bs;
      time = t;
      buffer = buffer;
      spare = spare;
    }) s d.answer d.reply
    → AsForetold r t buffer s d
