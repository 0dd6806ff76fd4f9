-- What a preview of a mass cancel answers. Assumes nothing.
use Rattle.std.specs.Option.{option_map, option_or}
use Rattle.std.specs.Prelude.{◌≡◌, ℕ, Bool, true, false, List, map, slice_index_or, Some, None, Ok, Err, Option, Result, MatchResult, ◌==◌}
use Rattle.codes.specs.Order.{book_code, books, mass_cancel_type_code, mass_cancel_types}
use Rattle.codes.specs.declared.order.Book.TheVariants.{Integrated}
use Rattle.codes.specs.declared.order.MassCancelType.TheVariants as type
use Rattle.codes.specs.declared.order.MassCancelType.{MassCancelType}
use Rattle.gateway.specs.Calls.{on_fault}
use Rattle.gateway.specs.Counting.{going_of}
use Rattle.gateway.specs.Faults.{number, offset}
use Rattle.gateway.specs.Hearing.{firm, line_fault}
use Rattle.gateway.specs.State.{State}
use Rattle.gateway.specs.declared.fault.GatewayFault.TheVariants.{Session}
use Rattle.gateway.specs.declared.fault.GatewayFault.{GatewayFault}
use Rattle.gateway.specs.declared.fault.SessionFault.TheVariants.{Wire}
use Rattle.gateway.specs.declared.preview.Going.{Going}
use Rattle.gateway.specs.declared.preview.PreviewFault.TheVariants.{Call, Turned, Refused}
use Rattle.gateway.specs.declared.preview.PreviewFault.{PreviewFault}
use Rattle.layout.specs.Layout.{Content, got, nth, value_of, words_of}
use Rattle.layout.specs.declared.fault.Fault.TheVariants as fault
use Rattle.layout.specs.declared.fault.Fault.{Fault}
use Rattle.order_messages.specs.declared.order_mass_cancel_request.OrderMassCancelRequest.{OrderMassCancelRequest}
use Rattle.partitions.specs.declared.per_partition.PerPartition.{PerPartition}
use Rattle.refusals.specs.Numbers.{refusal_number, turned_number}
use Rattle.refusals.specs.declared.Refusal.TheVariants.{BookNotServed}
use Rattle.refusals.specs.declared.Turned.{Turned as TurnedDown}
use Rattle.requests.specs.MassCancels.Aim.{instrument, segment, all}
use Rattle.requests.specs.MassCancels.Plan.{unserved, within, everywhere}
use Rattle.requests.specs.MassCancels.{Aim, Plan, planned}
use Rattle.sessions.specs.declared.session.Channel.TheVariants.{RealTime}
use Rattle.venue.specs.Books.{Books}
use Rattle.wire.specs.Kinds.{letter_of, table_of}
use Rattle.wire.specs.Messages.{Reads, verdict}
use Rattle.wire.specs.declared.kinds.Channel.TheVariants as reader
use Rattle.wire.specs.declared.kinds.Kind.TheVariants.{OrderMassCancelRequest as Request}
use Rattle.wire.specs.declared.message.Message.TheVariants as message

-- ---- a reader that takes a Mass Cancel Request alone

-- the type byte is the request's
abbrev pub is_mass_cancel : List ℕ → Bool
is_mass_cancel bs = slice_index_or bs 3 0 == letter_of Request

-- behind the first two checks any other type is none of its
abbrev pub alone : Bool → Option Fault → Option Fault
alone true o = o
alone false (Some fault.Short) = Some fault.Short
alone false (Some fault.Start) = Some fault.Start
alone false o = Some fault.Unknown

abbrev pub request_verdict : List ℕ → Option Fault
request_verdict bs = alone (is_mass_cancel bs) (verdict reader.RealTime bs)

abbrev pub RequestRead : List ℕ → Result OrderMassCancelRequest Fault → Type 0
RequestRead bs r =
    MatchResult r
    (λ m. (request_verdict bs ≡ None) × Reads reader.RealTime bs (message.OrderMassCancelRequest m))
    (λ e. request_verdict bs ≡ Some e)

-- what a request aims at, by what its fields hold
abbrev pub instrument_in : List Content → Aim
instrument_in vs = instrument (words_of (nth 2 vs)) (value_of book_code books Integrated (nth 5 vs))

abbrev pub aim_by : MassCancelType → List Content → Bool × Aim
aim_by type.FirmInstrument vs = (true, instrument_in vs)
aim_by type.CompIdInstrument vs = (false, instrument_in vs)
aim_by type.FirmSegment vs = (true, segment (words_of (nth 3 vs)))
aim_by type.CompIdSegment vs = (false, segment (words_of (nth 3 vs)))
aim_by type.Firm vs = (true, all)
aim_by type.CompId vs = (false, all)

abbrev pub aim_from : List Content → Bool × Aim
aim_from vs = aim_by (value_of mass_cancel_type_code mass_cancel_types type.CompId (nth 1 vs)) vs

abbrev pub aim_in : List ℕ → Bool × Aim
aim_in bs = aim_from (map (got bs) (table_of Request))

-- ---- the answer

-- of a request, by what it comes to
abbrev pub by_plan : Books → Result Plan TurnedDown → Result (PerPartition Going) PreviewFault
by_plan b (Err e) = Err (Turned e)
by_plan b (Ok (unserved p)) = Err (Refused BookNotServed)
by_plan b (Ok (within p q)) = Ok (going_of q b.instruments b.rows)
by_plan b (Ok (everywhere q)) = Ok (going_of q b.instruments b.rows)

-- the checks before: the line, the message, and that the line is logged on
abbrev pub message_fault : Option Fault → Option GatewayFault
message_fault o = option_map (λ f. Session (Wire f)) o

abbrev pub preview_fault : ℕ → List ℕ → State → Option GatewayFault
preview_fault line bs s =
    option_or (line_fault line s) (option_or (message_fault (request_verdict bs)) (on_fault RealTime line s))

abbrev pub RequestTaken : ℕ → List ℕ → State → Result OrderMassCancelRequest GatewayFault → Type 0
RequestTaken line bs s r =
    MatchResult r
    (λ m. (preview_fault line bs s ≡ None) × Reads reader.RealTime bs (message.OrderMassCancelRequest m))
    (λ e. preview_fault line bs s ≡ Some e)

abbrev pub preview_unless : Option GatewayFault → ℕ → List ℕ → ℕ → State → Result (PerPartition Going) PreviewFault
preview_unless (Some f) line bs spare s = Err (Call f)
preview_unless None line bs spare s =
    by_plan s.venue (planned (aim_in bs) s.participants (firm s line) line s.venue spare)

-- of a request that is given on a line, where so many places are spare
abbrev pub previewed : ℕ → List ℕ → ℕ → State → Result (PerPartition Going) PreviewFault
previewed line bs spare s = preview_unless (preview_fault line bs s) line bs spare s

-- ---- the number of what is refused, and where in the message the check fails

abbrev pub preview_number : PreviewFault → ℕ
preview_number (Call f) = number f
preview_number (Turned e) = turned_number e
preview_number (Refused e) = refusal_number e

abbrev pub preview_offset : PreviewFault → Option ℕ
preview_offset (Call f) = offset f
preview_offset (Turned e) = None
preview_offset (Refused e) = None
