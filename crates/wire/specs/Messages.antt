-- Any message: the checks in their order, what a message says, and its one written form. Assumes nothing.
use Rattle.std.specs.Prelude.{◌≡◌, ℕ, ◌+◌, ◌<◌, ◌≤◌, ◌&&◌, ◌||◌, List, ◌++◌, length, take, drop, Some, None, Ok, Err, Option, Result, MatchResult, ◌==◌, nat_lt, if◌then◌else◌}
use Rattle.texts.specs.Bytes.{le, part}
use Rattle.layout.specs.declared.fault.Fault.{Fault}
use Rattle.layout.specs.declared.fault.Fault.TheVariants.{Short, Start, Unknown, Length}
use Rattle.layout.specs.Layout.{Content, fault_of, Says, text_places}
use Rattle.layout.specs.Writing.{header, encode}
use Rattle.layout.specs.Holding.{HoldsIn}
use Rattle.layout.specs.declared.framed.Framed.{Ghosts}
use Rattle.order_messages.specs.contracts as orders
use Rattle.session_messages.specs.contracts as session
use Rattle.wire.specs.declared.kinds.Channel.{Channel}
use Rattle.wire.specs.declared.kinds.Kind.{Kind}
use Rattle.wire.specs.declared.kinds.Kind.TheVariants as kind
use Rattle.wire.specs.declared.message.Message.{Message}
use Rattle.wire.specs.declared.message.Message.TheVariants as message
use Rattle.wire.specs.declared.message.TooShort.{TooShort}
use Rattle.wire.specs.Blanks.{blanked}
use Rattle.wire.specs.Kinds.{letter_of, total_of, table_of, takes}
use Rattle.wire.specs.Plain.{plain}

-- what a message is: its kind, what its fields hold, and where its texts were read
pub record Whole : Type 0 where
  pub kind : Kind
  pub contents : List Content
  pub places : List ℕ

abbrev pub framed : {M : Type 0} → Kind → Ghosts M → M → Whole
framed k g m = record { kind = k; contents = g.contents m; places = g.places m }

-- each as its message's own file says
abbrev pub whole : Message → Whole
whole (message.Logon m) = framed kind.Logon session.logon.LogonFramed.TheImpl.ghosts m
whole (message.LogonReply m) = framed kind.LogonReply session.logon_reply.LogonReplyFramed.TheImpl.ghosts m
whole (message.Logout m) = framed kind.Logout session.logout.LogoutFramed.TheImpl.ghosts m
whole (message.Heartbeat m) = framed kind.Heartbeat session.heartbeat.HeartbeatFramed.TheImpl.ghosts m
whole (message.MissedMessageRequest m) =
    framed kind.MissedMessageRequest session.missed_message_request.MissedMessageRequestFramed.TheImpl.ghosts m
whole (message.MissedMessageRequestAck m) =
    framed kind.MissedMessageRequestAck session.missed_message_request_ack.MissedMessageRequestAckFramed.TheImpl.ghosts m
whole (message.MissedMessageReport m) =
    framed kind.MissedMessageReport session.missed_message_report.MissedMessageReportFramed.TheImpl.ghosts m
whole (message.Reject m) = framed kind.Reject session.reject.RejectFramed.TheImpl.ghosts m
whole (message.NewOrder m) = framed kind.NewOrder orders.new_order.NewOrderFramed.TheImpl.ghosts m
whole (message.OrderCancelRequest m) =
    framed kind.OrderCancelRequest orders.order_cancel_request.OrderCancelRequestFramed.TheImpl.ghosts m
whole (message.OrderCancelReplaceRequest m) =
    framed kind.OrderCancelReplaceRequest
    orders.order_cancel_replace_request.OrderCancelReplaceRequestFramed.TheImpl.ghosts m
whole (message.OrderMassCancelRequest m) =
    framed kind.OrderMassCancelRequest orders.order_mass_cancel_request.OrderMassCancelRequestFramed.TheImpl.ghosts m
whole (message.ExecutionReport m) =
    framed kind.ExecutionReport orders.execution_report.ExecutionReportFramed.TheImpl.ghosts m
whole (message.OrderCancelReject m) =
    framed kind.OrderCancelReject orders.order_cancel_reject.OrderCancelRejectFramed.TheImpl.ghosts m
whole (message.OrderMassCancelReport m) =
    framed kind.OrderMassCancelReport orders.order_mass_cancel_report.OrderMassCancelReportFramed.TheImpl.ghosts m

abbrev pub kind_of : Message → Kind
kind_of m = (whole m).kind

abbrev pub contents_of : Message → List Content
contents_of m = (whole m).contents

abbrev pub places_of : Message → List ℕ
places_of m = (whole m).places

-- how long a message is by its header
abbrev pub stated : List ℕ → ℕ
stated bs = le (part 1 2 bs) + 3

-- that is the length of its kind, and of the bytes
abbrev pub sized : List ℕ → Option Kind → Result Kind Fault
sized bs None = Err Unknown
sized bs (Some k) = if stated bs == total_of k && stated bs == length bs then Ok k else Err Length

-- the checks of the header, in their order: a message's kind, or what is wrong
unfoldable pub opening : Channel → List ℕ → Result Kind Fault
opening ch bs =
    if nat_lt (length bs) 4 || nat_lt (length bs) (stated bs) then Err Short
    else if le (part 0 1 bs) == 2 then sized bs (takes ch (le (part 3 1 bs)))
    else Err Start

-- and behind them the checks of its fields
abbrev pub after_opening : List ℕ → Result Kind Fault → Option Fault
after_opening bs (Err e) = Some e
after_opening bs (Ok k) = fault_of (table_of k) bs

-- the first check that fails
abbrev pub verdict : Channel → List ℕ → Option Fault
verdict ch bs = after_opening bs (opening ch bs)

-- a message says what its bytes hold, and its texts are the parts that hold them
pub record Reads (ch : Channel) (bs : List ℕ) (m : Message) : Type 0 where
  pub passes : verdict ch bs ≡ None
  pub opens : opening ch bs ≡ Ok (kind_of m)
  pub says : Says (contents_of m) (table_of (kind_of m)) bs
  pub placed : places_of m ≡ text_places (table_of (kind_of m)) bs

abbrev pub WasRead : Channel → List ℕ → Result Message Fault → Type 0
WasRead ch bs r = MatchResult r (λ m. Reads ch bs m) (λ e. verdict ch bs ≡ Some e)

-- the bytes of a message of a kind whose fields hold this
abbrev pub message_bytes : Kind → List Content → List ℕ
message_bytes k vs = header (letter_of k) (total_of k) ++ encode (table_of k) vs

-- the one written form of a message
abbrev pub written : Message → List ℕ
written m = message_bytes (kind_of m) (contents_of m)

-- what a message may say: its numbers are as wide as their types
abbrev pub Holdable : Message → Type 0
Holdable m = HoldsIn (table_of (kind_of m)) (contents_of m)

-- writing undoes reading: a message that was read is written as its bytes stood, but for what is reserved or irrelevant
abbrev pub Again : List ℕ → Message → Type 0
Again bs m = written m ≡ take 4 bs ++ blanked (table_of (kind_of m)) bs

-- reading undoes writing: each reader that takes such messages reads this very one, and no other, from its bytes
abbrev pub GivenBack : Message → Type 0
GivenBack m =
    (ch : Channel) → takes ch (letter_of (kind_of m)) ≡ Some (kind_of m)
    → (verdict ch (written m) ≡ None) × ((b : Message) → Reads ch (written m) b → plain b ≡ plain m)

-- a message was written to the front of a buffer, or the buffer is too short and stands as it was
abbrev pub Wrote : Message → List ℕ → List ℕ → Result ℕ TooShort → Type 0
Wrote m before after r =
    MatchResult r
    (λ n. (n ≡ total_of (kind_of m)) × (n ≤ length before) × (after ≡ written m ++ drop n before))
    (λ e. (e.needed ≡ total_of (kind_of m)) × (length before < e.needed) × (after ≡ before))

-- no other message is written in the same form
abbrev pub Apart : Message → Type 0
Apart m = (n : Message) → Holdable n → written n ≡ written m → plain n ≡ plain m
