-- The kinds of messages: how each is laid out, and which each reader takes. Assumes nothing.
use Rattle.std.specs.Prelude.{ℕ, List, [], ◌∷◌, Option, ◌==◌}
use Rattle.std.specs.List.{find}
use Rattle.layout.specs.declared.field.Field.{Field}
use Rattle.layout.specs.Shapes.{Laid}
use Rattle.order_messages.specs.contracts as orders
use Rattle.session_messages.specs.contracts as session
use Rattle.wire.specs.declared.kinds.Channel.{Channel}
use Rattle.wire.specs.declared.kinds.Channel.TheVariants as channel
use Rattle.wire.specs.declared.kinds.Kind.{Kind}
use Rattle.wire.specs.declared.kinds.Kind.TheVariants as kind

-- how the messages of a kind are laid out, as its message's own file says
abbrev pub layout_of : Kind → Laid
layout_of kind.Logon = session.logon.LogonLayout.TheImpl.ghosts.shape
layout_of kind.LogonReply = session.logon_reply.LogonReplyLayout.TheImpl.ghosts.shape
layout_of kind.Logout = session.logout.LogoutLayout.TheImpl.ghosts.shape
layout_of kind.Heartbeat = session.heartbeat.HeartbeatLayout.TheImpl.ghosts.shape
layout_of kind.MissedMessageRequest = session.missed_message_request.MissedMessageRequestLayout.TheImpl.ghosts.shape
layout_of kind.MissedMessageRequestAck =
    session.missed_message_request_ack.MissedMessageRequestAckLayout.TheImpl.ghosts.shape
layout_of kind.MissedMessageReport = session.missed_message_report.MissedMessageReportLayout.TheImpl.ghosts.shape
layout_of kind.Reject = session.reject.RejectLayout.TheImpl.ghosts.shape
layout_of kind.NewOrder = orders.new_order.NewOrderLayout.TheImpl.ghosts.shape
layout_of kind.OrderCancelRequest = orders.order_cancel_request.OrderCancelRequestLayout.TheImpl.ghosts.shape
layout_of kind.OrderCancelReplaceRequest =
    orders.order_cancel_replace_request.OrderCancelReplaceRequestLayout.TheImpl.ghosts.shape
layout_of kind.OrderMassCancelRequest =
    orders.order_mass_cancel_request.OrderMassCancelRequestLayout.TheImpl.ghosts.shape
layout_of kind.ExecutionReport = orders.execution_report.ExecutionReportLayout.TheImpl.ghosts.shape
layout_of kind.OrderCancelReject = orders.order_cancel_reject.OrderCancelRejectLayout.TheImpl.ghosts.shape
layout_of kind.OrderMassCancelReport = orders.order_mass_cancel_report.OrderMassCancelReportLayout.TheImpl.ghosts.shape

abbrev pub letter_of : Kind → ℕ
letter_of k = (layout_of k).letter

abbrev pub total_of : Kind → ℕ
total_of k = (layout_of k).total

abbrev pub table_of : Kind → List Field
table_of k = (layout_of k).table

-- the kinds that a reader takes, what comes most often first
abbrev pub kinds_of : Channel → List Kind
kinds_of channel.RealTime =
    kind.NewOrder ∷ kind.OrderCancelReplaceRequest ∷ kind.OrderCancelRequest ∷ kind.OrderMassCancelRequest
    ∷ kind.Heartbeat ∷ kind.Logon ∷ kind.Logout ∷ []
kinds_of channel.Recovery = kind.MissedMessageRequest ∷ kind.Heartbeat ∷ kind.Logon ∷ kind.Logout ∷ []
kinds_of channel.Follower =
    kind.ExecutionReport ∷ kind.OrderCancelReject ∷ kind.OrderMassCancelReport ∷ kind.Reject ∷ kind.Heartbeat
    ∷ kind.LogonReply ∷ kind.MissedMessageRequestAck ∷ kind.MissedMessageReport ∷ kind.Logout ∷ []

-- the one of them that a type byte names
abbrev pub takes : Channel → ℕ → Option Kind
takes ch t = find (λ k. letter_of k == t) (kinds_of ch)
