-- What is published of the messages: how each kind is laid out, and which type bytes each reader takes.
-- Assumes nothing.
use Rattle.std.specs.Prelude.{◌≡◌, ℕ, List, map, codes}
use Rattle.layout.specs.Published.{Published, published_of}
use Rattle.order_messages.specs.Published.{new_order_published, order_cancel_request_published, order_cancel_replace_request_published, order_mass_cancel_request_published, execution_report_published, order_cancel_reject_published, order_mass_cancel_report_published}
use Rattle.session_messages.specs.Published.{logon_published, logon_reply_published, logout_published, heartbeat_published, missed_message_request_published, missed_message_request_ack_published, missed_message_report_published, reject_published}
use Rattle.wire.specs.declared.kinds.Channel.{Channel}
use Rattle.wire.specs.declared.kinds.Channel.TheVariants.{RealTime, Recovery, Follower}
use Rattle.wire.specs.declared.kinds.Kind.{Kind}
use Rattle.wire.specs.declared.kinds.Kind.TheVariants as kind
use Rattle.wire.specs.Kinds.{kinds_of, layout_of, letter_of}

-- each kind's layout, in literals
abbrev pub published : Kind → Published
published kind.Logon = logon_published
published kind.LogonReply = logon_reply_published
published kind.Logout = logout_published
published kind.Heartbeat = heartbeat_published
published kind.MissedMessageRequest = missed_message_request_published
published kind.MissedMessageRequestAck = missed_message_request_ack_published
published kind.MissedMessageReport = missed_message_report_published
published kind.Reject = reject_published
published kind.NewOrder = new_order_published
published kind.OrderCancelRequest = order_cancel_request_published
published kind.OrderCancelReplaceRequest = order_cancel_replace_request_published
published kind.OrderMassCancelRequest = order_mass_cancel_request_published
published kind.ExecutionReport = execution_report_published
published kind.OrderCancelReject = order_cancel_reject_published
published kind.OrderMassCancelReport = order_mass_cancel_report_published

-- the type bytes that a reader takes, what comes most often first
abbrev pub letters_of : Channel → List ℕ
letters_of RealTime = codes "DGFq0A5"
letters_of Recovery = codes "M0A5"
letters_of Follower = codes "89r30BNP5"

-- the code's tables and lists are those
pub record AsPublished : Type 0 where
  pub layouts : (k : Kind) → published_of (layout_of k) ≡ published k
  pub readers : (ch : Channel) → map letter_of (kinds_of ch) ≡ letters_of ch
