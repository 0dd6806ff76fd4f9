-- The messages of a session: what each one's fields hold, and where its texts stand. Assumes nothing.
use Rattle.std.specs.Prelude.{ℕ, List, [], ◌∷◌}
use Rattle.codes.specs.Session.{ack_response_code, report_response_code, version_code}
use Rattle.texts.specs.Says.{says}
use Rattle.layout.specs.Layout.{Content}
use Rattle.layout.specs.Layout.Content.{words, figure, int8, int32}
use Rattle.session_messages.specs.declared.heartbeat.Heartbeat.{Heartbeat}
use Rattle.session_messages.specs.declared.logon.Logon.{Logon}
use Rattle.session_messages.specs.declared.logon_reply.LogonReply.{LogonReply}
use Rattle.session_messages.specs.declared.logout.Logout.{Logout}
use Rattle.session_messages.specs.declared.missed_message_request.MissedMessageRequest.{MissedMessageRequest}
use Rattle.session_messages.specs.declared.missed_message_request_ack.MissedMessageRequestAck.{MissedMessageRequestAck}
use Rattle.session_messages.specs.declared.missed_message_report.MissedMessageReport.{MissedMessageReport}
use Rattle.session_messages.specs.declared.reject.Reject.{Reject}

-- a sign of life
abbrev pub heartbeat_contents : Heartbeat → List Content
heartbeat_contents m = []

abbrev pub heartbeat_places : Heartbeat → List ℕ
heartbeat_places m = []

-- asks for a session
abbrev pub logon_contents : Logon → List Content
logon_contents m =
    words (says m.comp_id)
    ∷ words (says m.password)
    ∷ words (says m.new_password)
    ∷ figure (version_code m.version)
    ∷ []

abbrev pub logon_places : Logon → List ℕ
logon_places m = m.comp_id.offset ∷ m.password.offset ∷ m.new_password.offset ∷ []

-- the answer to a Logon
abbrev pub logon_reply_contents : LogonReply → List Content
logon_reply_contents m =
    int32 m.reject_code
    ∷ words (says m.expiry_days)
    ∷ []

abbrev pub logon_reply_places : LogonReply → List ℕ
logon_reply_places m = m.expiry_days.offset ∷ []

-- ends a session
abbrev pub logout_contents : Logout → List Content
logout_contents m =
    words (says m.reason)
    ∷ []

abbrev pub logout_places : Logout → List ℕ
logout_places m = m.reason.offset ∷ []

-- asks for a download of the reports behind the last one seen
abbrev pub missed_message_request_contents : MissedMessageRequest → List Content
missed_message_request_contents m =
    int8 m.partition
    ∷ figure m.last.value
    ∷ []

abbrev pub missed_message_request_places : MissedMessageRequest → List ℕ
missed_message_request_places m = []

-- whether a download begins
abbrev pub missed_message_request_ack_contents : MissedMessageRequestAck → List Content
missed_message_request_ack_contents m =
    figure (ack_response_code m.response)
    ∷ []

abbrev pub missed_message_request_ack_places : MissedMessageRequestAck → List ℕ
missed_message_request_ack_places m = []

-- how a download ended
abbrev pub missed_message_report_contents : MissedMessageReport → List Content
missed_message_report_contents m =
    figure (report_response_code m.response)
    ∷ []

abbrev pub missed_message_report_places : MissedMessageReport → List ℕ
missed_message_report_places m = []

-- a message that was not taken, by its type and its Client Order ID where they are known
abbrev pub reject_contents : Reject → List Content
reject_contents m =
    int32 m.code
    ∷ words (says m.reason)
    ∷ figure m.message_type
    ∷ words (says m.client_order_id)
    ∷ []

abbrev pub reject_places : Reject → List ℕ
reject_places m = m.reason.offset ∷ m.client_order_id.offset ∷ []
