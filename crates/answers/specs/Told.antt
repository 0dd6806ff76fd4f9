-- What a follower reads from an answer, and from the end of a download. Assumes nothing.
use Rattle.std.specs.Prelude.{◌≡◌, [], pos}
use Rattle.codes.specs.declared.session.ReportResponse.{ReportResponse}
use Rattle.texts.specs.Says.{says}
use Rattle.wire.specs.declared.message.Message.{Message}
use Rattle.wire.specs.declared.message.Message.TheVariants as message
use Rattle.report_messages.specs.Told.{Conveys}
use Rattle.answers.specs.declared.answer.Answer.{Answer}
use Rattle.answers.specs.declared.answer.Answer.TheVariants.{Silent, LogonReply, Ack, Reject}
use Rattle.answers.specs.Bytes.{answer_bytes, client_said, end_bytes}
use Rattle.answers.specs.Numbers.{admission_number, reason_number}

-- the message of an answer
abbrev pub Answers : Answer → Message → Type 0
Answers (LogonReply a) (message.LogonReply m) =
    (m.reject_code ≡ pos (admission_number a)) × (says m.expiry_days ≡ [])
Answers (Ack r) (message.MissedMessageRequestAck m) = m.response ≡ r
Answers (Reject r) (message.Reject m) =
    (m.code ≡ pos (reason_number r.reason)) × (says m.reason ≡ []) × (m.message_type ≡ r.message_type)
    × (says m.client_order_id ≡ client_said r.client)
Answers a m = ⊥

abbrev pub AnswerTold : Answer → Type 0
AnswerTold Silent = Unit {0}
AnswerTold a = Conveys (Answers a) (answer_bytes a)

-- the message of the end of a download
abbrev pub Ends : ReportResponse → Message → Type 0
Ends r (message.MissedMessageReport m) = m.response ≡ r
Ends r m = ⊥

abbrev pub EndTold : ReportResponse → Type 0
EndTold r = Conveys (Ends r) (end_bytes r)
