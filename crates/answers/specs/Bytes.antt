-- The bytes of what a gateway answers and sends. Assumes nothing.
use Rattle.std.specs.Prelude.{ℕ, List, [], ◌∷◌, pos, Option}
use Rattle.std.specs.Option.{option_map_or}
use Rattle.codes.specs.Session.{ack_response_code, report_response_code}
use Rattle.codes.specs.declared.session.ReportResponse.{ReportResponse}
use Rattle.texts.specs.Bytes.{said}
use Rattle.texts.specs.declared.fixed.FixedText.{FixedText}
use Rattle.layout.specs.Layout.Content.{words, figure, int32}
use Rattle.wire.specs.declared.kinds.Kind.TheVariants as kind
use Rattle.wire.specs.Messages.{message_bytes}
use Rattle.answers.specs.Numbers.{admission_number, reason_number}
use Rattle.answers.specs.declared.answer.Answer.{Answer}
use Rattle.answers.specs.declared.answer.Answer.TheVariants.{Silent, LogonReply, Ack, Reject}

-- what a Client Order ID says, where there is one
abbrev pub client_said : Option (FixedText 20) → List ℕ
client_said o = option_map_or (λ c. said c.bytes) o []

-- a Logon Reply says of no day when the password expires, a Reject gives no words for its reason
abbrev pub answer_bytes : Answer → List ℕ
answer_bytes Silent = []
answer_bytes (LogonReply a) = message_bytes kind.LogonReply (int32 (pos (admission_number a)) ∷ words [] ∷ [])
answer_bytes (Ack r) = message_bytes kind.MissedMessageRequestAck (figure (ack_response_code r) ∷ [])
answer_bytes (Reject r) =
    message_bytes kind.Reject (
    int32 (pos (reason_number r.reason))
    ∷ words []
    ∷ figure r.message_type
    ∷ words (client_said r.client)
    ∷ []
    )

-- the end of a download
abbrev pub end_bytes : ReportResponse → List ℕ
end_bytes r = message_bytes kind.MissedMessageReport (figure (report_response_code r) ∷ [])
