-- The messages of a session as they are published: each with its type byte and its bytes in all, behind the header a
-- row for each field, with its offset, its bytes and what it holds. Assumes nothing.
use Rattle.std.specs.Prelude.{[], ◌∷◌, codes}
use Rattle.layout.specs.Published.{Published, published, row}
use Rattle.layout.specs.Published.DataType.{text, signed, sequence, one_of, any_byte}

abbrev pub logon_published : Published
logon_published =
    published (codes "A") 80 (
    row 4 25 text  -- CompID
    ∷ row 29 25 text  -- Password
    ∷ row 54 25 text  -- NewPassword
    ∷ row 79 1 (one_of (1 ∷ []))  -- Message Version
    ∷ [])

abbrev pub logon_reply_published : Published
logon_reply_published =
    published (codes "B") 38 (
    row 4 4 signed  -- RejectCode
    ∷ row 8 30 text  -- PasswordExpiryDayCount
    ∷ [])

abbrev pub logout_published : Published
logout_published =
    published (codes "5") 24 (
    row 4 20 text  -- LogoutReason
    ∷ [])

abbrev pub heartbeat_published : Published
heartbeat_published = published (codes "0") 4 []

abbrev pub missed_message_request_published : Published
missed_message_request_published =
    published (codes "M") 9 (
    row 4 1 signed  -- AppID
    ∷ row 5 4 sequence  -- LastMsgSeqNum
    ∷ [])

abbrev pub missed_message_request_ack_published : Published
missed_message_request_ack_published =
    published (codes "N") 5 (
    row 4 1 (one_of (0 ∷ 1 ∷ 2 ∷ 3 ∷ []))  -- ResponseType
    ∷ [])

abbrev pub missed_message_report_published : Published
missed_message_report_published =
    published (codes "P") 5 (
    row 4 1 (one_of (0 ∷ 1 ∷ 3 ∷ []))  -- ResponseType
    ∷ [])

abbrev pub reject_published : Published
reject_published =
    published (codes "3") 59 (
    row 4 4 signed  -- RejectCode
    ∷ row 8 30 text  -- Reject Reason
    ∷ row 38 1 any_byte  -- Rejected MessageType
    ∷ row 39 20 text  -- Client Order ID
    ∷ [])
