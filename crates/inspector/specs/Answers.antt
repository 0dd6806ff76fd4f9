-- What a line of input is answered. Assumes nothing.
use Rattle.std.specs.Prelude.{◌≡◌, ℕ, List, ◌++◌, Some, None, string_bytes, codes, decimal, Option}
use Rattle.std.specs.Str.{bytes_eq}
use Rattle.layout.specs.declared.fault.Fault.{Fault}
use Rattle.layout.specs.Faults.{fault_number, fault_offset}
use Rattle.wire.specs.declared.kinds.Channel.{Channel}
use Rattle.wire.specs.declared.message.Message.{Message}
use Rattle.wire.specs.Streams.{later}
use Rattle.wire.specs.Messages.{Reads, kind_of, contents_of, written, verdict}
use Rattle.inspector.specs.declared.account.Outcome.TheVariants as outcome
use Rattle.inspector.specs.declared.answer.Answer.{Answer}
use Rattle.inspector.specs.Lines.{Given, skipped, message, unclear, given}
use Rattle.inspector.specs.Sentences.{sentence_of}
use Rattle.inspector.specs.Shown.{message_text}

abbrev pub refused_text : Fault → ℕ → List ℕ
refused_text e at = codes "refused " ++ (decimal (fault_number e) ++ (codes " at " ++ decimal at))

-- the answer to what fails a check, with an offset
abbrev pub Refuses : Fault → ℕ → Answer → Type 0
Refuses e at a = (string_bytes a.text ≡ refused_text e at) × (a.outcome ≡ outcome.Refused e)

-- the answer to this message, read from these bytes
abbrev pub Shows : Message → List ℕ → Answer → Type 0
Shows m bs a =
    (string_bytes a.text ≡ message_text (kind_of m) (contents_of m))
    × (a.outcome ≡ outcome.Read (bytes_eq (written m) bs))

-- the answer to a message that was read: what its fields hold, and whether it is written as its bytes stood
pub record ReadAs (ch : Channel) (bs : List ℕ) (a : Answer) : Type 0 where
  pub read : Message
  pub reads : Reads ch bs read
  pub shows : string_bytes a.text ≡ message_text (kind_of read) (contents_of read)
  pub counts : a.outcome ≡ outcome.Read (bytes_eq (written read) bs)

-- the answer to a message, by the first check that fails
abbrev pub ByVerdict : Option Fault → Channel → List ℕ → Answer → Type 0
ByVerdict (Some e) ch bs a = Refuses e (fault_offset e) a
ByVerdict None ch bs a = ReadAs ch bs a

abbrev pub AnswersRead : Channel → List ℕ → Answer → Type 0
AnswersRead ch bs a = ByVerdict (verdict ch bs) ch bs a

-- the same of a message of a stream, which begins at an offset there
abbrev pub FromVerdict : ℕ → Option Fault → Channel → List ℕ → Answer → Type 0
FromVerdict at (Some e) ch bs a = Refuses e (later at (fault_offset e)) a
FromVerdict at None ch bs a = ReadAs ch bs a

abbrev pub AnswersFrom : ℕ → Channel → List ℕ → Answer → Type 0
AnswersFrom at ch bs a = FromVerdict at (verdict ch bs) ch bs a

abbrev pub Answers : Given → Option Answer → Type 0
Answers skipped None = Unit {0}
Answers skipped (Some a) = ⊥
Answers (unclear why) None = ⊥
Answers (unclear why) (Some a) = (string_bytes a.text ≡ sentence_of why) × (a.outcome ≡ outcome.NotUnderstood)
Answers (message ch bs) None = ⊥
Answers (message ch bs) (Some a) = AnswersRead ch bs a

abbrev pub Answered : List ℕ → Option Answer → Type 0
Answered line a = Answers (given line) a
