-- What a captured stream is answered: each message that is cut out of it, and what ends it. Assumes nothing.
use Rattle.std.specs.Prelude.{◌≡◌, ℕ, Bool, true, false, if◌then◌else◌, List, length, Some, None, Option, IsNone, MatchBool}
use Rattle.wire.specs.declared.kinds.Channel.{Channel}
use Rattle.wire.specs.declared.stream.Next.{Next}
use Rattle.wire.specs.declared.stream.Next.TheVariants as next
use Rattle.wire.specs.declared.stream.StreamFault.{StreamFault}
use Rattle.wire.specs.Streams.{Splitting, answer, end, fresh, given}
use Rattle.inspector.specs.declared.answer.Answer.{Answer}
use Rattle.inspector.specs.declared.capture.Judged.{Judged}
use Rattle.inspector.specs.Answers.{AnswersFrom, Refuses}

-- a stream as far as it was read, and whether bytes that can be no message have ended it
pub record Captured : Type 0 where
  pub splitter : Splitting
  pub stopped : Bool

abbrev pub begun : Channel → Captured
begun ch = record { splitter = fresh ch; stopped = false }

abbrev pub stops : Next → Bool
stops (next.Fault e) = true
stops n = false

-- once it is given a chunk: nothing more is read behind such bytes
abbrev pub captured : Captured → List ℕ → Captured
captured c chunk =
    if c.stopped then c
    else record { splitter = given c.splitter chunk; stopped = stops (answer c.splitter chunk) }

-- the answer to the message that is then handed out, or to what ends the stream; there may be none yet
abbrev pub Tells : Next → Splitting → ℕ → Option Judged → Type 0
Tells next.Unfinished s most told = IsNone told
Tells (next.Message used) s most None = ⊥
Tells (next.Message used) s most (Some told) = (told.used ≡ used) × AnswersFrom s.at s.channel s.held told.answer
Tells (next.Fault e) s most None = ⊥
Tells (next.Fault e) s most (Some told) = (told.used ≡ most) × Refuses e.fault e.offset told.answer

abbrev pub Answers : Captured → List ℕ → Option Judged → Type 0
Answers c chunk told =
    MatchBool c.stopped (IsNone told)
    (Tells (answer c.splitter chunk) (given c.splitter chunk) (length chunk) told)

-- the answer to what is left where the stream ends
abbrev pub Closes : Option StreamFault → Option Answer → Type 0
Closes None last = IsNone last
Closes (Some e) None = ⊥
Closes (Some e) (Some a) = Refuses e.fault e.offset a

abbrev pub Ends : Captured → Option Answer → Type 0
Ends c last = MatchBool c.stopped (IsNone last) (Closes (end c.splitter) last)
