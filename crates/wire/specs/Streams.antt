-- A stream of bytes as messages, one behind another: what stands at its front, what a splitter makes of a chunk, and
-- what it is to cut a whole stream. Assumes nothing.
use Rattle.std.specs.Prelude.{◌≡◌, ◌≢◌, ℕ, ◌+◌, ◌-◌, ◌^◌, ◌<◌, ◌≤◌, min, Bool, true, false, if◌then◌else◌, List, [], ◌∷◌, ◌++◌, length, take, drop, Some, None, Ok, Err, Option, Result, is_ok, ◌==◌, nat_lt}
use Rattle.std.specs.List.{AllByRecursion, concat}
use Rattle.texts.specs.Bytes.{le, part}
use Rattle.layout.specs.declared.fault.Fault.{Fault}
use Rattle.layout.specs.declared.fault.Fault.TheVariants as fault
use Rattle.layout.specs.Faults.{fault_offset}
use Rattle.wire.specs.declared.kinds.Channel.{Channel}
use Rattle.wire.specs.declared.kinds.Kind.{Kind}
use Rattle.wire.specs.declared.stream.Next.{Next}
use Rattle.wire.specs.declared.stream.Next.TheVariants as next
use Rattle.wire.specs.declared.stream.StreamFault.{StreamFault}
use Rattle.wire.specs.Kinds.{total_of, takes}
use Rattle.wire.specs.Messages.{opening, stated}

-- what stands at the front of bytes
pub data Front : Type 0 where
  -- more is needed
  unfinished : Front
  -- a message of so many bytes
  message : ℕ → Front
  -- no message begins so
  broken : Fault → Front

-- how long a message of a kind is, where that is what its header says
abbrev pub sized_as : List ℕ → Option Kind → Result ℕ Fault
sized_as head None = Err fault.Unknown
sized_as head (Some k) = if stated head == total_of k then Ok (total_of k) else Err fault.Length

-- how long the message is that begins with these four bytes, or which check they fail
unfoldable pub begun : Channel → List ℕ → Result ℕ Fault
begun ch head =
    if le (part 0 1 head) == 2 then sized_as head (takes ch (le (part 3 1 head))) else Err fault.Start

abbrev pub front_by : Result ℕ Fault → ℕ → Front
front_by (Ok total) given = if nat_lt given total then unfinished else message total
front_by (Err e) given = broken e

unfoldable pub front : Channel → List ℕ → Front
front ch bs = if nat_lt (length bs) 4 then unfinished else front_by (begun ch (take 4 bs)) (length bs)

-- how many of so many bytes a splitter takes: all while more is needed, a message, or the header that is none
abbrev pub reach : Front → ℕ → ℕ
reach unfinished given = given
reach (message total) given = total
reach (broken e) given = 4

abbrev pub reached : Channel → List ℕ → List ℕ
reached ch bs = take (reach (front ch bs) (length bs)) bs

-- what that is: a message, with so many bytes besides those that were held; not yet one; or what it fails
abbrev pub standing : ℕ → Front → Result (Option ℕ) Fault
standing held unfinished = Ok None
standing held (message total) = Ok (Some (total - held))
standing held (broken e) = Err e

abbrev pub is_message : Front → Bool
is_message (message total) = true
is_message f = false

-- an offset that is further on; the last one there is stays
abbrev pub later : ℕ → ℕ → ℕ
later at n = min (at + n) (2 ^ 64 - 1)

-- a splitter: who reads, the bytes it holds and at which offset of the stream they begin, and whether they are a
-- message that it has handed out
pub record Splitting : Type 0 where
  pub channel : Channel
  pub at : ℕ
  pub held : List ℕ
  pub handed : Bool

abbrev pub fresh : Channel → Splitting
fresh ch = record { channel = ch; at = 0; held = []; handed = false }

-- what it holds that is not handed out, and where that begins
abbrev pub pending : Splitting → List ℕ
pending s = if s.handed then [] else s.held

abbrev pub start : Splitting → ℕ
start s = if s.handed then later s.at (length s.held) else s.at

abbrev pub front_with : Splitting → List ℕ → Front
front_with s chunk = front s.channel (pending s ++ chunk)

-- without what it has handed out
abbrev pub passed : Splitting → Splitting
passed s = record { channel = s.channel; at = start s; held = pending s; handed = false }

-- once it is given a chunk
abbrev pub given : Splitting → List ℕ → Splitting
given s chunk =
    record {
      channel = s.channel;
      at = start s;
      held = reached s.channel (pending s ++ chunk);
      handed = is_message (front_with s chunk);
    }

-- a fault in the stream, of a message that begins at an offset
abbrev pub fault_in : ℕ → Fault → StreamFault
fault_in at e = record { fault = e; offset = later at (fault_offset e) }

-- what it answers: of a message, how many bytes of the chunk it took
abbrev pub answer_by : ℕ → ℕ → Front → Next
answer_by at held unfinished = next.Unfinished
answer_by at held (message total) = next.Message (total - held)
answer_by at held (broken e) = next.Fault (fault_in at e)

abbrev pub answer : Splitting → List ℕ → Next
answer s chunk = answer_by (start s) (length (pending s)) (front_with s chunk)

-- what is held is no whole message, unless it was handed out
abbrev pub IsOpen : Channel → List ℕ → Bool → Type 0
IsOpen ch held handed = handed ≡ false → (n : ℕ) → front ch held ≢ message n

-- a message takes some of the chunk, and no more than it has
abbrev pub Within : ℕ → Next → Type 0
Within most next.Unfinished = Unit {0}
Within most (next.Message n) = (0 < n) × (n ≤ most)
Within most (next.Fault e) = Unit {0}

-- what is wrong with what is left where a stream ends: what no message begins with, or a message that is cut short
abbrev pub end_fault : Front → Fault
end_fault (broken e) = e
end_fault f = fault.Short

abbrev pub end_by : ℕ → List ℕ → Front → Option StreamFault
end_by at bs f = if length bs == 0 then None else Some (fault_in at (end_fault f))

abbrev pub end : Splitting → Option StreamFault
end s = end_by (start s) (pending s) (front s.channel (pending s))

-- chunks given to a splitter, one behind the other: the messages that it hands out, what is then left of the stream,
-- and at which offset that begins. Behind a message the chunk is given again from what was not taken of it.
pub data Feeds : Splitting → List (List ℕ) → List (List ℕ) → List ℕ → ℕ → Type 0 where
  ends : (s : Splitting) → Feeds s [] [] (pending s) (start s)
  uses : (s : Splitting) (c : List ℕ) (cs ps : List (List ℕ)) (rest : List ℕ) (at : ℕ) → answer s c ≡ next.Unfinished
      → Feeds (given s c) cs ps rest at → Feeds s (c ∷ cs) ps rest at
  hands : (s : Splitting) (c : List ℕ) (cs ps : List (List ℕ)) (rest : List ℕ) (at n : ℕ) → answer s c ≡ next.Message n
      → Feeds (given s c) (drop n c ∷ cs) ps rest at → Feeds s (c ∷ cs) ((given s c).held ∷ ps) rest at
  stops : (s : Splitting) (c : List ℕ) (cs : List (List ℕ)) (e : StreamFault) → answer s c ≡ next.Fault e
      → Feeds s (c ∷ cs) [] (pending s ++ concat (c ∷ cs)) (start s)

-- a stream cut into messages, and what is left of it
pub record IsCut (ch : Channel) (stream : List ℕ) (pieces : List (List ℕ)) (rest : List ℕ) : Type 0 where
  -- nothing is lost, and nothing comes to it
  pub whole : concat pieces ++ rest ≡ stream
  -- each is a message whose header passes
  pub each : AllByRecursion (λ p. is_ok (opening ch p) ≡ true) pieces
  -- and no message stands at the front of what is left
  pub last : (n : ℕ) → front ch rest ≢ message n

pub record OneCut : Type 0 where
  -- whatever chunks a new splitter is given, they are given to an end, and it cuts the stream that they make; what is
  -- left begins where the messages end
  pub fed : (ch : Channel) (cs : List (List ℕ))
      → (ps : List (List ℕ)) × (rest : List ℕ) × (at : ℕ) × Feeds (fresh ch) cs ps rest at
  pub cut : (ch : Channel) (cs ps : List (List ℕ)) (rest : List ℕ) (at : ℕ) → Feeds (fresh ch) cs ps rest at
      → IsCut ch (concat cs) ps rest × (at ≡ later 0 (length (concat ps)))
  -- and a stream is cut in one way only
  pub once : (ch : Channel) (stream : List ℕ) (ps qs : List (List ℕ)) (r q : List ℕ) → IsCut ch stream ps r
      → IsCut ch stream qs q → (ps ≡ qs) × (r ≡ q)
