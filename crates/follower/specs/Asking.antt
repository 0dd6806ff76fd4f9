-- Asking for a download. Assumes nothing.
use Rattle.std.specs.Prelude.{◌≡◌, ℕ, pos, Bool, true, false, List, [], ◌∷◌, ◌++◌, length, drop, Some, None, Ok, Err, Option, Result, ◌==◌, nat_lt, find, if◌then◌else◌}
use Rattle.codes.specs.Session.{partitions, partition_code}
use Rattle.codes.specs.declared.session.Partition.{Partition}
use Rattle.partitions.specs.PerPartition.{at}
use Rattle.layout.specs.Layout.Content.{figure, int8}
use Rattle.layout.specs.Writing.{header, encode}
use Rattle.wire.specs.declared.kinds.Channel.TheVariants.{Recovery}
use Rattle.wire.specs.declared.kinds.Kind.TheVariants.{MissedMessageRequest as Request}
use Rattle.wire.specs.declared.message.Message.{Message}
use Rattle.wire.specs.declared.message.Message.TheVariants as message
use Rattle.wire.specs.Kinds.{letter_of, total_of, table_of}
use Rattle.wire.specs.Messages.{verdict, Reads}
use Rattle.follower.specs.declared.fault.FollowerFault.{FollowerFault}
use Rattle.follower.specs.declared.fault.FollowerFault.TheVariants as fault
use Rattle.follower.specs.declared.pending.Pending.{Pending}
use Rattle.wire.specs.declared.message.TheConstants.{BUFFER}
use Rattle.follower.specs.declared.line.Line.TheVariants.{Up}
use Rattle.follower.specs.declared.stage.Stage.{Stage}
use Rattle.follower.specs.declared.stage.Stage.TheVariants.{Idle, Asked, Running}
use Rattle.follower.specs.Following.{Following, is_up, download_of}
use Rattle.follower.specs.Owing.{owed}

-- the bytes of the request for a partition's reports above a number
unfoldable pub request : Partition → ℕ → List ℕ
request p n =
    header (letter_of Request) (total_of Request)
    ++ encode (table_of Request) (int8 (pos (partition_code p)) ∷ figure n ∷ [])

-- a message that asks for them
abbrev pub IsRequest : Partition → ℕ → Message → Type 0
IsRequest p n (message.MissedMessageRequest m) = (m.partition ≡ pos (partition_code p)) × (m.last.value ≡ n)
IsRequest p n m = ⊥

-- the gateway's reader takes those bytes, and reads just that request
pub record ReadBack (p : Partition) (n : ℕ) : Type 0 where
  pub taken : verdict Recovery (request p n) ≡ None
  pub read : (m : Message) → Reads Recovery (request p n) m → IsRequest p n m

-- the partition that a number names
abbrev pub partition_of : ℕ → Option Partition
partition_of n = find (λ p. partition_code p == n) partitions

-- whether no download is asked or runs, and none is owed
abbrev pub is_free : Stage → Option Partition → Bool
is_free Idle None = true
is_free Idle (Some p) = false
is_free (Asked q) o = false
is_free (Running q) o = false

abbrev pub asking_of : Following → Pending → Option Partition → Result Partition FollowerFault
asking_of f t None = Err fault.Partition
asking_of f t (Some p) = if is_free (download_of f) (owed t) then Ok p else Err fault.OutOfTurn

-- the partition to ask of, or the first check that fails
abbrev pub asking : Following → Pending → ℕ → ℕ → Result Partition FollowerFault
asking f t n room =
    if nat_lt room BUFFER then Err fault.Buffer
    else if is_up f then asking_of f t (partition_of n)
    else Err fault.NotUp

-- what asking answers, and what it leaves of the follower and the buffer
pub record Asks : Type 0 where
  pub answer : Result ℕ FollowerFault
  pub after : Following
  pub out : List ℕ

abbrev pub asks_of : Following → Pending → List ℕ → Result Partition FollowerFault → Asks
asks_of f t out (Err e) = record { answer = Err e; after = f; out = out }
asks_of f t out (Ok p) = record {
  answer = Ok (total_of Request);
  after = record f { line = Up (Asked p) };
  out = request p (at f.sides p).place ++ drop (total_of Request) out;
}

abbrev pub asks : Following → Pending → ℕ → List ℕ → Asks
asks f t n out = asks_of f t out (asking f t n (length out))
