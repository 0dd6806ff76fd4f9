-- Which download is owed, and what becomes of its token. Assumes nothing.
use Rattle.std.specs.Prelude.{◌≡◌, ℕ, ◌+◌, ◌≤◌, ◌⊎◌, Some, None, Option}
use Rattle.codes.specs.declared.session.Partition.{Partition}
use Rattle.follower.specs.declared.pending.Pending.{Pending}
use Rattle.follower.specs.declared.pending.Pending.TheVariants as pending
use Rattle.follower.specs.declared.stage.Stage.{Stage}
use Rattle.follower.specs.declared.stage.Stage.TheVariants as stage
use Rattle.follower.specs.Following.{Following, download_of}

-- the partition of the download that a token stands for
abbrev pub owed : Pending → Option Partition
owed pending.Idle = None
owed (pending.Owed d) = Some d.partition

-- the token of a download of a partition
abbrev pub owing : Partition → Pending
owing p = pending.Owed (record { partition = p })

-- the partition of the download that is asked, or that runs
abbrev pub awaited : Stage → Option Partition
awaited stage.Idle = None
awaited (stage.Asked p) = Some p
awaited (stage.Running p) = Some p

-- the token after a call, by what is awaited before it and after it: made where the call began a download, spent where
-- it ended one, and otherwise given back as it was, whosever it is
abbrev pub handed : Option Partition → Option Partition → Pending → Pending
handed None (Some p) t = owing p
handed (Some p) None t = pending.Idle
handed None None t = t
handed (Some p) (Some q) t = t

-- the same, by the follower before the call and after it
abbrev pub token_after : Following → Following → Pending → Pending
token_after f g t = handed (awaited (download_of f)) (awaited (download_of g)) t

-- a call that begins no download: what is awaited before it is still awaited, or no more
abbrev pub BeginsNone : Following → Following → Type 0
BeginsNone f g = (awaited (download_of g) ≡ awaited (download_of f)) ⊎ (awaited (download_of g) ≡ None)

-- a token is owed exactly where a download is asked or runs, and it is of that partition
abbrev pub Tied : Pending → Following → Type 0
Tied t f = owed t ≡ awaited (download_of f)

-- how many there are of what there is one of or none
abbrev pub count : Option Partition → ℕ
count None = 0
count (Some p) = 1

-- from token t and follower f to token u and follower g, what is owed falls by no more than what is awaited does: so no
-- fewer tokens are owed than downloads are awaited, whosever they are
abbrev pub Covers : Pending → Following → Pending → Following → Type 0
Covers t f u g = count (owed t) + count (awaited (download_of g)) ≤ count (owed u) + count (awaited (download_of f))
