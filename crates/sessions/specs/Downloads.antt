-- What a download hands out. Assumes nothing.
use Rattle.std.specs.Prelude.{ℕ, ◌+◌, List, Some, None, Option, nat_le, if◌then◌else◌}
use Rattle.codes.specs.declared.session.Partition.{Partition}
use Rattle.codes.specs.declared.session.ReportResponse.TheVariants.{Complete, MessageLimit}
use Rattle.limits.specs.declared.TheConstants.{DOWNLOADED}
use Rattle.partitions.specs.PerPartition.{at}
use Rattle.reports.specs.declared.report.Entry.{Entry}
use Rattle.sessions.specs.declared.download.Download.{Download}
use Rattle.sessions.specs.declared.download.HandedOut.{HandedOut}
use Rattle.sessions.specs.declared.download.HandedOut.TheVariants.{Report, Ended}
use Rattle.store.specs.Kept.{Kept, next_after}

abbrev pub begun : Partition → ℕ → ℕ → Download
begun p above target = record { partition = p; last = above; target = target; handed = 0 }

-- a number, where it is at most the target
abbrev pub up_to : ℕ → Option ℕ → Option ℕ
up_to target None = None
up_to target (Some n) = if nat_le n target then Some n else None

-- the owner's next report among those of the partition, where one remains
abbrev pub remaining : List Entry → ℕ → Download → Option ℕ
remaining l o d = up_to d.target (next_after l o d.last)

-- it ends where no report remains, and where one remains but 64 were handed out
abbrev pub handed_out : Download → Option ℕ → HandedOut × Option Download
handed_out d None = (Ended Complete, None)
handed_out d (Some n) =
    if nat_le DOWNLOADED d.handed then (Ended MessageLimit, None)
    else (Report d.partition n, Some (record d { last = n; handed = d.handed + 1 }))

-- what the download that runs hands out, and what is left of it
abbrev pub answered : HandedOut × Option Download → Option HandedOut × Option Download
answered (r, rest) = (Some r, rest)

abbrev pub recovered : Kept → ℕ → Option Download → Option HandedOut × Option Download
recovered k o None = (None, None)
recovered k o (Some d) = answered (handed_out d (remaining (at k d.partition) o d))
