-- What a desk says of its follower, and what is said of a mass cancel that would be sent. Assumes nothing.
use Rattle.std.specs.Prelude.{ℕ, Some, None, Option, ◌==◌, if◌then◌else◌}
use Rattle.std.specs.Option.{option_map}
use Rattle.codes.specs.Report.{status_code}
use Rattle.codes.specs.Session.{partition_code}
use Rattle.codes.specs.declared.session.Partition.{Partition}
use Rattle.reports.specs.declared.standing.Standing.{Standing}
use Rattle.bench_play.specs.declared.tables.Shown.{Shown}
use Rattle.bench_play.specs.declared.tables.Shown.TheVariants as shown
use Rattle.follower.specs.declared.side.Side.{Side}
use Rattle.bench_play.specs.Tables.{progress_of}
use Rattle.bench_account.specs.declared.listing.Progress.TheVariants.{Behind}
use Rattle.orders.specs.Rows.{status_of}
use Rattle.orders.specs.declared.row.Row.{Row}
use Rattle.bench_account.specs.declared.answer.Answer.{Answer}
use Rattle.bench_account.specs.declared.answer.Answer.TheVariants as answer
use Rattle.bench_account.specs.declared.compared.Compared.{Compared}
use Rattle.bench_account.specs.declared.compared.Seen.{Seen}
use Rattle.bench_account.specs.declared.listing.Place.{Place}
use Rattle.bench_account.specs.declared.listing.Preview.{Preview}
use Rattle.bench_account.specs.declared.listing.Taken.{Taken}
use Rattle.gateway.specs.Previews.{preview_number, preview_offset}
use Rattle.gateway.specs.declared.preview.Going.{Going}
use Rattle.gateway.specs.declared.preview.PreviewFault.{PreviewFault}
use Rattle.partitions.specs.declared.per_partition.PerPartition.{PerPartition}

-- an order as the follower knows it
abbrev pub seen_as : Standing → Seen
seen_as s = record { status = status_code s.status; executed = s.executed; leaves = s.leaves }

-- an order on both sides
abbrev pub compared_of : Row → Option Standing → Compared
compared_of r o = record {
  number = r.number;
  gateway = record { status = status_code (status_of r); executed = r.executed; leaves = r.leaves };
  follower = option_map seen_as o;
}

-- where it is one of the line's CompID
abbrev pub hers_of : ℕ → Option Row → Option Standing → Option (Row × Compared)
hers_of line None o = None
hers_of line (Some r) o = if r.terms.owner == line then Some (r, compared_of r o) else None

-- how far it is in a partition
abbrev pub place_of : Partition → Side → Place
place_of p s = record {
  partition = partition_code p;
  number = s.place;
  progress = progress_of s.state;
}

-- by what both ends show of it; of anything else they show no place
abbrev pub place_shown : Partition → Shown → Place
place_shown p (shown.Partition n progress) = record { partition = partition_code p; number = n; progress = progress }
place_shown p (shown.Order r o) = record { partition = partition_code p; number = 0; progress = Behind 0 }
place_shown p (shown.Preview r) = record { partition = partition_code p; number = 0; progress = Behind 0 }

-- what a mass cancel would take, by partition
abbrev pub taken_shown : Going → Taken
taken_shown g = record { orders = g.orders; shares = g.shares }

abbrev pub preview_shown : PerPartition Going → Preview
preview_shown g = record { one = taken_shown g.one; two = taken_shown g.two; three = taken_shown g.three }

-- or why it would be refused
abbrev pub fault_by : Option ℕ → ℕ → Answer
fault_by (Some at) n = answer.RefusedAt n at
fault_by None n = answer.Refused n

abbrev pub fault_shown : PreviewFault → Answer
fault_shown f = fault_by (preview_offset f) (preview_number f)
