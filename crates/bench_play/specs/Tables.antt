-- What both ends show of an order and of a partition, and of what a mass cancel would take. Assumes nothing.
use Rattle.std.specs.Prelude.{ℕ, ◌-◌, length}
use Rattle.std.specs.FinMap.{get}
use Rattle.bench_play.specs.declared.tables.Look.{Look}
use Rattle.bench_play.specs.declared.tables.Look.TheVariants as look
use Rattle.bench_play.specs.declared.tables.Shown.{Shown}
use Rattle.bench_play.specs.declared.tables.Shown.TheVariants as shown
use Rattle.follower.specs.Following.{Following}
use Rattle.bench_account.specs.declared.listing.Progress.{Progress}
use Rattle.bench_account.specs.declared.listing.Progress.TheVariants as progress
use Rattle.follower.specs.declared.side.State.{State as Standing}
use Rattle.follower.specs.declared.side.State.TheVariants.{Level, Behind, Overrun}
use Rattle.gateway.specs.Previews.{previewed}
use Rattle.gateway.specs.State.{State}
use Rattle.keyed.specs.Numbers.{under}
use Rattle.orders.specs.Tables.{open_count}
use Rattle.partitions.specs.PerPartition.{at}

-- a partition's state, as it is shown
abbrev pub progress_of : Standing → Progress
progress_of Level = progress.Level
progress_of (Behind hs) = progress.Behind (length hs)
progress_of (Overrun n) = progress.Overrun n

-- where so many places are free
abbrev pub answer : Look → State → ℕ → Following → Shown
answer (look.Order n) s free f = shown.Order (under s.venue.rows n) (get f.standings n)
answer (look.Partition p) s free f =
    let side = at f.sides p in shown.Partition side.place (progress_of side.state)
answer (look.Preview line bs) s free f =
    shown.Preview (previewed line bs.items (free - open_count s.venue.rows) s)
