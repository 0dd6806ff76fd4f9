-- Orders and their open shares by partition. Assumes nothing.
use Rattle.std.specs.List.{sum_by}
use Rattle.std.specs.Option.{option_map_or}
use Rattle.std.specs.Prelude.{ℕ, ◌+◌, ◌*◌, ◌≤◌, Bool, false, ◌&&◌, List, length, filter, slice_get, Some, None, Option, if◌then◌else◌}
use Rattle.codes.specs.Session.{same_partition}
use Rattle.codes.specs.declared.session.Partition.TheVariants.{One, Two, Three}
use Rattle.codes.specs.declared.session.Partition.{Partition}
use Rattle.configuration.specs.declared.instrument.Instrument.{Instrument}
use Rattle.gateway.specs.declared.preview.Going.{Going}
use Rattle.limits.specs.declared.TheConstants.{ORDERS, SHARES}
use Rattle.orders.specs.declared.row.Row.{Row}
use Rattle.partitions.specs.PerPartition.{at, with_at}
use Rattle.partitions.specs.declared.per_partition.PerPartition.{PerPartition}

-- an instrument, if it is there, of a partition
abbrev pub is_in : Partition → Option Instrument → Bool
is_in p o = option_map_or (λ i. same_partition i.partition p) o false

-- the orders of a partition of which q is true
abbrev pub among : (Row → Bool) → List Instrument → List Row → Partition → List Row
among q is rows p = filter (λ r. q r && is_in p (slice_get is r.terms.instrument)) rows

-- how many they are, and how many shares are open of them
abbrev pub going_in : (Row → Bool) → List Instrument → List Row → Partition → Going
going_in q is rows p = record {
  orders = length (among q is rows p);
  shares = sum_by (λ (r : Row). r.leaves) (among q is rows p);
}

abbrev pub going_of : (Row → Bool) → List Instrument → List Row → PerPartition Going
going_of q is rows =
    record { one = going_in q is rows One; two = going_in q is rows Two; three = going_in q is rows Three }

-- with one order more, of so many shares and such an instrument, if it is there
abbrev pub more : ℕ → Going → Going
more shares g = record { orders = g.orders + 1; shares = g.shares + shares }

abbrev pub counted_in : Option Instrument → ℕ → PerPartition Going → PerPartition Going
counted_in None shares g = g
counted_in (Some i) shares g = with_at g i.partition (more shares (at g i.partition))

abbrev pub counted : (Row → Bool) → List Instrument → Option Row → PerPartition Going → PerPartition Going
counted q is None g = g
counted q is (Some r) g = if q r then counted_in (slice_get is r.terms.instrument) r.leaves g else g

-- no more than a day has
abbrev pub Few : PerPartition Going → Type 0
Few g = (p : Partition) → ((at g p).orders ≤ ORDERS) × ((at g p).shares ≤ ORDERS * SHARES)
