-- Entries as parts of a buffer. Assumes nothing.
use Rattle.std.specs.Prelude.{◌≡◌, ℕ, ◌+◌, ◌-◌, ◌/◌, min, Bool, true, List, take, drop, nat_le}
use Rattle.std.specs.List.{list_all}
use Rattle.codes.specs.declared.session.Partition.{Partition}
use Rattle.limits.specs.declared.TheConstants.{MESSAGE_BYTES, REPORTS}
use Rattle.partitions.specs.declared.per_partition.PerPartition.{PerPartition}
use Rattle.partitions.specs.PerPartition.{at}
use Rattle.reports.specs.declared.report.Entry.{Entry}
use Rattle.reports.specs.declared.report.Report.{Report}
use Rattle.byte_store.specs.declared.buffered.Place.{Place}

-- the bytes at a place
abbrev pub part : List ℕ → Place → List ℕ
part buffer p = take p.len (drop p.start buffer)

abbrev pub filed : ℕ → Report → Entry
filed o r = record { owner = o; report = r }

-- the entry at a place
abbrev pub entry_in : (List ℕ → Report) → List ℕ → Place → Entry
entry_in decoded buffer p = filed p.owner (decoded (part buffer p))

-- places that lie within so many bytes
abbrev pub all_within : ℕ → List Place → Bool
all_within n ps = list_all (λ p. nat_le (p.start + p.len) n) ps

-- the places of each partition do
abbrev pub Within : ℕ → PerPartition (List Place) → Type 0
Within n ps = (p : Partition) → all_within n (at ps p) ≡ true

-- free places: what the free bytes have room for, and no more than 16,384 reports in all
abbrev pub free_places : ℕ → ℕ → ℕ → ℕ
free_places size used count = min ((size - used) / MESSAGE_BYTES) (REPORTS - count)
