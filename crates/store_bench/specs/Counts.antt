-- A made-up day's reports by their owners, and how many are an owner's. Assumes nothing.
use Rattle.std.specs.Prelude.{◌≡◌, ℕ, zero, suc, ◌+◌, ◌%◌, ◌<◌, ◌≤◌, List, length, drop, Some, None, Option, ◌==◌, count_by, fold, sum_by}
use Rattle.std.specs.List.{range_with_len}
use Rattle.codes.specs.declared.session.Partition.{Partition}
use Rattle.codes.specs.declared.session.Partition.TheVariants.{One, Two, Three}
use Rattle.partitions.specs.declared.per_partition.PerPartition.{PerPartition}
use Rattle.partitions.specs.Series.{grown, mapped}
use Rattle.reports.specs.declared.report.Entry.{Entry}
use Rattle.reports.specs.declared.report.Report.{Report}
use Rattle.reports.specs.declared.report.Report.TheVariants.{Execution, CancelReject, MassCancel}
use Rattle.store.specs.Kept.{Kept}

-- the partitions in turn
abbrev pub turn : ℕ → Partition
turn zero = One
turn (suc zero) = Two
turn (suc (suc n)) = Three

-- whose the reports of each partition are
abbrev pub owners : Kept → PerPartition (List ℕ)
owners k = mapped (λ e. e.owner) k

-- the same after the day's first reports: eight owners in turn, three partitions in turn
unfoldable pub filled : ℕ → PerPartition (List ℕ) → PerPartition (List ℕ)
filled n os = fold (λ reports i. grown reports (turn (i % 3)) (i % 8)) os (range_with_len 0 n)

-- the seconds on a report's clock
abbrev pub seconds_of : Report → ℕ
seconds_of (Execution e) = e.time.seconds
seconds_of (CancelReject r) = r.time.seconds
seconds_of (MassCancel r) = r.time.seconds

-- on those of a list, and of all partitions, together
abbrev pub seconds_in : List Entry → ℕ
seconds_in l = sum_by (λ e. seconds_of e.report) l

abbrev pub seconds_of_all : Kept → ℕ
seconds_of_all k = seconds_in k.one + seconds_in k.two + seconds_in k.three

-- how many reports of a list are an owner's
abbrev pub owned : ℕ → List Entry → ℕ
owned o l = count_by (λ e. e.owner == o) l

-- and how many in all partitions
abbrev pub owned_in : ℕ → Kept → ℕ
owned_in o k = owned o k.one + owned o k.two + owned o k.three

-- how many are of the first owners
unfoldable pub owned_below : ℕ → Kept → ℕ
owned_below n k = sum_by (λ o. owned_in o k) (range_with_len 0 n)

-- the next number leaves out no report of the owner
abbrev pub Counts : List Entry → ℕ → ℕ → Option ℕ → Type 0
Counts l o above None = owned o (drop above l) ≡ 0
Counts l o above (Some n) = (above < n) × (n ≤ length l) × (owned o (drop above l) ≡ 1 + owned o (drop n l))
