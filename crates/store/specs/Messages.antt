-- The messages of a store's reports: their bytes, and what a follower reads from them. Assumes nothing.
use Rattle.std.specs.Prelude.{ℕ, List, [], Some, None, Option}
use Rattle.std.specs.Option.{option_map_or}
use Rattle.codes.specs.declared.session.Partition.{Partition}
use Rattle.keyed.specs.Numbers.{under}
use Rattle.partitions.specs.PerPartition.{at}
use Rattle.reports.specs.declared.report.Entry.{Entry}
use Rattle.report_messages.specs.Telling.{report_bytes}
use Rattle.report_messages.specs.Told.{ReportTold}
use Rattle.store.specs.Kept.{Kept}

abbrev pub entry_bytes : Partition → ℕ → Option Entry → List ℕ
entry_bytes p n o = option_map_or (λ e. report_bytes p n e.report) o []

-- the bytes of a report, by its partition and number
abbrev pub stored_bytes : Kept → Partition → ℕ → List ℕ
stored_bytes k p n = entry_bytes p n (under (at k p) n)

-- a report, if it is there, is read from its bytes under its partition and number
abbrev pub EntryTold : Partition → ℕ → Option Entry → Type 0
EntryTold p n None = Unit {0}
EntryTold p n (Some e) = ReportTold p n e.report

abbrev pub StoredTold : Kept → Partition → ℕ → Type 0
StoredTold k p n = EntryTold p n (under (at k p) n)
