-- A buffer that is written from its start on: what was appended, and the bytes and the places that this left. Assumes
-- nothing.
use Rattle.std.specs.Prelude.{◌≡◌, ℕ, ◌+◌, ◌++◌, ◌∷◌, [], List, length}
use Rattle.codes.specs.declared.session.Partition.{Partition}
use Rattle.partitions.specs.declared.per_partition.PerPartition.{PerPartition}
use Rattle.partitions.specs.PerPartition.{at, for_each}
use Rattle.partitions.specs.Series.{grown}
use Rattle.reports.specs.declared.report.Entry.{Entry}
use Rattle.reports.specs.declared.report.Report.{Report}
use Rattle.store.specs.Kept.{Kept, empty}
use Rattle.byte_store.specs.declared.buffered.Place.{Place}

-- an entry that was appended, with its partition
pub record Appended : Type 0 where
  pub partition : Partition
  pub entry : Entry

-- what is kept after a log, which begins with what was appended last
abbrev pub entries_of : List Appended → Kept
entries_of [] = empty
entries_of (x ∷ log) = grown (entries_of log) x.partition x.entry

-- over the bytes of a report under its number in a partition
module _ (coded : Partition → ℕ → Report → List ℕ) where
  -- those of what is appended behind a log, under its partition's next number
  abbrev pub message_of : Appended → List Appended → List ℕ
  message_of x log = coded x.partition (length (at (entries_of log) x.partition) + 1) x.entry.report

  -- those of a whole log, one message behind another, with nothing between them
  abbrev pub bytes_of : List Appended → List ℕ
  bytes_of [] = []
  bytes_of (x ∷ log) = bytes_of log ++ message_of x log

  -- where the messages stand
  abbrev pub places_of : List Appended → PerPartition (List Place)
  places_of [] = for_each []
  places_of (x ∷ log) = grown (places_of log) x.partition
      (record { owner = x.entry.owner; start = length (bytes_of log); len = length (message_of x log) })

  -- bytes, places and what is kept are those of one log
  abbrev pub IsLog : List ℕ → PerPartition (List Place) → Kept → Type 0
  IsLog bytes places kept =
      (log : List Appended) × (bytes ≡ bytes_of log) × (places ≡ places_of log) × (kept ≡ entries_of log)

  -- bytes are the messages of all that is kept, one behind another in the order in which they were appended
  abbrev pub Messages : Kept → List ℕ → Type 0
  Messages kept bytes = ∥ ((log : List Appended) × (kept ≡ entries_of log) × (bytes ≡ bytes_of log)) ∥₁
