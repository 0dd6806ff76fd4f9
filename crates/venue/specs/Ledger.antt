-- What the reports in a store say of the orders. Assumes nothing.
use Rattle.std.specs.Prelude.{◌≡◌, ℕ, ◌+◌, ◌<◌, ◌≤◌, true, ◌&&◌, List, [], ◌∷◌, ◌++◌, length, map, Some, None, Ok, Err, Option, Result, ◌==◌, slice_get, if◌then◌else◌}
use Rattle.std.specs.List.{fold as fold_each}
use Rattle.std.specs.FinMap.{get, len}
use Rattle.std.specs.Option.{option_map_or}
use Rattle.codes.specs.declared.session.Partition.{Partition}
use Rattle.codes.specs.Session.{same_partition}
use Rattle.texts.specs.declared.values.Time.{Time}
use Rattle.keyed.specs.Numbers.{under, put_under}
use Rattle.orders.specs.declared.row.Row.{Row}
use Rattle.orders.specs.declared.row.Terms.{Terms}
use Rattle.orders.specs.declared.row.Ask.{Ask}
use Rattle.orders.specs.declared.row.Ending.TheVariants.{Expired}
use Rattle.orders.specs.Rows.{accepted}
use Rattle.orders.specs.Kept.{kept_from}
use Rattle.partitions.specs.PerPartition.{at}
use Rattle.partitions.specs.Series.{grown}
use Rattle.reports.specs.declared.report.Entry.{Entry}
use Rattle.reports.specs.declared.report.ExecutionReport.{ExecutionReport}
use Rattle.reports.specs.declared.report.Report.TheVariants.{Execution}
use Rattle.reports.specs.declared.standing.Standing.{Standing}
use Rattle.reports.specs.declared.standings.FoldRefusal.{FoldRefusal}
use Rattle.reports.specs.Fold.{Knowledge, nothing_known, fold}
use Rattle.reports.specs.Told.{told_of}
use Rattle.reports.specs.Tally.{tally}
use Rattle.store.specs.Kept.{Kept}
use Rattle.changes.specs.declared.change.Change.{Change}
use Rattle.changes.specs.declared.change.Change.TheVariants.{Accept, Replace, Withdraw, Fill, Undo}
use Rattle.changes.specs.declared.change.Heading.{Heading}
use Rattle.changes.specs.Changes.{after}
use Rattle.changes.specs.Laws.{standing_of, reports_of}
use Rattle.configuration.specs.declared.instrument.Instrument.{Instrument}

-- ---- telling a change

-- reports for an owner
abbrev pub entries_of : ℕ → List ExecutionReport → List Entry
entries_of o es = map (λ (e : ExecutionReport). record { owner = o; report = Execution e }) es

-- more reports in a partition, in their order
abbrev pub appended : Kept → Partition → List Entry → Kept
appended k p es = fold_each (λ j e. grown j p e) k es

abbrev pub told_at : Instrument → Time → Heading
told_at i t = record { symbol = i.symbol; time = t }

-- a change is told to the order's owner, in the partition of its instrument
abbrev pub told_in : Time → Change → Row → Option Instrument → Kept → Kept
told_in t c r None k = k
told_in t c r (Some i) k = appended k i.partition (entries_of r.terms.owner (reports_of (told_at i t) c r))

-- the rows of the orders, and the reports that tell them
pub record Ledger : Type 0 where
  pub rows : List Row
  pub kept : Kept

abbrev pub ledger : List Row → Kept → Ledger
ledger rows kept = record { rows = rows; kept = kept }

-- a row in the place of the row of its number, and the change that made it told
abbrev pub rewritten : List Instrument → Time → ℕ → Change → Option Row → Ledger → Ledger
rewritten is t n c None l = l
rewritten is t n c (Some r) l =
    ledger (put_under l.rows n r) (told_in t c r (slice_get is r.terms.instrument) l.kept)

-- a change of the order of a number; nothing, where it may not be made
abbrev pub changed : List Instrument → Time → ℕ → Change → Ledger → Ledger
changed is t n c l = rewritten is t n c (after n c (under l.rows n)) l

-- an open order that ends at nobody's request, under the client order id that it has
abbrev pub expired_as : List Instrument → Time → ℕ → Option Row → Ledger → Ledger
expired_as is t n None l = l
expired_as is t n (Some r) l = changed is t n (Withdraw Expired r.client) l

abbrev pub expired : List Instrument → Time → ℕ → Ledger → Ledger
expired is t n l = expired_as is t n (under l.rows n) l

-- a new row, and the change that made it told
abbrev pub added : List Instrument → Time → Change → Row → Ledger → Ledger
added is t c r l = ledger (l.rows ++ r ∷ []) (told_in t c r (slice_get is r.terms.instrument) l.kept)

-- a new order under the next number
abbrev pub entered : List Instrument → Time → Terms → Ask → Ledger → Ledger
entered is t s a l = added is t (Accept s a) (accepted (length l.rows + 1) s a) l

-- how many reports tell a change
abbrev pub report_count : Change → ℕ
report_count (Accept s a) = 1
report_count (Replace a) = 1
report_count (Withdraw e c) = 1
report_count (Fill f) = 1
report_count (Undo u) = 2

-- the number of the next report in the partition of an order
abbrev pub next_in : Option Instrument → Kept → ℕ
next_in o k = option_map_or (λ i. length (at k i.partition) + 1) o 0

abbrev pub next_told : List Instrument → Option Row → Kept → ℕ
next_told is o k = option_map_or (λ r. next_in (slice_get is r.terms.instrument) k) o 0

abbrev pub next_report : List Instrument → ℕ → Ledger → ℕ
next_report is n l = next_told is (under l.rows n) l.kept

-- at most so many places are used
abbrev pub Uses : ℕ → ℕ → ℕ → Type 0
Uses most free free' = (free' ≤ free) × (free ≤ free' + most)

-- ---- what an owner is to know

-- what an owner is to know in a partition of a row with such an instrument: nothing of an order that is
-- another's, or is told elsewhere
abbrev pub standing_in : ℕ → Partition → Row → Option Instrument → Option Standing
standing_in o p r None = None
standing_in o p r (Some i) =
    if r.terms.owner == o && same_partition i.partition p then Some (standing_of p r) else None

abbrev pub standing : List Instrument → ℕ → Partition → Option Row → Option Standing
standing is o p None = None
standing is o p (Some r) = standing_in o p r (slice_get is r.terms.instrument)

-- all reports of an owner in a partition, folded in turn up to the first that is refused
abbrev pub told_one : Partition → ℕ → Result Knowledge FoldRefusal → Entry → Result Knowledge FoldRefusal
told_one p o (Err x) e = Err x
told_one p o (Ok k) e = if e.owner == o then fold p (told_of e.report) k else Ok k

abbrev pub all_told : Partition → ℕ → List Entry → Result Knowledge FoldRefusal
all_told p o l = fold_each (told_one p o) (Ok nothing_known) l

-- for each owner and partition, the reports say of each order where it stands
pub record Recorded (is : List Instrument) (rows : List Row) (kept : Kept) : Type 0 where
  -- each row has its number, and its figures agree
  pub numbered : kept_from 1 rows ≡ true
  -- each row's instrument is among the instruments
  pub placed : (n : ℕ) (r : Row) → under rows n ≡ Some r → r.terms.instrument < length is
  -- no report is refused by whoever folds them
  pub unrefused : (o : ℕ) (p : Partition) → all_told p o (at kept p) ≡ Ok (tally p o (at kept p))
  pub tallied : (o : ℕ) (p : Partition) (n : ℕ)
      → get (tally p o (at kept p)) n ≡ standing is o p (under rows n)
  pub room : (o : ℕ) (p : Partition) → len (tally p o (at kept p)) ≤ length rows
