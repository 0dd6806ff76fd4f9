-- To whom a change is told. Assumes nothing.
use Rattle.std.specs.Prelude.{◌≡◌, ℕ, List, ◌++◌, Some}
use Rattle.codes.specs.declared.session.Partition.{Partition}
use Rattle.configuration.specs.declared.instrument.Instrument.{Instrument}
use Rattle.texts.specs.declared.values.Time.{Time}
use Rattle.keyed.specs.Numbers.{under}
use Rattle.orders.specs.declared.row.Row.{Row}
use Rattle.orders.specs.declared.row.Terms.{Terms}
use Rattle.orders.specs.declared.row.Ask.{Ask}
use Rattle.partitions.specs.PerPartition.{at}
use Rattle.reports.specs.declared.report.ExecutionReport.{ExecutionReport}
use Rattle.store.specs.Kept.{Kept}
use Rattle.changes.specs.declared.change.Change.{Change}
use Rattle.venue.specs.Ledger.{Ledger, Recorded, changed, entered, entries_of}

-- in each partition what was told stays, and what is new is told to one owner
abbrev pub TellsOnly : ℕ → Kept → Kept → Type 0
TellsOnly o k w = (p : Partition) → (es : List ExecutionReport) × (at w p ≡ at k p ++ entries_of o es)

-- a change of an order is told to the order's owner alone
abbrev pub ChangesTellOwners : Type 0
ChangesTellOwners =
    (is : List Instrument) (t : Time) (n : ℕ) (c : Change) (l : Ledger) (b : Row) → Recorded is l.rows l.kept
    → under l.rows n ≡ Some b → TellsOnly b.terms.owner l.kept (changed is t n c l).kept

-- and so is a new order
abbrev pub EntriesTellOwners : Type 0
EntriesTellOwners =
    (is : List Instrument) (t : Time) (s : Terms) (a : Ask) (l : Ledger)
    → TellsOnly s.owner l.kept (entered is t s a l).kept
