-- What the changes keep, in words. Assumes nothing.
use Rattle.std.specs.Prelude.{◌≡◌, ℕ, ◌+◌, ◌-◌, ◌<◌, Bool, true, false, not, List, [], ◌∷◌, Some, None, Ok, Err, Option, Result, IfSome, is_some, sum_by}
use Rattle.std.specs.FinMap.{get, insert, len}
use Rattle.std.specs.List.{fold as fold_each, take_while}
use Rattle.std.specs.Option.{option_map}
use Rattle.codes.specs.declared.session.Partition.{Partition}
use Rattle.limits.specs.declared.TheConstants.{ORDERS}
use Rattle.orders.specs.declared.row.Row.{Row}
use Rattle.orders.specs.Rows.{in_force, orderly, status_of}
use Rattle.reports.specs.declared.report.ExecutionReport.{ExecutionReport}
use Rattle.reports.specs.declared.report.Report.TheVariants.{Execution}
use Rattle.reports.specs.declared.standing.Standing.{Standing}
use Rattle.reports.specs.declared.standings.FoldRefusal.{FoldRefusal}
use Rattle.reports.specs.Changes.{stands}
use Rattle.reports.specs.Fold.{Knowledge, fold}
use Rattle.reports.specs.Told.{told_of}
use Rattle.changes.specs.declared.change.Change.{Change}
use Rattle.changes.specs.declared.change.Change.TheVariants.{Accept, Replace, Fill, Undo}
use Rattle.changes.specs.declared.change.Heading.{Heading}
use Rattle.changes.specs.Changes.{after}
use Rattle.changes.specs.Telling.{report_of, restated_of}

-- ---- who folds the reports of a change follows

-- an order as its owner is to know it
abbrev pub standing_of : Partition → Row → Standing
standing_of p r = stands p (status_of r) r.executed r.leaves

-- the reports that tell a change, by the order after it
abbrev pub and_also : ExecutionReport → Option ExecutionReport → List ExecutionReport
and_also e None = e ∷ []
and_also e (Some f) = e ∷ f ∷ []

abbrev pub reports_of : Heading → Change → Row → List ExecutionReport
reports_of t c r = and_also (report_of t c r) (restated_of t c r)

-- one report more, where none was refused before
abbrev pub fold_one : Partition → Result Knowledge FoldRefusal → ExecutionReport → Result Knowledge FoldRefusal
fold_one p (Ok k) e = fold p (told_of (Execution e)) k
fold_one p (Err x) e = Err x

-- reports folded in turn, up to the first that is refused
abbrev pub fold_all : Partition → List ExecutionReport → Result Knowledge FoldRefusal → Result Knowledge FoldRefusal
fold_all p es k = fold_each (fold_one p) k es

-- what an owner knows of an order that is the row b, and has room for one that is none yet
pub record Knows (p : Partition) (n : ℕ) (b : Option Row) (k : Knowledge) : Type 0 where
  pub number : IfSome b (λ r. (r.number ≡ n) × (orderly r ≡ true))
  pub stands : get k n ≡ option_map (standing_of p) b
  pub room : b ≡ None → len k < ORDERS

abbrev pub Follows : Type 0
Follows = (p : Partition) (t : Heading) (n : ℕ) (c : Change) (b : Option Row) (r : Row) (k : Knowledge) →
    Knows p n b k → after n c b ≡ Some r → fold_all p (reports_of t c r) (Ok k) ≡ Ok (insert k n (standing_of p r))

-- ---- what is kept over a list of changes of one order

-- the changes of an order, the newest first, that make a row of it from nothing
abbrev pub Makes : ℕ → List Change → Option Row → Type 0
Makes n [] b = b ≡ None
Makes n (c ∷ cs) b = (a : Option Row) × Makes n cs a × (after n c a ≡ b) × (is_some b ≡ true)

-- how many shares a change fills, and how many it undoes
abbrev pub filled_by : Change → ℕ
filled_by (Fill f) = f.quantity
filled_by c = 0

abbrev pub undone_by : Change → ℕ
undone_by (Undo u) = u.quantity
undone_by c = 0

-- all that was filled, and all of it that was undone
abbrev pub all_filled : List Change → ℕ
all_filled cs = sum_by filled_by cs

abbrev pub all_undone : List Change → ℕ
all_undone cs = sum_by undone_by cs

-- the quantity last accepted, which is the one put in force: of a replace no less than what was executed by then
abbrev pub last_accepted : List Change → ℕ
last_accepted [] = 0
last_accepted (Accept t a ∷ cs) = a.quantity
last_accepted (Replace a ∷ cs) = in_force (all_filled cs - all_undone cs) a.quantity
last_accepted (c ∷ cs) = last_accepted cs

-- whether a change puts a quantity in force
abbrev pub accepts : Change → Bool
accepts (Accept t a) = true
accepts (Replace a) = true
accepts c = false

-- what was undone since
abbrev pub undone_since : List Change → ℕ
undone_since cs = sum_by undone_by (take_while (λ c. not (accepts c)) cs)

pub record Conserved (cs : List Change) (r : Row) : Type 0 where
  pub accepted : last_accepted cs ≡ r.executed + r.leaves + r.withdrawn + undone_since cs
  pub executed : all_filled cs ≡ r.executed + all_undone cs
  pub orderly : orderly r ≡ true

abbrev pub Conserves : Type 0
Conserves = (n : ℕ) (cs : List Change) (r : Row) → Makes n cs (Some r) → Conserved cs r
