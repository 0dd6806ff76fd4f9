-- Folding the reports of a partition into what is known. Assumes nothing.
use Rattle.std.specs.Prelude.{◌≡◌, ℕ, List, Some, None, Ok, Err, Option, Result, nat_le, if◌then◌else◌}
use Rattle.std.specs.List.{fold as fold_each}
use Rattle.codes.specs.declared.session.Partition.{Partition}
use Rattle.reports.specs.Fold.{Knowledge, fold}
use Rattle.reports.specs.declared.standings.FoldRefusal.{FoldRefusal}
use Rattle.follower.specs.declared.heard.NumberedReport.{NumberedReport}
use Rattle.follower.specs.Numbers.{number_of}

-- what is known, and the place in a partition
pub record Reached : Type 0 where
  pub known : Knowledge
  pub place : ℕ

abbrev pub reached : Knowledge → ℕ → Reached
reached k n = record { known = k; place = n }

-- what is folded moves the place to its number
abbrev pub moved : ℕ → Result Knowledge FoldRefusal → Result Reached FoldRefusal
moved n (Ok k) = Ok (reached k n)
moved n (Err e) = Err e

-- a report at or below the place is there already; any other is folded
abbrev pub caught_one : Partition → Reached → NumberedReport → Result Reached FoldRefusal
caught_one p r h = if nat_le (number_of h) r.place then Ok r else moved (number_of h) (fold p h.told r.known)

-- the same of a report that may be there
abbrev pub caught_at : Partition → Reached → Option NumberedReport → Result Reached FoldRefusal
caught_at p r None = Ok r
caught_at p r (Some h) = caught_one p r h

abbrev pub caught_next : Partition → Result Reached FoldRefusal → NumberedReport → Result Reached FoldRefusal
caught_next p (Ok r) h = caught_one p r h
caught_next p (Err e) h = Err e

-- a list of reports, each in turn; the first that is refused ends it
abbrev pub caught_up : Partition → Reached → List NumberedReport → Result Reached FoldRefusal
caught_up p r hs = fold_each (caught_next p) (Ok r) hs

-- a call that folds reports, and says the place that is reached
abbrev pub FoldsTo : Result Reached FoldRefusal → Result ℕ FoldRefusal → Knowledge → Type 0
FoldsTo out (Ok n) k = out ≡ Ok (reached k n)
FoldsTo out (Err e) k = out ≡ Err e
