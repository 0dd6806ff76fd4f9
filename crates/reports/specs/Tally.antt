-- What a CompID's reports of a partition say of its orders, up to a number. Assumes nothing.
use Rattle.std.specs.Prelude.{ℕ, Bool, false, List, take, Option, ◌==◌, filter, if◌then◌else◌}
use Rattle.std.specs.List.{fold as fold_each}
use Rattle.std.specs.Result.{result_unwrap_or}
use Rattle.std.specs.Option.{option_map_or}
use Rattle.codes.specs.declared.session.Partition.{Partition}
use Rattle.reports.specs.declared.report.Entry.{Entry}
use Rattle.reports.specs.Told.{told_of}
use Rattle.reports.specs.Fold.{Knowledge, nothing_known, fold}

-- whether there is a report, and it is the owner's
abbrev pub is_of : ℕ → Option Entry → Bool
is_of o x = option_map_or (λ e. e.owner == o) x false

-- one report more; another owner's changes nothing, and neither does one that the fold refuses
abbrev pub tally_one : Partition → ℕ → Knowledge → Entry → Knowledge
tally_one p o k e = if e.owner == o then result_unwrap_or (fold p (told_of e.report) k) k else k

-- all reports of a partition, in turn
abbrev pub tally : Partition → ℕ → List Entry → Knowledge
tally p o l = fold_each (tally_one p o) nothing_known l

-- the reports up to a number
abbrev pub tally_to : Partition → ℕ → List Entry → ℕ → Knowledge
tally_to p o l n = tally p o (take n l)

-- the owner's own reports
abbrev pub own : ℕ → List Entry → List Entry
own o l = filter (λ e. e.owner == o) l
