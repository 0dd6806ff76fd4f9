-- What a list of known orders says. Assumes nothing.
use Rattle.std.specs.Prelude.{ℕ, Bool, List}
use Rattle.std.specs.FinMap.{FinMap}
use Rattle.std.specs.Ordering.{nat_cmp}
use Rattle.keyed.specs.Look.{keyed, Distinct, distinct}
use Rattle.reports.specs.declared.standing.Standing.{Standing}
use Rattle.reports.specs.declared.standings.Known.{Known}

abbrev pub number_of : Known → ℕ
number_of k = k.number

abbrev pub standing_of : Known → Standing
standing_of k = k.standing

-- where each order stands
abbrev pub known : List Known → FinMap nat_cmp Standing
known ks = keyed number_of standing_of ks

-- no two have one number
abbrev pub Once : List Known → Type 0
Once ks = Distinct number_of standing_of ks

-- the same as a test
abbrev pub each_once : List Known → Bool
each_once ks = distinct number_of standing_of ks
