-- Whether both ends of a line agree, partition by partition. Assumes nothing.
use Rattle.std.specs.Prelude.{ℕ, Bool, ◌&&◌, ◌==◌, if◌then◌else◌, not, List, ◌++◌, length, Some, None, Option, codes, decimal}
use Rattle.std.specs.List.{list_all}
use Rattle.std.specs.Option.{unwrap_or}
use Rattle.bench_account.specs.declared.compared.Compared.{Compared}
use Rattle.bench_account.specs.declared.verdict.Part.{Part}
use Rattle.bench_account.specs.declared.verdict.Verdict.{Verdict}
use Rattle.bench_account.specs.declared.verdict.Verdict.TheVariants as verdict
use Rattle.bench_account.specs.Comparisons.{agree}
use Rattle.bench_account.specs.Listings.{is_level}

abbrev pub all_agree : List Compared → Bool
all_agree orders = list_all (λ o. agree o.gateway o.follower) orders

-- the follower knows as many orders as the gateway has, and each of the gateway's with the same figures
abbrev pub is_even : Part → Bool
is_even p = (p.known == length p.orders.now) && all_agree p.orders.now

abbrev pub trouble_of : Part → Option Verdict
trouble_of p =
    if not (is_level p.place.progress) then Some (verdict.Behind p.place.partition)
    else if not (is_even p) then Some (verdict.Differ p.place.partition) else None

-- the first trouble, or else what is said where there is none

abbrev pub verdict_of : Part → Part → Part → Verdict
verdict_of one two three =
    unwrap_or (trouble_of one) (unwrap_or (trouble_of two) (unwrap_or (trouble_of three) verdict.Agree))

abbrev pub verdict_text : Verdict → List ℕ
verdict_text verdict.Agree = codes "yes"
verdict_text verdict.NoLine = codes "no: the line is not up again"
verdict_text (verdict.Behind p) = codes "no: partition " ++ (decimal p ++ codes " is not level")
verdict_text (verdict.Differ p) = codes "no: partition " ++ (decimal p ++ codes " differs")
