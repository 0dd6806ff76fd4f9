-- What is kept is told, also as it grows. Assumes nothing.
use Rattle.std.proofs.Common.{◌≡◌, ℕ, zero, suc, ◌+◌, ◌≤◌, List, [], ◌∷◌, ◌++◌, length, Some, None, Option, sym, ap, subst, arith}
use Rattle.std.specs.List.{slice_get}
use Rattle.std.specs.Option.{option_map}
use Rattle.std.proofs.Math.Logic.{∥∥₁_map}
use Rattle.codes.specs.declared.session.Partition.{Partition}
use Rattle.codes.specs.declared.session.Partition.TheVariants.{One, Two, Three}
use Rattle.keyed.specs.Numbers.{under}
use Rattle.limits.specs.declared.TheConstants.{MESSAGE_BYTES}
use Rattle.partitions.specs.PerPartition.{at}
use Rattle.partitions.specs.Series.{grown}
use Rattle.report_messages.specs.Telling.{report_bytes}
use Rattle.report_messages.specs.Told.{ReportTold}
use Rattle.report_messages.proofs.Known.{told_again, told_short}
use Rattle.reports.specs.declared.report.Entry.{Entry}
use Rattle.store.specs.Kept.{Kept, empty}
use Rattle.store.specs.Messages.{EntryTold, StoredTold, entry_bytes}
use Rattle.byte_store.specs.Told.{AllTold}

pub none_told : (k : Kept) → k ≡ empty → ∥ AllTold k ∥₁
none_told k e = ∣ subst AllTold (sym e) nothing ∣₁
  where
    nothing : AllTold empty
    nothing One zero = tt
    nothing One (suc n) = tt
    nothing Two zero = tt
    nothing Two (suc n) = tt
    nothing Three zero = tt
    nothing Three (suc n) = tt

-- one item more, told under its index
get_pushed : (F : ℕ → Option Entry → Type 0) → ((i : ℕ) → F i None) → (es : List Entry) (e : Entry)
    → ((i : ℕ) → F i (slice_get es i)) → F (length es) (Some e) → (i : ℕ) → F i (slice_get (es ++ (e ∷ [])) i)
get_pushed F none [] e h x zero = x
get_pushed F none [] e h x (suc i) = none (suc i)
get_pushed F none (y ∷ es) e h x zero = h zero
get_pushed F none (y ∷ es) e h x (suc i) =
    get_pushed (λ j o. F (suc j) o) (λ j. none (suc j)) es e (λ j. h (suc j)) x i

part_told : (p : Partition) (es : List Entry) (e : Entry) → ((n : ℕ) → EntryTold p n (under es n))
    → ReportTold p (length es + 1) e.report → (n : ℕ) → EntryTold p n (under (es ++ (e ∷ [])) n)
part_told p es e h x zero = tt
part_told p es e h x (suc i) =
    let next : length es + 1 ≡ suc (length es) = omega arith in
    get_pushed (λ j o. EntryTold p (suc j) o) (λ j. tt) es e (λ j. h (suc j))
    (subst (λ n. ReportTold p n e.report) next x) i

all_grown : (k : Kept) (p : Partition) (e : Entry) → AllTold k → ReportTold p (length (at k p) + 1) e.report
    → AllTold (grown k p e)
all_grown k One e h x One = part_told One k.one e (h One) x
all_grown k One e h x Two = h Two
all_grown k One e h x Three = h Three
all_grown k Two e h x One = h One
all_grown k Two e h x Two = part_told Two k.two e (h Two) x
all_grown k Two e h x Three = h Three
all_grown k Three e h x One = h One
all_grown k Three e h x Two = h Two
all_grown k Three e h x Three = part_told Three k.three e (h Three) x

pub told_grown : (k k' : Kept) (p : Partition) (e : Entry) → ∥ AllTold k ∥₁ → k' ≡ grown k p e
    → ReportTold p (length (at k p) + 1) e.report → ∥ AllTold k' ∥₁
told_grown k k' p e h is x = ∥∥₁_map h (λ all. subst AllTold (sym is) (all_grown k p e all x))

-- what is told of a report under a number
entry_told : (p : Partition) (n : ℕ) (o : Option Entry) → ∥ EntryTold p n o ∥₁ → EntryTold p n o
entry_told p n None h = tt
entry_told p n (Some e) h = told_again p n e.report h

pub stored_told : (k : Kept) (p : Partition) (n : ℕ) → ∥ AllTold k ∥₁ → StoredTold k p n
stored_told k p n h = entry_told p n (under (at k p) n) (∥∥₁_map h (λ all. all p n))

-- the bytes of a report that is there are those of its message, which are no more than the longest has
pub entry_is : (p : Partition) (n : ℕ) (o : Option Entry) (bs : List ℕ)
    → option_map (λ e. report_bytes p n e.report) o ≡ Some bs → bs ≡ entry_bytes p n o
entry_is p n None bs h = cc
entry_is p n (Some e) bs h = cc

pub entry_short : (p : Partition) (n : ℕ) (o : Option Entry) (bs : List ℕ) → EntryTold p n o
    → option_map (λ e. report_bytes p n e.report) o ≡ Some bs → length bs ≤ MESSAGE_BYTES
entry_short p n None bs t h = let z : ◌≡◌ {A = ℕ} 0 1 = cc in omega (arith, z)
entry_short p n (Some e) bs t h =
    let same : report_bytes p n e.report ≡ bs = cc in
    let l = told_short p n e.report t in
    let long = ap length same in
    omega (arith, l, long)
