-- A stored report's number fits its field. Assumes nothing.
use Rattle.std.proofs.Common.{◌≡◌, ℕ, zero, suc, ◌+◌, ◌<◌, ◌≤◌, List, [], ◌∷◌, length, Some, sym, arith}
use Rattle.std.specs.List.{slice_get}
use Rattle.codes.specs.declared.session.Partition.{Partition}
use Rattle.codes.specs.declared.session.Partition.TheVariants.{One, Two, Three}
use Rattle.keyed.proofs.Under.{none-some}
use Rattle.keyed.specs.Numbers.{under}
use Rattle.limits.specs.declared.TheConstants.{REPORTS}
use Rattle.partitions.specs.PerPartition.{at}
use Rattle.partitions.specs.Series.{total}
use Rattle.report_messages.specs.declared.telling.TheConstants.{NUMBERS}
use Rattle.reports.specs.declared.report.Entry.{Entry}
use Rattle.store.specs.Kept.{Kept}

inside : (es : List Entry) (i : ℕ) (e : Entry) → slice_get es i ≡ Some e → i < length es
inside [] i e h = none-some e h
inside (x ∷ es) zero e h = omega arith
inside (x ∷ es) (suc i) e h = let l = inside es i e h in omega arith

at_most : (es : List Entry) (n : ℕ) (e : Entry) → under es n ≡ Some e → n ≤ length es
at_most es zero e h = omega arith
at_most es (suc n) e h = let l = inside es n e h in omega arith

in_total : (k : Kept) (p : Partition) → length (at k p) ≤ total k
in_total k One = omega arith
in_total k Two = omega arith
in_total k Three = omega arith

pub number_fits : (k : Kept) (free : ℕ) (p : Partition) (n : ℕ) (e : Entry) → total k + free ≤ REPORTS → Some e
    ≡ under (at k p) n → n < NUMBERS
number_fits k free p n e room h =
    let a = at_most (at k p) n e (sym h) in
    let b = in_total k p in
    omega arith
