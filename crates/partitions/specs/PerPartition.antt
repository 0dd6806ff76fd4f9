-- One thing for each partition. Assumes nothing.
use denote.RattleType.{RattleType}
use Rattle.std.specs.Borrow.{Lends, MutBor, Fml}
use Rattle.codes.specs.declared.session.Partition.{Partition}
use Rattle.codes.specs.declared.session.Partition.TheVariants.{One, Two, Three}
use Rattle.partitions.specs.declared.per_partition.PerPartition.{PerPartition}
use Rattle.partitions.specs.contracts.per_partition.PerPartition.{the_row}

abbrev pub at : {T : Type 0} → PerPartition T → Partition → T
at x One = x.one
at x Two = x.two
at x Three = x.three

-- another thing for one partition; the others stay
abbrev pub with_at : {T : Type 0} → PerPartition T → Partition → T → PerPartition T
with_at x One t = record x { one = t }
with_at x Two t = record x { two = t }
with_at x Three t = record x { three = t }

-- what is written through a loan is written for its partition
abbrev pub LendsAt : (T : RattleType) → MutBor (PerPartition T.Denot) → Partition → MutBor T.Denot → Fml
LendsAt T s p r = Lends (the_row T) T s r (with_at s.now p)

-- the same thing for each
abbrev pub for_each : {T : Type 0} → T → PerPartition T
for_each t = record { one = t; two = t; three = t }
