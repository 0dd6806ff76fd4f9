-- What is sent on a real-time channel, and how far. Assumes nothing.
use Rattle.std.specs.Prelude.{ℕ, max, length, Option, is_some, if◌then◌else◌}
use Rattle.std.specs.Option.{unwrap_or, option_or, option_map}
use Rattle.codes.specs.declared.session.Partition.{Partition}
use Rattle.codes.specs.declared.session.Partition.TheVariants.{One, Two, Three}
use Rattle.partitions.specs.declared.per_partition.PerPartition.{PerPartition}
use Rattle.partitions.specs.PerPartition.{at, with_at}
use Rattle.store.specs.Kept.{Kept, next_after}

-- a partition's next report to send
abbrev pub found : Kept → ℕ → PerPartition ℕ → Partition → Option ℕ
found k o sent p = next_after (at k p) o (at sent p)

-- the next report to send: of the lowest partition that has one
abbrev pub found_in : Kept → ℕ → PerPartition ℕ → Partition → Option (Partition × ℕ)
found_in k o sent p = option_map (λ n. (p, n)) (found k o sent p)

abbrev pub next_to_send : Kept → ℕ → PerPartition ℕ → Option (Partition × ℕ)
next_to_send k o sent = option_or (found_in k o sent One) (option_or (found_in k o sent Two) (found_in k o sent Three))

-- the mark of a partition after a look: the report that was found, else the last of all that were passed over
abbrev pub mark_after : Kept → ℕ → PerPartition ℕ → Partition → ℕ
mark_after k o sent p = unwrap_or (found k o sent p) (max (at sent p) (length (at k p)))

abbrev pub looked : Kept → ℕ → Partition → PerPartition ℕ → PerPartition ℕ
looked k o p sent = with_at sent p (mark_after k o sent p)

-- the partitions are looked at in turn, up to the first that has a report
abbrev pub sent_after : Kept → ℕ → PerPartition ℕ → PerPartition ℕ
sent_after k o sent =
    let one = looked k o One sent in
    let two = looked k o Two one in
    if is_some (found k o sent One) then one
    else if is_some (found k o sent Two) then two else looked k o Three two
