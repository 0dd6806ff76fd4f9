-- Reports and free places are never more than there is room for. Assumes nothing.
use Rattle.std.specs.Prelude.{◌+◌, ◌≤◌, vec_items}
use Rattle.std.proofs.Common.{arith}
use Rattle.limits.specs.declared.TheConstants.{REPORTS}
use Rattle.partitions.specs.Series.{total}
use Rattle.partitions.proofs.Totals.{total_mapped}
use Rattle.byte_store.specs.declared.buffered.Buffered.{Buffered}
use Rattle.byte_store.specs.declared.codec.Codec.{Ghosts as Coding}
use Rattle.byte_store.specs.Places.{entry_in}
use Rattle.byte_store.specs.Views.{kept_in, free_in}

pub room_held : {C : Type 0} {c : Coding C} (s : Buffered C c) → total (kept_in s) + free_in s ≤ REPORTS
room_held {c = c} s =
    let same = total_mapped (entry_in c.decoded (vec_items s.buffer)) s.places in
    let few = s.few in
    grind arith
