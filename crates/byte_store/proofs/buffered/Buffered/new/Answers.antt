use Rattle.std.proofs.Common.{ap, vec_items}
use Rattle.partitions.specs.Series.{mapped}
use Rattle.byte_store.specs.Places.{entry_in}
use Rattle.byte_store.proofs.Tellings.{none_told}
use Rattle.byte_store.proofs.buffered.Buffered.new.Goals as goal

pub invariant_of-result-clause-told : goal.invariant_of-result-clause-told
invariant_of-result-clause-told g c =
    none_told _ (ap (mapped (entry_in g.C.Codec.decoded (vec_items c.in_ok-buffer.buffer))) c.in_ok-places.ensures)
