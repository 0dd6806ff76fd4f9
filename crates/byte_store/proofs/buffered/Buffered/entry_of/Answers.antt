use Rattle.std.proofs.Common.{vec_items}
use Rattle.byte_store.proofs.Parts.{entry_at, entry_within}
use Rattle.byte_store.proofs.buffered.Buffered.entry_of.Goals as goal

pub entry-requires : goal.entry-requires
entry-requires g c =
    entry_within _ c.args.self.now.places c.args.partition _ c.args.number _ c.args.self.now.inside
    c.in_ok-place.ensures c.at.ensures

pub returns : goal.returns
returns g c =
    entry_at g.C.Codec.decoded (vec_items c.args.self.now.buffer) c.args.self.now.places c.args.partition _
    c.args.number _ _ c.entry.ensures c.in_ok-place.ensures c.at.ensures
