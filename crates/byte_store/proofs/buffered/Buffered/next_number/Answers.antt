use Rattle.std.proofs.Common.{vec_items}
use Rattle.byte_store.proofs.Parts.{next_at}
use Rattle.byte_store.proofs.buffered.Buffered.next_number.Goals as goal

pub returns : goal.returns
returns g c =
    next_at g.C.Codec.decoded (vec_items c.args.self.now.buffer) c.args.self.now.places c.args.partition _ c.args.owner
    c.args.above _ c.next.ensures c.at.ensures
