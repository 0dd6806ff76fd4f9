use Rattle.wire_store.proofs.Back.{blank_told}
use Rattle.wire_store.proofs.codec.nothing_told.Goals as goal

pub returns : goal.returns
returns c = blank_told c.empty.result c.empty.ensures
