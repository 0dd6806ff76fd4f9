use Rattle.std.proofs.Common.{refl}
use Rattle.requests.proofs.cancel.refuse.Goals as goal

pub returns : goal.returns
returns g c = (refl, c.note.ensures c.args.time)
