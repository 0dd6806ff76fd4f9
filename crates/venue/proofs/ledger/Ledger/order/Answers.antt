use Rattle.std.proofs.Common.{sym, ◌∙◌}
use Rattle.orders.proofs.Kept.{kept_at}
use Rattle.venue.proofs.ledger.Ledger.order.Goals as goal

pub returns-clause-number : goal.returns-clause-number
returns-clause-number g c =
    (kept_at c.args.self.now.table c.args.number c.unwrap.result c.requires.numbered
    (sym c.order.ensures ∙ c.unwrap.ensures)).0
