use Rattle.std.proofs.Common.{sym, ap, ◌∙◌}
use Rattle.orders.specs.declared.row.Row.{Row}
use Rattle.orders.specs.declared.row.Ending.TheVariants.{Expired}
use Rattle.changes.specs.declared.change.Change.TheVariants.{Withdraw}
use Rattle.venue.specs.Ledger.{changed, expired_as, ledger}
use Rattle.venue.proofs.ledger.Ledger.expire.Goals as goal

pub returns-clause-after : goal.returns-clause-after
returns-clause-after g c =
    let is = c.args.self.now.instruments.items in
    let l = ledger c.args.self.now.table (g.S.Store.kept c.args.self.now.store) in
    c.change.ensures.after
    ∙ ap (λ n. changed is c.args.time n (Withdraw Expired c.row.result.client) l) c.order-order.ensures.number
    ∙ ap (λ (r : Row). changed is c.args.time c.args.number (Withdraw Expired r.client) l) c.row.ensures.is
    ∙ sym (ap (λ o. expired_as is c.args.time c.args.number o l) c.order-order.ensures.there)
