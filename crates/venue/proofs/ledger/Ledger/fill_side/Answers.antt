use Rattle.std.proofs.Common.{Some, sym, ap, ◌∙◌}
use Rattle.changes.specs.declared.change.Change.TheVariants.{Fill}
use Rattle.orders.specs.declared.trade.Leg.{Leg}
use Rattle.venue.specs.Ledger.{changed, ledger, next_report}
use Rattle.venue.specs.Trading.{side_filled, side_told}
use Rattle.venue.proofs.ledger.Ledger.fill_side.Goals as goal

pub returns-clause-side : goal.returns-clause-side
returns-clause-side g c =
    let is = c.args.self.now.instruments.items in
    let l = ledger c.args.self.now.table (g.S.Store.kept c.args.self.now.store) in
    let told = c.change-report.ensures.number ∙ ap (λ k. next_report is k l) c.order-order.ensures.number in
    let told_of : _ → Leg = λ r. record { order = c.in_ok-number.number; report = r } in
    ap (λ r. Some (told_of r)) told ∙ sym (ap (λ s. side_told is s l) (c.in_ok-number.was {u = tt}))

pub returns-clause-after : goal.returns-clause-after
returns-clause-after g c =
    let is = c.args.self.now.instruments.items in
    let l = ledger c.args.self.now.table (g.S.Store.kept c.args.self.now.store) in
    c.change-report.ensures.after
    ∙ ap (λ k. changed is c.args.time k (Fill c.args.fill) l) c.order-order.ensures.number
    ∙ sym (ap (λ s. side_filled is c.args.time c.args.fill s l) (c.in_ok-number.was {u = tt}))
