use Rattle.std.proofs.Common.{List, refl, ap, ◌∙◌, rules}
use Rattle.keyed.specs.Numbers.{under}
use Rattle.keyed.proofs.Under.{put-under-set, under-others}
use Rattle.orders.proofs.Kept.{kept_set}
use Rattle.orders.proofs.Counted.{sums_set}
use Rattle.orders.specs.declared.row.Row.{Row}
use Rattle.orders.proofs.table.Table.put.Goals as goal

pub invariant_of-self : goal.invariant_of-self
invariant_of-self c =
    let i = c.self.invariant in
    let sums = sums_set c.self.inside.rows.items _ c.args.index c.index.result.now c.row-row.result c.self.inside.sums
    c.without.result _ i.3 (search rules) refl c.index.ensures c.without.ensures c.with-self-inside.ensures in
    (i.0, i.1, search (rules, kept_set), sums)

pub returns-clause-others : goal.returns-clause-others
returns-clause-others c k other =
    let rows = c.self.inside.rows.items in
    let n = c.args.order.number in
    let at = λ (rs : List Row). under rs k in
    ap at (put-under-set rows n c.args.index c.row-row.result c.requires.0)
    ∙ under-others rows n k c.row-row.result other
    ∙ ap at c.self.view_is
