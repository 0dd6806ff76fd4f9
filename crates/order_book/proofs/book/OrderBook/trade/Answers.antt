use Rattle.std.specs.Prelude.{ℕ, Some}
use Rattle.std.proofs.Common.{ap, ◌∙◌, arith}
use Rattle.matching.specs.declared.event.Event.TheVariants.{Trade}
use Rattle.order_book.specs.Books.{lists_of, plain}
use Rattle.order_book.proofs.Matches.{matched, oldest_place, still_oldest, trade_allowed, trade_lists, trade_means}
use Rattle.order_book.proofs.book.OrderBook.trade.Goals as goal

pub alter-requires-clause-found : goal.alter-requires-clause-found
alter-requires-clause-found c =
    let b = c.args.self.now in
    (matched b.orders.items b.resting c.args.place c.args.order c.args.other
    (omega arith) b.apart b.nonzero c.requires.oldest c.requires.other c.requires.instrument).place

pub alter-requires-2-clause-found : goal.alter-requires-2-clause-found
alter-requires-2-clause-found c =
    let b = c.args.self.now in
    let n = c.alter.new.self in
    let m = matched b.orders.items b.resting c.args.place c.args.order c.args.other
    (omega arith) b.apart b.nonzero c.requires.oldest c.requires.other c.requires.instrument in
    oldest_place n.orders.items n.resting c.args.order n.apart
    (still_oldest b.orders.items b.resting c.args.place c.args.order c.args.other _
    (lists_of n) m c.requires.oldest c.alter.ensures.lists)

pub returns-clause-event : goal.returns-clause-event
returns-clause-event c =
    ap (λ (q : ℕ). Trade (Some c.args.other.number) (Some c.args.order.number) q c.args.price) c.min-quantity.ensures

pub returns-clause-lists : goal.returns-clause-lists
returns-clause-lists c =
    let b = c.args.self.now in
    trade_lists (lists_of b) (lists_of c.alter.new.self)
    (lists_of c.alter-2.new.self) c.args.order c.args.other c.min-quantity.result c.left.result c.left-2.result
    c.min-quantity.ensures c.left.ensures.value c.left-2.ensures.value c.alter.ensures.lists c.alter-2.ensures.lists

pub returns-clause-allowed : goal.returns-clause-allowed
returns-clause-allowed c =
    let b = c.args.self.now in
    let m = matched b.orders.items b.resting c.args.place c.args.order c.args.other
    (omega arith) b.apart b.nonzero c.requires.oldest c.requires.other c.requires.instrument in
    trade_allowed b.orders.items b.resting c.args.place c.args.order c.args.other c.min-quantity.result c.args.price m
    c.min-quantity.ensures

pub returns-clause-after : goal.returns-clause-after
returns-clause-after c =
    let b = c.args.self.now in
    let m = matched b.orders.items b.resting c.args.place c.args.order c.args.other
    (omega arith) b.apart b.nonzero c.requires.oldest c.requires.other c.requires.instrument in
    trade_means b.orders.items b.resting c.args.place c.args.order c.args.other c.min-quantity.result c.left.result
    c.left-2.result (plain c.alter.new.self) (plain c.alter-2.new.self) m c.left.ensures.value
    c.left-2.ensures.value c.alter.ensures.after c.alter-2.ensures.after
