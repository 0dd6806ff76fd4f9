use Rattle.std.specs.Prelude.{◌≡◌, ℕ}
use Rattle.std.proofs.Common.{sym, ap, ◌∙◌}
use Rattle.std.specs.FinMap.{get}
use Rattle.matching.specs.Meaning.{opened}
use Rattle.order_book.specs.Books.{lists_of, plain, table}
use Rattle.order_book.specs.Lists.{order_held, order_number, orders_of}
use Rattle.order_book.proofs.Amends.{goes_to_back, gone, keeps_place, reopened}
use Rattle.order_book.proofs.Tables.{held}
use Rattle.order_book.proofs.book.OrderBook.revise.Goals as goal

pub add-requires-clause-new : goal.add-requires-clause-new
add-requires-clause-new c =
    let x = c.index.result.now in
    let own : c.with_limit.result.number ≡ c.args.number = ap order_number c.with_limit.ensures ∙ ap order_number
    c.index.ensures ∙ c.requires.found.2 x in
    ap (λ (n : ℕ). get (orders_of (table c.remove.new.self)) n) own
    ∙ gone (plain c.args.self.now) (plain c.remove.new.self) c.args.number
    c.remove.ensures.after

pub returns-then-goes_back-clause-lists : goal.returns-then-goes_back-clause-lists
returns-then-goes_back-clause-lists c =
    let b = c.args.self.now in
    c.add.ensures.lists
    ∙ goes_to_back b.orders.items b.resting c.args.place c.args.number c.args.quantity c.args.price c.index.result.now
    c.with_limit.result (lists_of c.remove.new.self)
    c.requires.found c.index.ensures (sym c.if-goes_back.ensures) c.with_limit.ensures c.remove.ensures.lists

pub returns-then-goes_back-clause-after : goal.returns-then-goes_back-clause-after
returns-then-goes_back-clause-after c =
    let b = c.args.self.now in
    let x = c.index.result.now in
    let v = c.with_limit.result in
    let own : v.number ≡ c.args.number = ap order_number c.with_limit.ensures ∙ ap order_number c.index.ensures ∙
    c.requires.found.2 x in
    c.add.ensures.after
    ∙ ap (λ (n : ℕ). opened (plain c.remove.new.self) n (order_held v)) own
    ∙ reopened (plain b) (plain c.remove.new.self) c.args.number c.args.quantity (order_held x)
    (order_held v)
    (held b.orders.items c.args.place c.args.number x c.requires.found c.index.ensures)
    (ap order_held c.with_limit.ensures) c.remove.ensures.after

pub returns-else-goes_back-clause-lists : goal.returns-else-goes_back-clause-lists
returns-else-goes_back-clause-lists c =
    let b = c.args.self.now in
    c.resize.ensures.lists
    ∙ keeps_place b.orders.items b.resting c.args.place c.args.number c.args.quantity c.args.price c.index.result.now
    c.requires.found c.index.ensures (sym c.if-goes_back.ensures)
