use Rattle.std.proofs.Common.{sym, ap, ◌∙◌, arith}
use Rattle.std.specs.List.{slice_get}
use Rattle.order_book.specs.Rules.{Lists}
use Rattle.order_book.proofs.Matches.{trade_turn}
use Rattle.order_book.proofs.book.OrderBook.next_turn.Goals as goal

pub returns-in-Some-best_of-clause-turn : goal.returns-in-Some-best_of-clause-turn
returns-in-Some-best_of-clause-turn g c =
    let b = c.oldest.new.self in
    let t = c.in-Some-best_of in
    let v = c.in-Some.ensures in
    trade_turn (g.R.PairingRule.rule c.args.rule.now) b.orders.items c.resting.result.now b.resting t.place
    c.in-Some.order c.index.result.now (omega arith)
    (ap (λ (x : Lists). slice_get x.waiting 0) v.lists ∙ sym v.value)
    c.resting.ensures t.ensures c.index.ensures
