use Rattle.std.proofs.Common.{sym, ap, ◌∙◌}
use Rattle.matching.specs.declared.event.Event.{Event}
use Rattle.order_book.specs.Books.{lists_of, table}
use Rattle.order_book.specs.Rules.{Lists, trade_of}
use Rattle.order_book.proofs.Bests.{best_some}
use Rattle.order_book.proofs.Fairs.{chosen, fair, lists_apart}
use Rattle.order_book.proofs.Nexts.{next_expire, next_trade}
use Rattle.order_book.proofs.book.OrderBook.next_event.Goals as goal

pub trade-requires-clause-instrument : goal.trade-requires-clause-instrument
trade-requires-clause-instrument g c =
    let t = c.in-Trades in
    let u = t.ensures.turn in
    let r = g.R.PairingRule.rule c.args.rule.now in
    let k = g.met.R.PairingRule.keeps c.args.rule.now in
    (k.faces t.order t.other (best_some r k t.order t.other (lists_of c.next_turn.new.self).resting u.1).fitting).instrument

pub returns-in-Expires-clause-event : goal.returns-in-Expires-clause-event
returns-in-Expires-clause-event g c =
    let t = c.in-Expires in
    let u = t.ensures.turn in
    let r = g.R.PairingRule.rule c.args.rule.now in
    c.expire.ensures.event
    ∙ sym (ap (λ (x : Event × Lists). x.0) (next_expire r (lists_of c.next_turn.new.self) t.order u.0 u.1 u.2))
    ∙ ap (λ (x : Event × Lists). x.0) t.ensures.same

pub returns-in-Expires-clause-lists : goal.returns-in-Expires-clause-lists
returns-in-Expires-clause-lists g c =
    let t = c.in-Expires in
    let u = t.ensures.turn in
    let r = g.R.PairingRule.rule c.args.rule.now in
    c.expire.ensures.lists
    ∙ sym (ap (λ (x : Event × Lists). x.1) (next_expire r (lists_of c.next_turn.new.self) t.order u.0 u.1 u.2))
    ∙ ap (λ (x : Event × Lists). x.1) t.ensures.same

pub returns-in-Trades-clause-event : goal.returns-in-Trades-clause-event
returns-in-Trades-clause-event g c =
    let t = c.in-Trades in
    let u = t.ensures.turn in
    let r = g.R.PairingRule.rule c.args.rule.now in
    c.trade.ensures.event
    ∙ ap (trade_of t.order t.other) c.price-price.ensures
    ∙ sym (ap (λ (x : Event × Lists). x.0) (next_trade r (lists_of c.next_turn.new.self) t.order t.other u.0 u.1))
    ∙ ap (λ (x : Event × Lists). x.0) t.ensures.same

pub returns-in-Trades-clause-lists : goal.returns-in-Trades-clause-lists
returns-in-Trades-clause-lists g c =
    let t = c.in-Trades in
    let u = t.ensures.turn in
    let r = g.R.PairingRule.rule c.args.rule.now in
    c.trade.ensures.lists
    ∙ sym (ap (λ (x : Event × Lists). x.1) (next_trade r (lists_of c.next_turn.new.self) t.order t.other u.0 u.1))
    ∙ ap (λ (x : Event × Lists). x.1) t.ensures.same

pub returns-in-Trades-clause-fair : goal.returns-in-Trades-clause-fair
returns-in-Trades-clause-fair g c =
    let b = c.args.self.now in
    fair (g.R.PairingRule.rule c.args.rule.now) (g.met.R.PairingRule.keeps c.args.rule.now) (lists_of b) c.trade.result
    (lists_apart (table b) b.resting b.apart) (returns-in-Trades-clause-event g c)

pub returns-in-Trades-clause-chosen : goal.returns-in-Trades-clause-chosen
returns-in-Trades-clause-chosen g c =
    let b = c.args.self.now in
    chosen (g.R.PairingRule.rule c.args.rule.now) (g.met.R.PairingRule.keeps c.args.rule.now) (lists_of b) c.trade.result
    (lists_apart (table b) b.resting b.apart) (returns-in-Trades-clause-event g c)
