use Rattle.std.proofs.Common.{◌≡◌, length}
use Rattle.order_book.specs.Books.{lists_of, open_in}
use Rattle.order_book.specs.Rules.{next_by}
use Rattle.order_book.proofs.book.OrderBook.next_turn.Given as goal

abbrev pub invariant-loop-order : goal.invariant-loop-order
invariant-loop-order g l =
    (next_by (g.R.PairingRule.rule l.rule) (lists_of l.self)
    ≡ next_by (g.R.PairingRule.rule l.rule) (lists_of l.initial.self))
    × (open_in l.self ≡ open_in l.initial.self)

abbrev pub decreases-loop-order : goal.decreases-loop-order
decreases-loop-order g l = length (lists_of l.self).waiting
