use Rattle.std.specs.Prelude.{◌≡◌, true, ◌++◌}
use Rattle.order_book.specs.Books.{lists_of, table}
use Rattle.order_book.specs.Lists.{all_apart}
use Rattle.order_book.specs.Rules.{Lists}
use Rattle.order_book.proofs.Fairs.{lists_apart}
use Rattle.lit_book.specs.Books.{lit}
use Rattle.lit_book.proofs.Keeps.{next_settled}
use Rattle.lit_book.proofs.Laws.{served, uncrossed}
use Rattle.lit_book.proofs.book.LitBookMatcher.next_event.Goals as goal

pub invariant_of-self : goal.invariant_of-self
invariant_of-self c =
    let b = c.args.self.now in
    let n = c.next_event in
    record { uncrossed = next_settled (lit b) (lists_of n.new.self) b.uncrossed n.ensures.lists }

pub returns-clause-served : goal.returns-clause-served
returns-clause-served c =
    let b = c.args.self.now in
    served (lit b) c.next_event.result (lists_apart (table b.orders) b.orders.resting b.orders.apart) b.uncrossed
    c.next_event.ensures.event

pub returns-clause-uncrossed : goal.returns-clause-uncrossed
returns-clause-uncrossed c =
    let b = c.args.self.now in
    let n = c.next_event in
    uncrossed (lists_of n.new.self) (next_settled (lit b) (lists_of n.new.self) b.uncrossed n.ensures.lists)
