use Rattle.order_book.specs.Books.{lists_of}
use Rattle.lit_book.specs.Books.{lit}
use Rattle.lit_book.proofs.Keeps.{cancel_settled}
use Rattle.lit_book.proofs.book.LitBookMatcher.cancel.Goals as goal

pub invariant_of-self : goal.invariant_of-self
invariant_of-self c =
    record {
      uncrossed = cancel_settled c.cancel.result (lit c.args.self.now) (lists_of c.cancel.new.self) c.args.number
          c.args.self.now.uncrossed c.cancel.ensures.lists c.cancel.ensures.same;
    }
