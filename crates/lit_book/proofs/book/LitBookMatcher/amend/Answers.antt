use Rattle.order_book.specs.Books.{lists_of}
use Rattle.lit_book.specs.Books.{lit}
use Rattle.lit_book.proofs.Keeps.{amend_settled}
use Rattle.lit_book.proofs.book.LitBookMatcher.amend.Goals as goal

pub invariant_of-self : goal.invariant_of-self
invariant_of-self c =
    record {
      uncrossed = amend_settled c.amend.result (lit c.args.self.now) (lists_of c.amend.new.self) c.args.number
          c.args.quantity c.args.price c.args.self.now.uncrossed c.amend.ensures.lists c.amend.ensures.same;
    }
