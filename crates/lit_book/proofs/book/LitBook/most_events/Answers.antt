use Rattle.lit_book.specs.Books.{lit}
use Rattle.lit_book.proofs.Laws.{enough}
use Rattle.lit_book.proofs.book.LitBook.most_events.Goals as goal

pub returns-clause-enough : goal.returns-clause-enough
returns-clause-enough c = enough (lit c.args.self.now) c.open_count.result c.open_count.ensures.lists
