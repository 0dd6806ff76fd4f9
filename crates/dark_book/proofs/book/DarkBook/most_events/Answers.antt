use Rattle.dark_book.specs.Books.{dark, midpoints}
use Rattle.dark_book.proofs.Laws.{enough}
use Rattle.dark_book.proofs.book.DarkBook.most_events.Goals as goal

pub returns-clause-enough : goal.returns-clause-enough
returns-clause-enough c =
    let b = c.args.self.now in enough (midpoints b) (dark b) c.open_count.result c.open_count.ensures.lists
