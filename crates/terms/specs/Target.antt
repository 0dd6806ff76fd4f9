-- The book of an order. Assumes nothing.
use Rattle.codes.specs.declared.order.Book.{Book}
use Rattle.codes.specs.declared.order.Book.TheVariants as book
use Rattle.terms.specs.declared.target.Target.{Target}
use Rattle.terms.specs.declared.target.Target.TheVariants.{DarkMidpoint, Integrated}

abbrev pub book_of : Target → Book
book_of (DarkMidpoint i) = book.DarkMidpoint
book_of Integrated = book.Integrated
