use Rattle.std.proofs.Common.{rules}
use Rattle.order_book.proofs.Tables.{found, found_known}
use Rattle.order_book.proofs.book.OrderBook.find.Goals as goal

pub returns-clause-found : goal.returns-clause-found
returns-clause-found c = found c.args.self.now.orders.items c.args.number _ (search rules)

pub returns-clause-test : goal.returns-clause-test
returns-clause-test c = found_known c.args.self.now.orders.items c.args.number _ (search rules)
