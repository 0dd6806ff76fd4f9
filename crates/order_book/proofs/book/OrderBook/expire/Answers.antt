use Rattle.order_book.proofs.Matches.{oldest_place}
use Rattle.order_book.proofs.book.OrderBook.expire.Goals as goal

pub remove-requires : goal.remove-requires
remove-requires c =
    let b = c.args.self.now in oldest_place b.orders.items b.resting c.args.order b.apart c.requires
