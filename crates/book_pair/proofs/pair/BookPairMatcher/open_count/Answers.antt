use Rattle.std.proofs.Common.{arith}
use Rattle.book_pair.proofs.Unions.{len-union}
use Rattle.book_pair.proofs.pair.BookPairMatcher.open_count.Goals as goal

pub overflow_add-result : goal.overflow_add-result
overflow_add-result g c =
    let p = c.args.self.now in
    let l = len-union (g.A.Matcher.meaning p.first).orders (g.B.Matcher.meaning p.second).orders p.apart in
    let f = p.roomy in
    omega arith

pub returns : goal.returns
returns g c =
    let p = c.args.self.now in
    let l = len-union (g.A.Matcher.meaning p.first).orders (g.B.Matcher.meaning p.second).orders p.apart in
    omega arith
