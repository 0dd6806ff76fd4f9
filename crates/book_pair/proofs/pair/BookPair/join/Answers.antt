use Rattle.std.proofs.Common.{sym}
use Rattle.std.proofs.lemmas.Bool.{eqb-true}
use Rattle.book_pair.proofs.Pairs.{joined}
use Rattle.book_pair.proofs.pair.BookPair.join.Goals as goal

pub invariant_of-result : goal.invariant_of-result
invariant_of-result g c =
    let a = g.A.Matcher.meaning c.args.first in
    let b = g.B.Matcher.meaning c.args.second in
    let k = joined a b (eqb-true _ _ (sym c.if-not-is_empty.ensures)) (eqb-true _ _ (sym c.if-not-is_empty-2.ensures)) in
    record { apart = k.apart; roomy = k.roomy }
