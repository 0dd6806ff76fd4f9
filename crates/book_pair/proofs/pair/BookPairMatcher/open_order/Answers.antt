use Rattle.std.proofs.Common.{◌≡◌, None, Option, sym, ap, ◌∙◌}
use Rattle.std.specs.FinMap.{get}
use Rattle.matching.specs.declared.matcher.Held.{Held}
use Rattle.book_pair.specs.Unions.{first_of}
use Rattle.book_pair.proofs.Unions.{get-union, in_second}
use Rattle.book_pair.proofs.pair.BookPairMatcher.open_order.Goals as goal

pub returns-in-Some : goal.returns-in-Some
returns-in-Some g c =
    let p = c.args.self.now in
    let a = (g.A.Matcher.meaning p.first).orders in
    let b = (g.B.Matcher.meaning p.second).orders in
    ap (λ (w : Option Held). first_of w (get b c.args.number)) (sym c.in-Some.is ∙ c.open_order.ensures)
    ∙ sym (get-union a b c.args.number)

pub returns-in-None : goal.returns-in-None
returns-in-None g c =
    let p = c.args.self.now in
    let a = (g.A.Matcher.meaning p.first).orders in
    let b = (g.B.Matcher.meaning p.second).orders in
    let e : get a c.args.number ≡ None = sym c.open_order.ensures ∙ c.in-None.is in
    c.open_order-in-None.ensures ∙ sym (in_second a b c.args.number e)
