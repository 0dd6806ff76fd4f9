use Rattle.lit_book.specs.Books.{LitDid}
use Rattle.lit_day.proofs.Calling.{fair}
use Rattle.lit_day.proofs.Guiding.{calls_alone}
use Rattle.lit_day.proofs.laws.trades_are_fair.Goals as goal

pub returns : goal.returns
returns g c =
    let h = c.law.ensures in
    fair h.first _ _ h.begins (calls_alone LitDid h.first c.args.both.now.log c.args.both.now.gateway h.asked)
