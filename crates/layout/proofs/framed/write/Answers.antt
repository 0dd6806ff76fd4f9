use Rattle.std.proofs.Common.{◌≡◌, true, rules}
use Rattle.std.proofs.lemmas.Bool.{and_parts}
use Rattle.layout.specs.Writing.{over, header}
use Rattle.layout.specs.Shapes.{well_laid}
use Rattle.layout.proofs.Wholes.{whole}
use Rattle.layout.proofs.framed.write.Goals as goal

pub returns-clause-wrote : goal.returns-clause-wrote
returns-clause-wrote g c =
    let l = g.M.Layout.shape in
    let f : well_laid l ≡ true = search rules in
    let t = (and_parts _ _ (and_parts _ _ f).1).1 in
    let h : c.put_header.new.out ≡ over c.args.out.now 0 (header l.letter l.total) = search rules in
    whole l.letter l.total l.table (g.M.Framed.contents c.args.m.now) _ _ _ t c.put.ensures.holds h c.put.ensures.wrote
