use Rattle.std.proofs.Common.{◌≡◌, true}
use Rattle.layout.specs.Layout.{all_good}
use Rattle.layout.proofs.Tables.{good_passes}
use Rattle.layout.proofs.framed.Layout.check.Goals as goal

pub returns-then-good : goal.returns-then-good
returns-then-good g c =
    let h : all_good g.Self.Layout.shape.table c.args.r.now.src.now ≡ true = cc in
    good_passes g.Self.Layout.shape.table c.args.r.now.src.now h
