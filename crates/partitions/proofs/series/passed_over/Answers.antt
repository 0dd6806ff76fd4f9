use Rattle.partitions.proofs.Places.{found_by_mark}
use Rattle.partitions.proofs.series.passed_over.Goals as goal

pub returns-then-owner-lt255 : goal.returns-then-owner-lt255
returns-then-owner-lt255 g c =
    found_by_mark g.T.Owned.owner_of c.args.items.now c.args.marks.now c.args.owner c.args.above _
    c.mark_above.ensures c.requires c.if-owner-lt255.true
