use Rattle.std.proofs.Common.{◌≡◌, true, drop}
use Rattle.layout.specs.Layout.{first_bad, within}
use Rattle.layout.proofs.check.check.Given as goal

abbrev pub invariant-loop-field : goal.invariant-loop-field
invariant-loop-field l =
    (first_bad (drop l.field-index l.fields) l.r.src.now ≡ first_bad l.fields l.r.src.now)
    × (within l.total (drop l.field-index l.fields) ≡ true)
