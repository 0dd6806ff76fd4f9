use Rattle.std.proofs.Common.{◌≡◌, suc, add-one, ap, ◌∙◌, sym, subst}
use Rattle.gateway.proofs.Counting.{counted_next, few}
use Rattle.gateway.specs.Counting.{Few, counted}
use Rattle.keyed.specs.Numbers.{under}
use Rattle.requests.specs.Selection.{picks}
use Rattle.gateway.proofs.preview.count_all.Goals as goal

pub count_if-requires : goal.count_if-requires
count_if-requires g c =
    let b = c.args.venue.now.state in
    subst Few (sym c.loop-i.invariant)
    (few (picks b.instruments c.args.selection.now) b.instruments c.loop-i.i b.rows
    c.sound.ensures.sound.recorded.numbered c.sound.ensures.few)

pub loop-i-preserved : goal.loop-i-preserved
loop-i-preserved g c =
    let b = c.args.venue.now.state in
    let i = c.loop-i.i in
    let q = picks b.instruments c.args.selection.now in
    let next : c.count_if.new.going ≡ counted q b.instruments (under b.rows (suc i)) c.loop-i.going =
    rw add-one at c.count_if.ensures in
    rw add-one
    (next ∙ ap (counted q b.instruments (under b.rows (suc i))) c.loop-i.invariant
    ∙ sym (counted_next q b.instruments i b.rows))
