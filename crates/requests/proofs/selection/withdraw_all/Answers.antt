use Rattle.std.proofs.Common.{◌≡◌, suc, length, add-one, subst, arith}
use Rattle.keyed.specs.Numbers.{under}
use Rattle.requests.specs.Selection.{picks, withdrawal}
use Rattle.requests.proofs.Sweeping.{swept_all, swept_more, swept_none}
use Rattle.venue.specs.Enacting.{Enacts}
use Rattle.requests.proofs.selection.withdraw_all.Goals as goal

pub loop-i-init : goal.loop-i-init
loop-i-init g c = swept_none _ _ _ _

pub loop-i-preserved : goal.loop-i-preserved
loop-i-preserved g c =
    let x = c.args.venue.now in
    let y = c.loop-i.venue in
    let s = c.args.selection.now in
    let i = c.loop-i.i in
    let h = c.loop-i.invariant in
    let next = rw add-one at c.withdraw_if.ensures in
    let one = subst (λ is. Enacts g.M.Matcher.Did c.args.time
    (withdrawal (picks is s) c.args.cause (under y.state.rows (suc i))) y c.withdraw_if.new.venue) h.instruments next in
    rw add-one (swept_more c.args.time (picks x.state.instruments s) c.args.cause i x y c.withdraw_if.new.venue
    c.sound.ensures.sound.recorded.numbered h one)

pub returns : goal.returns
returns g c =
    let all : c.loop-i.i ≡ length c.args.venue.now.state.rows = omega arith in
    swept_all c.args.time _ c.args.cause c.loop-i.i c.args.venue.now c.loop-i.venue all c.loop-i.invariant
