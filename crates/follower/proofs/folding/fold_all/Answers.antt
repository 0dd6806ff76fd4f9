use Rattle.std.proofs.lemmas.Result.{err_from_is_err_and}
use Rattle.queue.specs.Queues.{elements}
use Rattle.follower.proofs.Folds.{fails, folds}
use Rattle.follower.proofs.folding.fold_all.Goals as goal

pub returns-in_err-place : goal.returns-in_err-place
returns-in_err-place c =
    let p = err_from_is_err_and c.from_residual.result c.from_residual.ensures.1 in
    rw (p.1, p.2) (fails c.args.partition (elements c.args.held.now) c.loop-i.i c.get.result _ _ _
    c.get.ensures c.in_err-place.ensures c.loop-i.invariant)

pub loop-i-preserved : goal.loop-i-preserved
loop-i-preserved c =
    folds c.args.partition (elements c.args.held.now) c.loop-i.i c.get.result _ _ _
    c.get.ensures c.in_ok-place.ensures c.loop-i.invariant
