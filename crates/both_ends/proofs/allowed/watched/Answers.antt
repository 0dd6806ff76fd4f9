use Rattle.std.proofs.Common.{◌≡◌, IfOk, arith, subst}
use Rattle.both_ends.specs.Deciding.{after_entry, onto}
use Rattle.both_ends.specs.declared.entry.Entry.{Entry}
use Rattle.both_ends.proofs.Refusals.{refused_at}
use Rattle.both_ends.proofs.allowed.watched.Goals as goal

pub returns-in-Err : goal.returns-in-Err
returns-in-Err g c =
    let P : Entry g.row.Q.Denot g.row.A.Denot → Type 0 = λ x. IfOk c.after_entry.result
    (λ r. after_entry c.args.line x c.loop-entry.watch ≡ onto r c.after_entry.new.watch) in
    refused_at c.args.line c.loop-entry.entry-index c.args.log.now c.entry-item.result c.loop-entry.watch _ _
    c.in-Err.breach c.after_entry.result (omega arith) c.loop-entry.invariant
    (subst P c.entry-item.is c.after_entry.ensures) (grind arith)
