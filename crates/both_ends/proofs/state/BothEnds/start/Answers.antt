use Rattle.std.proofs.Common.{List, [], sym, subst}
use Rattle.both_ends.proofs.Kept.{begins, begun, ends}
use Rattle.both_ends.specs.Both.{Ran}
use Rattle.both_ends.specs.declared.entry.Entry.{Entry}
use Rattle.follower.specs.Following.{Following}
use Rattle.follower.specs.declared.pending.Pending.TheVariants.{Idle}
use Rattle.both_ends.proofs.state.BothEnds.start.Goals as goal

pub invariant_of-result : goal.invariant_of-result
invariant_of-result g c =
    let m = g.M.Matcher.meaning in
    let did = g.M.Matcher.Did in
    let guided = g.M.Matcher.guided in
    let learns = g.M.Matcher.Learns in
    let answer = g.Q.Question.answer in
    let x = c.in-Ok-start.gateway in
    let L : List (Entry g.row.Q.Denot g.row.A.Denot) → Type 0 = λ l.
    Ran m did guided learns answer (ends m did guided learns answer l x (record { follower = c.in-Ok.follower; token = Idle })) in
    let F : Following → Type 0 = λ f. Ran m did guided learns answer (ends m did guided learns answer [] x (record { follower = f; token = Idle })) in
    subst L (sym c.new-in-Ok-start.ensures.items) (subst F (sym c.in-Ok.ensures)
    (begun m did guided learns answer x (begins m did guided learns answer x c.args.config.participants.items
    c.args.config.instruments.items c.args.matcher (g.S.Store.free c.args.store) (g.S.Store.kept c.args.store)
    c.in-Ok-start.ensures.1 c.in-Ok-start.ensures.0)))
