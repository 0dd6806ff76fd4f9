use Rattle.std.proofs.Common.{List, ℕ, length, IfOk, refl, subst, ◌∙◌}
use Rattle.follower.specs.Asking.{asking, ReadBack}
use Rattle.gateway_runs.proofs.Turning.{turns}
use Rattle.partitions.specs.PerPartition.{at}
use Rattle.both_ends.proofs.making.make.Goals as goal

pub returns-in-Ok-clause-does : goal.returns-in-Ok-clause-does
returns-in-Ok-clause-does g c =
    (turns g.M.Matcher.Did c.args.gateway.now c.in-Ok.done c.make.new.gateway c.in-Ok.ensures.does, refl)

pub returns-in-Ok-from_slice-clause-told : goal.returns-in-Ok-from_slice-clause-told
returns-in-Ok-from_slice-clause-told g c =
    let P : List ℕ → Type 0 = λ b. IfOk (asking c.args.follower.now c.args.token c.in-Ask.partition (length b))
    (λ p. ReadBack p (at c.args.follower.now.sides p).place) in
    subst P (c.deref_mut.ensures.value ∙ (c.in-Ok-from_slice.ensures.items ∙ c.deref-in-Ask.ensures.value))
    c.ask-answer.ensures.read
