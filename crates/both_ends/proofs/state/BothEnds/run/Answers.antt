use Rattle.std.proofs.Common.{◌≡◌, List, [], ◌∷◌, ◌++◌, Ok, Err, Result, OnErr, refl, ap, sym, subst, ◌∙◌}
use Rattle.std.specs.Iterator.{Yields}
use Rattle.std.specs.Vec.Iter.{into_iter_items, into_iter_steps}
use Rattle.std.specs.declared.vec.IntoIter.{IntoIter}
use Rattle.both_ends.proofs.Kept.{none_taken, one_taken}
use Rattle.both_ends.specs.Both.{Ends, StepsAll}
use Rattle.both_ends.proofs.state.BothEnds.run.Goals as goal

pub loop-step-init : goal.loop-step-init
loop-step-init g c = none_taken g.M.Matcher.Did g.M.Matcher.guided g.M.Matcher.Learns g.Q.Question.answer c.args.self.now c.args.self.now refl

pub loop-step-preserved : goal.loop-step-preserved
loop-step-preserved g c =
    one_taken g.M.Matcher.Did g.M.Matcher.guided g.M.Matcher.Learns g.Q.Question.answer c.loop-step.yielded c.args.self.now c.loop-step.self c.take.new.self
    c.in-Some.step c.loop-step.invariant c.in_ok-take.ensures.made

-- what the iterator of a vector has given is a front of its items
taken_front : {X A : Type 0} (s : IntoIter X A) (xs : List X) (t : IntoIter X A) → Yields into_iter_steps s xs t
    → into_iter_items s ≡ xs ++ into_iter_items t
taken_front s [] t y = ap into_iter_items y
taken_front s (x ∷ xs) t y = y.1.0 ∙ ap (λ ys. x ∷ ys) (taken_front y.0 xs t y.2)

on_err : {T E P : Type 0} (r : Result T E) → P → OnErr r P
on_err (Ok x) p = tt
on_err (Err e) p = p

pub returns-in_err-take-clause-front : goal.returns-in_err-take-clause-front
returns-in_err-take-clause-front g c = on_err c.from_residual.result (record {
  front = c.loop-step.yielded;
  rest = into_iter_items c.loop-step.step-iterator;
  is = sym c.into_iter-step-iterator.ensures.into_iter_gives.0
      ∙ taken_front c.into_iter-step-iterator.result c.loop-step.yielded c.loop-step.step-iterator c.loop-step.yielded_by;
  taken = subst (λ (e : Ends _ _ _). StepsAll g.M.Matcher.Did g.M.Matcher.guided g.M.Matcher.Learns g.Q.Question.answer c.loop-step.yielded c.args.self.now e)
      (sym c.in_err-take.ensures.error) c.loop-step.invariant;
})
