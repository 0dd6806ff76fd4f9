use Rattle.std.proofs.Common.{◌⊎◌, inl, inr, List, ℕ, Ok, Err, Result, OnErr, refl}
use Rattle.both_ends.proofs.Passing.{passes}
use Rattle.both_ends.specs.Downloading.{left_in}
use Rattle.both_ends.proofs.state.BothEnds.pass.Goals as goal

on_err : {T E P : Type 0} (r : Result T E) → P → OnErr r P
on_err (Ok x) p = tt
on_err (Err e) p = p

pub returns-clause-error : goal.returns-clause-error
returns-clause-error g c =
    on_err c.left.result (inr (
      left_in c.last.result,
      passes g.M.Matcher.Did g.M.Matcher.guided g.M.Matcher.Learns g.Q.Question.answer c.args.call c.args.self.now
          c.make.new.self c.last.result (left_in c.last.result) c.in_ok-make.ensures.made
          c.last.ensures refl,
    ))
