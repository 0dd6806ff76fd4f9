use Rattle.std.proofs.Common.{◌≡◌, false, refl, ap, ◌∙◌}
use Rattle.wire.specs.Streams.{Splitting}
use Rattle.wire.proofs.Cuts.{open_broken, fits}
use Rattle.wire.proofs.stream.Splitter.next.Goals as goal

pub invariant_of-self-in-Err : goal.invariant_of-self-in-Err
invariant_of-self-in-Err c =
    λ b. open_broken c.self.inside.channel c.self.inside.held c.args.chunk.now c.advance.new.self c.in-Err.fault
    c.in-Err.ensures.held c.in-Err.ensures.stands refl

pub returns-in-Ok-Some-clause-within : goal.returns-in-Ok-Some-clause-within
returns-in-Ok-Some-clause-within c =
    let f = λ (s : Splitting). s.handed in
    let h : c.self.inside.handed ≡ false = ap f (c.self.view_is ∙ c.pass.ensures) in
    fits c.self.inside.channel c.self.inside.held c.args.chunk.now c.in-Ok-Some.used
    (λ b. c.self.invariant h)
    (rw c.in-Ok-Some.field-0-is at c.in-Ok-Some.ensures.stands)
