use Rattle.std.specs.Vec.{vec_len}
use Rattle.std.proofs.lemmas.Bool.{eq-eqb, true≢false}
use Rattle.std.proofs.Common.{◌≡◌, List, [], ◌∷◌, ap, ◌∙◌, sym, length}
use Rattle.both_ends.proofs.Passing.{gave}
use Rattle.both_ends.proofs.state.BothEnds.exchange.Goals as goal

pub returns-clause-exchanged : goal.returns-clause-exchanged
returns-clause-exchanged g c =
    let (z, given, adds) = gave g.M.Matcher.Did g.M.Matcher.guided g.M.Matcher.Learns g.Q.Question.answer c.in_ok-message.message c.pass.new.self
    c.make.new.self c.in_ok-make.ensures.made in (
      c.pass.new.self,
      c.in_ok-message.message.items,
      (λ e. true≢false (sym (eq-eqb (vec_len c.in_ok-message.message) 0 (c.in_ok-message.message.ok.0 ∙ ap length e))
          ∙ sym c.if-is_empty.ensures)),
      c.in_ok-message.ensures.passed,
      z,
      given,
      adds,
    )
