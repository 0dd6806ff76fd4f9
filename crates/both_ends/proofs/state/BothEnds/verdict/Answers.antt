use Rattle.std.proofs.Common.{subst, ◌∙◌, ap}
use Rattle.std.proofs.lemmas.Result.{IfOk-weaker}
use Rattle.both_ends.proofs.Kept.{holds}
use Rattle.both_ends.proofs.Refusals.{allowed_by}
use Rattle.both_ends.specs.Allowed.{after_log, quiet}
use Rattle.both_ends.specs.Asking.{made}
use Rattle.both_ends.specs.Both.{Ends, Holds}
use Rattle.both_ends.specs.Deciding.{verdict}
use Rattle.both_ends.proofs.state.BothEnds.verdict.Goals as goal

pub returns-clause-agreed : goal.returns-clause-agreed
returns-clause-agreed g c =
    let m = g.M.Matcher.meaning in
    let did = g.M.Matcher.Did in
    let guided = g.M.Matcher.guided in
    let learns = g.M.Matcher.Learns in
    let answer = g.Q.Question.answer in
    let all : Holds m did guided learns answer c.args.self.now = subst (Holds m did guided learns answer) c.self.view_is
    (holds m did guided learns answer _ c.self.invariant) in
    IfOk-weaker c.line_allows.result _ _ (λ r h ok. all.agrees c.args.line
    (allowed_by c.args.line (made c.args.self.now.log) r
    (h ∙ ap (λ l. verdict (after_log c.args.line (made l) quiet))
    (c.deref.ensures.value ∙ ap (λ (b : Ends g.row.M.Denot g.row.Q.Denot g.row.A.Denot). b.log) c.self.view_is)) ok))
    c.line_allows.ensures
