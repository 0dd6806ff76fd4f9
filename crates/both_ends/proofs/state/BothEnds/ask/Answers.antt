use Rattle.std.proofs.Common.{◌≡◌, List, [], ◌∷◌, ◌++◌, refl, subst, sym, ap, ◌∙◌}
use Rattle.both_ends.proofs.Kept.{ends, more}
use Rattle.both_ends.specs.Both.{Answers, Ends, Ran, Steps}
use Rattle.both_ends.specs.Runs.{Desk}
use Rattle.both_ends.specs.declared.entry.Entry.{Entry}
use Rattle.both_ends.specs.declared.entry.Entry.TheVariants.{Asked}
use Rattle.both_ends.specs.declared.entry.Step.TheVariants.{Ask}
use Rattle.both_ends.proofs.state.BothEnds.ask.Goals as goal
use Rattle.both_ends.proofs.state.BothEnds.ask.Given.{Over}

grown : (g : Over) (c : goal.After-push_reserved g) → c.push_reserved.new.self.items
    ≡ c.self.inside.log.items ++ Asked c.args.question c.in_ok-answer.answer ∷ []
grown g c =
    c.push_reserved.ensures.items
    ∙ ap (λ l. l ++ Asked c.args.question c.in_ok-answer.answer ∷ []) c.reserve.ensures.items

pub invariant_of-self-2 : goal.invariant_of-self-2
invariant_of-self-2 g c =
    let m = g.M.Matcher.meaning in
    let did = g.M.Matcher.Did in
    let guided = g.M.Matcher.guided in
    let learns = g.M.Matcher.Learns in
    let answer = g.Q.Question.answer in
    let x = c.self.inside.gateway in
    let d : Desk = record { follower = c.self.inside.follower; token = c.self.inside.token } in
    let L : List (Entry g.row.Q.Denot g.row.A.Denot) → Type 0 = λ l. Ran m did guided learns answer (ends m did guided learns answer l x d) in
    subst L (sym (grown g c))
    (more m did guided learns answer _ x d (Asked c.args.question c.in_ok-answer.answer) x d c.self.invariant
    (refl, refl, c.in_ok-answer.ensures) c.self.invariant.tied)

abbrev now : (g : Over) (c : goal.After-push_reserved g) → Ends g.row.M.Denot g.row.Q.Denot g.row.A.Denot
now g c =
    ends g.M.Matcher.meaning g.M.Matcher.Did g.M.Matcher.guided g.M.Matcher.Learns g.Q.Question.answer c.push_reserved.new.self.items c.self.inside.gateway
    (record { follower = c.self.inside.follower; token = c.self.inside.token })

pub returns-clause-answered : goal.returns-clause-answered
returns-clause-answered g c =
    let answer = g.Q.Question.answer in
    subst (λ (b : Ends g.row.M.Denot g.row.Q.Denot g.row.A.Denot).
    Answers answer c.args.question c.in_ok-answer.answer b (now g c)) c.self.view_is
    (record { answer_is = c.in_ok-answer.ensures; log = grown g c; gateway = refl; desk = refl })

pub returns-clause-made : goal.returns-clause-made
returns-clause-made g c =
    let did = g.M.Matcher.Did in
    let guided = g.M.Matcher.guided in
    let learns = g.M.Matcher.Learns in
    let answer = g.Q.Question.answer in
    subst (λ (b : Ends g.row.M.Denot g.row.Q.Denot g.row.A.Denot). Steps did guided learns answer (Ask c.args.question) b (now g c))
    c.self.view_is
    (record {
      entry = Asked c.args.question c.in_ok-answer.answer;
      same = refl;
      log = grown g c;
      takes = (refl, refl, c.in_ok-answer.ensures);
    })
