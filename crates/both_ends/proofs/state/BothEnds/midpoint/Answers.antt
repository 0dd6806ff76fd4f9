use Rattle.std.proofs.Common.{◌≡◌, List, [], ◌∷◌, ◌++◌, refl, subst, sym, ap, ◌∙◌}
use Rattle.both_ends.proofs.Kept.{ends, more}
use Rattle.both_ends.specs.Both.{Ends, Guided, Ran, Steps}
use Rattle.both_ends.specs.Runs.{Desk}
use Rattle.both_ends.specs.declared.entry.Entry.{Entry}
use Rattle.both_ends.specs.declared.entry.Entry.TheVariants.{Midpoint}
use Rattle.both_ends.specs.declared.entry.Step.TheVariants.{Midpoint as Tell}
use Rattle.both_ends.proofs.state.BothEnds.midpoint.Goals as goal
use Rattle.both_ends.proofs.state.BothEnds.midpoint.Given.{Over}

grown : (g : Over) (c : goal.After-push_reserved g) → c.push_reserved.new.self.items
    ≡ c.self.inside.log.items ++ Midpoint c.args.instrument c.args.price c.midpoint-answer.result ∷ []
grown g c =
    c.push_reserved.ensures.items
    ∙ ap (λ l. l ++ Midpoint c.args.instrument c.args.price c.midpoint-answer.result ∷ []) c.reserve.ensures.items

pub invariant_of-self-2 : goal.invariant_of-self-2
invariant_of-self-2 g c =
    let m = g.M.Matcher.meaning in
    let did = g.M.Matcher.Did in
    let guided = g.M.Matcher.guided in
    let learns = g.M.Matcher.Learns in
    let answer = g.Q.Question.answer in
    let y = c.midpoint-answer.new.self in
    let d : Desk = record { follower = c.self.inside.follower; token = c.self.inside.token } in
    let L : List (Entry g.row.Q.Denot g.row.A.Denot) → Type 0 = λ l. Ran m did guided learns answer
    (ends m did guided learns answer l y d) in
    subst L (sym (grown g c))
    (more m did guided learns answer _ c.self.inside.gateway d
    (Midpoint c.args.instrument c.args.price c.midpoint-answer.result) y d c.self.invariant
    (c.midpoint-answer.ensures, refl) c.self.invariant.tied)

abbrev now : (g : Over) (c : goal.After-push_reserved g) → Ends g.row.M.Denot g.row.Q.Denot g.row.A.Denot
now g c =
    ends g.M.Matcher.meaning g.M.Matcher.Did g.M.Matcher.guided g.M.Matcher.Learns g.Q.Question.answer
    c.push_reserved.new.self.items c.midpoint-answer.new.self
    (record { follower = c.self.inside.follower; token = c.self.inside.token })

pub returns-clause-told : goal.returns-clause-told
returns-clause-told g c =
    subst (λ (b : Ends g.row.M.Denot g.row.Q.Denot g.row.A.Denot). Guided g.M.Matcher.guided g.M.Matcher.Learns
    c.args.instrument c.args.price c.midpoint-answer.result b (now g c)) c.self.view_is
    (record { told = c.midpoint-answer.ensures; log = grown g c; desk = refl })

pub returns-clause-made : goal.returns-clause-made
returns-clause-made g c =
    subst (λ (b : Ends g.row.M.Denot g.row.Q.Denot g.row.A.Denot). Steps g.M.Matcher.Did g.M.Matcher.guided
    g.M.Matcher.Learns g.Q.Question.answer (Tell c.args.instrument c.args.price) b (now g c))
    c.self.view_is
    (record {
      entry = Midpoint c.args.instrument c.args.price c.midpoint-answer.result;
      same = refl;
      log = grown g c;
      takes = (c.midpoint-answer.ensures, refl);
    })
