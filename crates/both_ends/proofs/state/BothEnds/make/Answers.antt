use Rattle.std.proofs.Common.{◌≡◌, ◌≤◌, List, [], ◌∷◌, ◌++◌, IfOk, length, subst, sym, ap, ◌∙◌}
use Rattle.both_ends.proofs.Kept.{ends, more}
use Rattle.both_ends.specs.Asking.{Moves}
use Rattle.both_ends.specs.Both.{Ends, Ran, Steps}
use Rattle.both_ends.specs.Runs.{Desk, Does, Sided, Tells, call_of}
use Rattle.both_ends.specs.declared.entry.Entry.{Entry}
use Rattle.both_ends.specs.declared.entry.Entry.TheVariants.{Made}
use Rattle.both_ends.specs.declared.entry.Step.TheVariants.{Make}
use Rattle.follower.specs.declared.pending.Pending.{Pending}
use Rattle.limits.specs.declared.TheConstants.{ORDERS}
use Rattle.venue.specs.Books.{Books, Over, Sound}
use Rattle.both_ends.proofs.state.BothEnds.make.Goals as goal
use Rattle.both_ends.proofs.state.BothEnds.make.Given.{Over as Given}

moved : (g : Given) (c : goal.After-push_reserved g) → Moves g.M.Matcher.Did c.self.inside.gateway
    (record { follower = c.self.inside.follower; token = c.self.inside.token }) c.in_ok-done.done
    c.make-done.new.gateway (record { follower = c.make-done.new.follower; token = c.make-done.result.1 })
moved g c =
    let e = c.make-done.ensures in
    let x = c.self.inside.gateway in
    let y = c.make-done.new.gateway in
    let f : Desk = record { follower = c.make-done.new.follower; token = c.make-done.result.1 } in
    let D : Pending → Desk = λ t. record { follower = c.self.inside.follower; token = t } in
    let was = c.in_ok-done.was in
    let is = c.replace-token.ensures.value in
    record {
      does = subst (λ t. Does x.state (D t) c.in_ok-done.done y.state f) is
          (subst (λ r. IfOk r (λ a. Does x.state (D c.replace-token.result) a y.state f)) was e.does);
      sided = subst (λ r. IfOk r (λ a. Sided g.M.Matcher.Did x a y)) was e.sided;
      told = subst (λ t. Tells x.state (D t) c.in_ok-done.done) is
          (subst (λ r. IfOk r (λ a. Tells x.state (D c.replace-token.result) a)) was e.told);
      sound = subst (λ (v : Over Books _). Sound v.state) c.venue.ensures c.sound.ensures.sound;
      few = subst (λ (v : Over Books _). length v.state.rows ≤ ORDERS) c.venue.ensures c.sound.ensures.few;
      tied = e.tie;
    }

grown : (g : Given) (c : goal.After-push_reserved g)
    → c.push_reserved.new.self.items ≡ c.self.inside.log.items ++ Made c.in_ok-done.done ∷ []
grown g c = c.push_reserved.ensures.items ∙ ap (λ l. l ++ Made c.in_ok-done.done ∷ []) c.reserve.ensures.items

pub invariant_of-self-2 : goal.invariant_of-self-2
invariant_of-self-2 g c =
    let m = g.M.Matcher.meaning in
    let did = g.M.Matcher.Did in
    let guided = g.M.Matcher.guided in
    let learns = g.M.Matcher.Learns in
    let answer = g.Q.Question.answer in
    let y = c.make-done.new.gateway in
    let f : Desk = record { follower = c.make-done.new.follower; token = c.make-done.result.1 } in
    let L : List (Entry g.row.Q.Denot g.row.A.Denot) → Type 0 = λ l. Ran m did guided learns answer (ends m did guided learns answer l y f) in
    subst L (sym (grown g c))
    (more m did guided learns answer _ c.self.inside.gateway _ (Made c.in_ok-done.done) y f c.self.invariant (moved g c)
    c.make-done.ensures.tie)

pub returns-clause-made : goal.returns-clause-made
returns-clause-made g c =
    let m = g.M.Matcher.meaning in
    let did = g.M.Matcher.Did in
    let guided = g.M.Matcher.guided in
    let learns = g.M.Matcher.Learns in
    let answer = g.Q.Question.answer in
    let y = c.make-done.new.gateway in
    let f : Desk = record { follower = c.make-done.new.follower; token = c.make-done.result.1 } in
    let e : Ends g.row.M.Denot g.row.Q.Denot g.row.A.Denot = ends m did guided learns answer c.push_reserved.new.self.items y f in
    subst (λ (b : Ends g.row.M.Denot g.row.Q.Denot g.row.A.Denot). Steps did guided learns answer (Make c.args.call) b e)
    c.self.view_is
    (record {
      entry = Made c.in_ok-done.done;
      same = ap Make (subst (λ r. IfOk r (λ a. call_of a ≡ c.args.call)) c.in_ok-done.was c.make-done.ensures.call);
      log = grown g c;
      takes = moved g c;
    })
