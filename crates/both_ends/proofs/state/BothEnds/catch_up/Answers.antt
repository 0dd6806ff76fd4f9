use Rattle.std.proofs.Common.{Ok, Err, Result, OnOk}
use Rattle.both_ends.proofs.Passing.{more_downloads}
use Rattle.both_ends.proofs.Reaching.{all_level, allows, lines_on, not_failed, reached_as}
use Rattle.both_ends.proofs.state.BothEnds.catch_up.Goals as goal

pub returns-in_err-level-clause-allowed : goal.returns-in_err-level-clause-allowed
returns-in_err-level-clause-allowed g c =
    allows g.M.Matcher.Did g.M.Matcher.guided g.M.Matcher.Learns g.Q.Question.answer c.args.line c.args.self.now c.level.new.self
    (not_failed c.args.line c.log.result.now c.args.self.now.log c.in_ok-has_failed.field-0 c.log.ensures
    c.in_ok-has_failed.ensures c.if-branch.false)
    (reached_as g.M.Matcher.meaning g.M.Matcher.Did g.M.Matcher.guided g.M.Matcher.Learns g.Q.Question.answer _ c.args.self.now c.self.invariant c.self.view_is)
    c.level.ensures.line

pub returns-in_err-level-2-clause-calls : goal.returns-in_err-level-2-clause-calls
returns-in_err-level-2-clause-calls g c =
    more_downloads g.M.Matcher.Did g.M.Matcher.guided g.M.Matcher.Learns g.Q.Question.answer c.args.line c.args.self.now c.level.new.self c.level-2.new.self
    c.level.ensures.calls c.level-2.ensures.calls

pub returns-in_err-level-2-clause-allowed : goal.returns-in_err-level-2-clause-allowed
returns-in_err-level-2-clause-allowed g c =
    allows g.M.Matcher.Did g.M.Matcher.guided g.M.Matcher.Learns g.Q.Question.answer c.args.line c.args.self.now c.level-2.new.self
    (not_failed c.args.line c.log.result.now c.args.self.now.log c.in_ok-has_failed.field-0 c.log.ensures
    c.in_ok-has_failed.ensures c.if-branch.false)
    (reached_as g.M.Matcher.meaning g.M.Matcher.Did g.M.Matcher.guided g.M.Matcher.Learns g.Q.Question.answer _ c.args.self.now c.self.invariant c.self.view_is)
    (lines_on g.M.Matcher.Did g.M.Matcher.guided g.M.Matcher.Learns g.Q.Question.answer c.args.line c.args.self.now c.level.new.self c.level-2.new.self
    c.level.ensures.calls c.level.ensures.line c.level-2.ensures.line)

pub returns-clause-calls : goal.returns-clause-calls
returns-clause-calls g c =
    more_downloads g.M.Matcher.Did g.M.Matcher.guided g.M.Matcher.Learns g.Q.Question.answer c.args.line c.args.self.now c.level-2.new.self c.level-3.new.self
    (more_downloads g.M.Matcher.Did g.M.Matcher.guided g.M.Matcher.Learns g.Q.Question.answer c.args.line c.args.self.now c.level.new.self c.level-2.new.self
    c.level.ensures.calls c.level-2.ensures.calls) c.level-3.ensures.calls

pub returns-clause-allowed : goal.returns-clause-allowed
returns-clause-allowed g c =
    let two = more_downloads g.M.Matcher.Did g.M.Matcher.guided g.M.Matcher.Learns g.Q.Question.answer c.args.line c.args.self.now c.level.new.self c.level-2.new.self
    c.level.ensures.calls c.level-2.ensures.calls in
    allows g.M.Matcher.Did g.M.Matcher.guided g.M.Matcher.Learns g.Q.Question.answer c.args.line c.args.self.now c.level-3.new.self
    (not_failed c.args.line c.log.result.now c.args.self.now.log c.in_ok-has_failed.field-0 c.log.ensures
    c.in_ok-has_failed.ensures c.if-branch.false)
    (reached_as g.M.Matcher.meaning g.M.Matcher.Did g.M.Matcher.guided g.M.Matcher.Learns g.Q.Question.answer _ c.args.self.now c.self.invariant c.self.view_is)
    (lines_on g.M.Matcher.Did g.M.Matcher.guided g.M.Matcher.Learns g.Q.Question.answer c.args.line c.args.self.now c.level-2.new.self c.level-3.new.self two
    (lines_on g.M.Matcher.Did g.M.Matcher.guided g.M.Matcher.Learns g.Q.Question.answer c.args.line c.args.self.now c.level.new.self c.level-2.new.self
    c.level.ensures.calls c.level.ensures.line c.level-2.ensures.line) c.level-3.ensures.line)

on_ok : {T E P Q : Type 0} (r : Result T E) → OnOk r P → (P → Q) → OnOk r Q
on_ok (Ok x) p f = f p
on_ok (Err e) p f = tt

pub returns-clause-level : goal.returns-clause-level
returns-clause-level g c = on_ok c.level-3.result c.level-3.ensures.levelled (λ third can.
    all_level g.M.Matcher.Did g.M.Matcher.guided g.M.Matcher.Learns g.Q.Question.answer c.args.line c.args.self.now c.level.new.self c.level-2.new.self c.level-3.new.self
    (reached_as g.M.Matcher.meaning g.M.Matcher.Did g.M.Matcher.guided g.M.Matcher.Learns g.Q.Question.answer _ c.args.self.now c.self.invariant c.self.view_is) can
    c.in_ok-level.ensures.levelled c.in_ok-level-2.ensures.levelled third)
