use Rattle.std.proofs.Common.{◌≡◌, ◌<◌, true, false, sym, subst}
use Rattle.both_ends.proofs.Reaching.{both_calls, both_line, none_made, one_made}
use Rattle.both_ends.specs.Catching.{granted}
use Rattle.both_ends.specs.Downloading.{Downloaded, Ready}
use Rattle.both_ends.proofs.state.BothEnds.level.Goals as goal
use Rattle.both_ends.proofs.state.BothEnds.level.Given.{Over}

pub returns-in_err-download-clause-calls : goal.returns-in_err-download-clause-calls
returns-in_err-download-clause-calls g c =
    both_calls g.M.Matcher.Did g.M.Matcher.guided g.M.Matcher.Learns g.Q.Question.answer c.args.line c.args.partition c.args.self.now c.loop-asked.asked
    c.loop-asked.self c.loop-asked.invariant c.download.new.self (sym c.if-is_level.ensures) c.download.ensures.calls
    c.download.ensures.line

pub returns-in_err-download-clause-line : goal.returns-in_err-download-clause-line
returns-in_err-download-clause-line g c =
    both_line g.M.Matcher.Did g.M.Matcher.guided g.M.Matcher.Learns g.Q.Question.answer c.args.line c.args.partition c.args.self.now c.loop-asked.asked
    c.loop-asked.self c.loop-asked.invariant c.download.new.self (sym c.if-is_level.ensures) c.download.ensures.calls
    c.download.ensures.line

pub returns-then-not-branch-clause-calls : goal.returns-then-not-branch-clause-calls
returns-then-not-branch-clause-calls g c =
    both_calls g.M.Matcher.Did g.M.Matcher.guided g.M.Matcher.Learns g.Q.Question.answer c.args.line c.args.partition c.args.self.now c.loop-asked.asked
    c.loop-asked.self c.loop-asked.invariant c.download.new.self (sym c.if-is_level.ensures) c.download.ensures.calls
    c.download.ensures.line

pub returns-then-not-branch-clause-line : goal.returns-then-not-branch-clause-line
returns-then-not-branch-clause-line g c =
    both_line g.M.Matcher.Did g.M.Matcher.guided g.M.Matcher.Learns g.Q.Question.answer c.args.line c.args.partition c.args.self.now c.loop-asked.asked
    c.loop-asked.self c.loop-asked.invariant c.download.new.self (sym c.if-is_level.ensures) c.download.ensures.calls
    c.download.ensures.line

pub loop-asked-preserved : goal.loop-asked-preserved
loop-asked-preserved g c =
    one_made g.M.Matcher.Did g.M.Matcher.guided g.M.Matcher.Learns g.Q.Question.answer c.args.line c.args.partition c.args.self.now c.loop-asked.asked
    c.loop-asked.self c.loop-asked.invariant c.download.new.self (sym c.if-is_level.ensures) c.download.ensures.calls
    c.download.ensures.line (subst (λ b. Ready c.args.line c.loop-asked.self
    → granted c.args.line c.loop-asked.self.gateway.state < 48
    → (b ≡ true) × Downloaded c.args.line c.args.partition c.loop-asked.self c.download.new.self) c.if-not-branch.false
    c.in_ok-download.ensures.whole)
