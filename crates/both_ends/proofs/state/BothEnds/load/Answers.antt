use Rattle.std.specs.Prelude.{nat_lt}
use Rattle.std.proofs.Common.{◌≡◌, ◌≢◌, ◌⊎◌, inl, inr, List, Bool, true, false, Ok, Err, Result, OnErr, ap, sym, refl, subst, arith, length, Vec, Global, ℕ}
use Rattle.std.proofs.lemmas.Bool.{true≢false}
use Rattle.both_ends.proofs.Passing.{no_downloads}
use Rattle.both_ends.proofs.Whole.{Loaded, Stopped, UnderWay, all_out, is_granted, none_out, not_given, not_granted, not_sent, one_out, stopped}
use Rattle.both_ends.specs.Both.{Ends}
use Rattle.both_ends.specs.Downloading.{Exchanges}
use Rattle.follower.specs.declared.stage.Stage.TheVariants.{Idle}
use Rattle.gateway_runs.specs.declared.call.Call.TheVariants.{Recovery, SendRecovered}
use Rattle.wire.specs.declared.message.TheConstants.{BUFFER}
use Rattle.both_ends.proofs.state.BothEnds.load.Goals as goal
use Rattle.both_ends.proofs.state.BothEnds.load.Given.{Over}

is_wide : (v : Vec ℕ Global) → length v.items ≡ 512 → nat_lt (length v.items) BUFFER ≡ false
is_wide v e = ap (λ n. nat_lt n BUFFER) e

pub returns-in_err-buffer-clause-calls : goal.returns-in_err-buffer-clause-calls
returns-in_err-buffer-clause-calls g c =
    no_downloads g.M.Matcher.Did g.M.Matcher.guided g.M.Matcher.Learns g.Q.Question.answer c.args.line c.args.self.now c.args.self.now refl

-- ---- the request is given

given_not : (g : Over) (c : goal.After-from_residual-in_err-exchange g) → Stopped g.M.Matcher.Did g.M.Matcher.guided g.M.Matcher.Learns g.Q.Question.answer c.args.line
    c.args.request.items c.args.self.now c.exchange.new.self
given_not g c = not_given g.M.Matcher.Did g.M.Matcher.guided g.M.Matcher.Learns g.Q.Question.answer c.args.line c.args.request c.args.time
    c.in_ok-buffer.field-0 (is_wide c.in_ok-buffer.field-0 c.in_ok-buffer.ensures) c.args.self.now c.exchange.new.self
    c.in_err-exchange.ensures.error

pub returns-in_err-exchange-clause-calls : goal.returns-in_err-exchange-clause-calls
returns-in_err-exchange-clause-calls g c = (given_not g c).calls

pub returns-in_err-exchange-clause-line : goal.returns-in_err-exchange-clause-line
returns-in_err-exchange-clause-line g c = (given_not g c).line

given_nothing : (g : Over) (c : goal.Then-not-branch g) → Loaded g.M.Matcher.Did g.M.Matcher.guided g.M.Matcher.Learns g.Q.Question.answer c.args.line
    c.args.request.items c.args.self.now c.exchange.new.self
given_nothing g c =
    not_granted g.M.Matcher.Did g.M.Matcher.guided g.M.Matcher.Learns g.Q.Question.answer c.args.line c.args.request c.args.time c.in_ok-buffer.field-0
    (is_wide c.in_ok-buffer.field-0 c.in_ok-buffer.ensures) c.args.self.now c.exchange.new.self
    (subst (λ b. Exchanges g.M.Matcher.Did (Recovery c.args.line c.args.request c.args.time c.in_ok-buffer.field-0) b
    c.args.self.now c.exchange.new.self) c.if-not-branch.true c.in_ok-exchange.ensures.exchanged)

pub returns-then-not-branch-clause-calls : goal.returns-then-not-branch-clause-calls
returns-then-not-branch-clause-calls g c = (given_nothing g c).calls

pub returns-then-not-branch-clause-line : goal.returns-then-not-branch-clause-line
returns-then-not-branch-clause-line g c = (given_nothing g c).line

pub returns-then-not-branch-clause-whole : goal.returns-then-not-branch-clause-whole
returns-then-not-branch-clause-whole g c = (given_nothing g c).whole

pub loop-sent-init : goal.loop-sent-init
loop-sent-init g c =
    is_granted g.M.Matcher.Did g.M.Matcher.guided g.M.Matcher.Learns g.Q.Question.answer c.args.line c.args.request c.args.time c.in_ok-buffer.field-0
    (is_wide c.in_ok-buffer.field-0 c.in_ok-buffer.ensures) c.args.self.now c.exchange.new.self
    (subst (λ b. Exchanges g.M.Matcher.Did (Recovery c.args.line c.args.request c.args.time c.in_ok-buffer.field-0) b
    c.args.self.now c.exchange.new.self) c.if-not-branch.false c.in_ok-exchange.ensures.exchanged)

-- ---- what is handed out

out_not : (g : Over) (c : goal.After-from_residual-in_err-exchange-2 g) → Stopped g.M.Matcher.Did g.M.Matcher.guided g.M.Matcher.Learns g.Q.Question.answer
    c.args.line c.args.request.items c.args.self.now c.exchange-in-loop-sent.new.self
out_not g c = not_sent g.M.Matcher.Did g.M.Matcher.guided g.M.Matcher.Learns g.Q.Question.answer c.args.line c.args.request.items c.args.self.now
    c.loop-sent.sent c.loop-sent.self c.loop-sent.invariant c.in_ok-buffer-2.field-0
    (is_wide c.in_ok-buffer-2.field-0 c.in_ok-buffer-2.ensures) c.exchange-in-loop-sent.new.self
    c.in_err-exchange-2.ensures.error

pub returns-in_err-exchange-2-clause-calls : goal.returns-in_err-exchange-2-clause-calls
returns-in_err-exchange-2-clause-calls g c = (out_not g c).calls

pub returns-in_err-exchange-2-clause-line : goal.returns-in_err-exchange-2-clause-line
returns-in_err-exchange-2-clause-line g c = (out_not g c).line

out_nothing : (g : Over) (c : goal.Then-not-branch-2 g) → Loaded g.M.Matcher.Did g.M.Matcher.guided g.M.Matcher.Learns g.Q.Question.answer c.args.line
    c.args.request.items c.args.self.now c.exchange-in-loop-sent.new.self
out_nothing g c = none_out g.M.Matcher.Did g.M.Matcher.guided g.M.Matcher.Learns g.Q.Question.answer c.args.line c.args.request.items c.args.self.now
    c.loop-sent.sent c.loop-sent.self c.loop-sent.invariant c.in_ok-buffer-2.field-0
    (is_wide c.in_ok-buffer-2.field-0 c.in_ok-buffer-2.ensures) (λ e. true≢false (sym (c.if-is_idle.ensures.1 e)))
    c.exchange-in-loop-sent.new.self
    (subst (λ b. Exchanges g.M.Matcher.Did (SendRecovered c.args.line c.in_ok-buffer-2.field-0) b c.loop-sent.self
    c.exchange-in-loop-sent.new.self) c.if-not-branch-2.true c.in_ok-exchange-2.ensures.exchanged)

pub returns-then-not-branch-2-clause-calls : goal.returns-then-not-branch-2-clause-calls
returns-then-not-branch-2-clause-calls g c = (out_nothing g c).calls

pub returns-then-not-branch-2-clause-line : goal.returns-then-not-branch-2-clause-line
returns-then-not-branch-2-clause-line g c = (out_nothing g c).line

pub returns-then-not-branch-2-clause-whole : goal.returns-then-not-branch-2-clause-whole
returns-then-not-branch-2-clause-whole g c = (out_nothing g c).whole

pub loop-sent-preserved : goal.loop-sent-preserved
loop-sent-preserved g c = one_out g.M.Matcher.Did g.M.Matcher.guided g.M.Matcher.Learns g.Q.Question.answer c.args.line c.args.request.items c.args.self.now
    c.loop-sent.sent c.loop-sent.self c.loop-sent.invariant c.in_ok-buffer-2.field-0
    (is_wide c.in_ok-buffer-2.field-0 c.in_ok-buffer-2.ensures) (λ e. true≢false (sym (c.if-is_idle.ensures.1 e)))
    c.exchange-in-loop-sent.new.self
    (subst (λ b. Exchanges g.M.Matcher.Did (SendRecovered c.args.line c.in_ok-buffer-2.field-0) b c.loop-sent.self
    c.exchange-in-loop-sent.new.self) c.if-not-branch-2.false c.in_ok-exchange-2.ensures.exchanged)

all_sent : (g : Over) (c : goal.After-loop-sent g) → Loaded g.M.Matcher.Did g.M.Matcher.guided g.M.Matcher.Learns g.Q.Question.answer c.args.line
    c.args.request.items c.args.self.now c.loop-sent.self
all_sent g c = all_out g.M.Matcher.Did g.M.Matcher.guided g.M.Matcher.Learns g.Q.Question.answer c.args.line c.args.request.items c.args.self.now
    c.loop-sent.sent c.loop-sent.self c.loop-sent.invariant (omega arith)

pub returns-clause-line : goal.returns-clause-line
returns-clause-line g c = (all_sent g c).line
