use Rattle.std.specs.Prelude.{nat_lt}
use Rattle.std.specs.Vec.{vec_len}
use Rattle.std.proofs.lemmas.Bool.{eqb-true, eq-eqb, true≢false}
use Rattle.std.proofs.Common.{◌≡◌, ◌≢◌, ◌⊎◌, inl, inr, List, [], ◌∷◌, Bool, true, false, ap, eqb, ◌∙◌, sym, refl, subst, arith, length, Vec, Global, ℕ}
use Rattle.codes.specs.Session.{partition_code}
use Rattle.both_ends.proofs.Passing.{more_downloads}
use Rattle.both_ends.proofs.Reaching.{Tried, ask_tried, ask_tried_line, asks, loads, loads_line, not_asked}
use Rattle.follower.specs.Following.{Following}
use Rattle.partitions.specs.PerPartition.{at}
use Rattle.both_ends.specs.Both.{Ends}
use Rattle.both_ends.specs.Downloading.{Passes}
use Rattle.both_ends.specs.declared.call.Call.TheVariants.{Ask}
use Rattle.wire.specs.declared.message.TheConstants.{BUFFER}
use Rattle.both_ends.proofs.state.BothEnds.download.Goals as goal
use Rattle.both_ends.proofs.state.BothEnds.download.Given.{Over}

is_wide : (v : Vec ℕ Global) → length v.items ≡ 512 → nat_lt (length v.items) BUFFER ≡ false
is_wide v e = ap (λ n. nat_lt n BUFFER) e

is_none : (xs : List ℕ) → length xs ≡ 0 → xs ≡ []
is_none [] e = refl
is_none (x ∷ xs) e = absurd (omega arith)

none_asked : (v : Vec ℕ Global) → true ≡ eqb (vec_len v) 0 → v.items ≡ []
none_asked v e = is_none v.items (sym v.ok.0 ∙ eqb-true (vec_len v) 0 (sym e))

some_asked : (v : Vec ℕ Global) → false ≡ eqb (vec_len v) 0 → v.items ≢ []
some_asked v e h = true≢false (sym (eq-eqb (vec_len v) 0 (v.ok.0 ∙ ap length h)) ∙ sym e)

pub returns-in_err-request-clause-calls : goal.returns-in_err-request-clause-calls
returns-in_err-request-clause-calls g c = ask_tried g.M.Matcher.Did g.M.Matcher.guided g.M.Matcher.Learns g.Q.Question.answer c.args.line c.byte.result
    c.in_ok-buffer.field-0 c.args.self.now c.pass.new.self c.in_err-request.ensures.error

pub returns-in_err-request-clause-line : goal.returns-in_err-request-clause-line
returns-in_err-request-clause-line g c = ask_tried_line g.M.Matcher.Did g.M.Matcher.guided g.M.Matcher.Learns g.Q.Question.answer c.args.line c.byte.result
    c.in_ok-buffer.field-0 c.args.self.now c.pass.new.self c.in_err-request.ensures.error

nothing_asked : (g : Over) (c : goal.After-drop-request g) → Tried g.M.Matcher.Did g.M.Matcher.guided g.M.Matcher.Learns g.Q.Question.answer c.args.line
    c.args.partition false c.args.self.now c.pass.new.self
nothing_asked g c = not_asked g.M.Matcher.Did g.M.Matcher.guided g.M.Matcher.Learns g.Q.Question.answer c.args.line c.args.partition c.in_ok-buffer.field-0
    (is_wide c.in_ok-buffer.field-0 c.in_ok-buffer.ensures) c.in_ok-request.request.items c.args.self.now c.pass.new.self
    (subst (λ n. Passes g.M.Matcher.Did (Ask n c.in_ok-buffer.field-0) c.in_ok-request.request.items c.args.self.now
    c.pass.new.self) c.byte.ensures c.in_ok-request.ensures.passed)
    (none_asked c.in_ok-request.request c.if-is_empty.ensures)

pub returns-then-is_empty-clause-calls : goal.returns-then-is_empty-clause-calls
returns-then-is_empty-clause-calls g c = (nothing_asked g c).calls

pub returns-then-is_empty-clause-line : goal.returns-then-is_empty-clause-line
returns-then-is_empty-clause-line g c = (nothing_asked g c).line

pub returns-then-is_empty-clause-whole : goal.returns-then-is_empty-clause-whole
returns-then-is_empty-clause-whole g c = (nothing_asked g c).whole

-- ---- a request was written

pub returns-in_err-load-clause-calls : goal.returns-in_err-load-clause-calls
returns-in_err-load-clause-calls g c =
    more_downloads g.M.Matcher.Did g.M.Matcher.guided g.M.Matcher.Learns g.Q.Question.answer c.args.line c.args.self.now c.pass.new.self c.load.new.self
    (asks g.M.Matcher.Did g.M.Matcher.guided g.M.Matcher.Learns g.Q.Question.answer c.args.line c.args.partition c.in_ok-buffer.field-0
    (is_wide c.in_ok-buffer.field-0 c.in_ok-buffer.ensures) c.in_ok-request.request.items c.args.self.now c.pass.new.self
    (subst (λ n. Passes g.M.Matcher.Did (Ask n c.in_ok-buffer.field-0) c.in_ok-request.request.items c.args.self.now
    c.pass.new.self) c.byte.ensures c.in_ok-request.ensures.passed)) c.load.ensures.calls

pub returns-in_err-load-clause-line : goal.returns-in_err-load-clause-line
returns-in_err-load-clause-line g c =
    loads_line g.M.Matcher.Did g.M.Matcher.guided g.M.Matcher.Learns g.Q.Question.answer c.args.line c.args.partition c.in_ok-buffer.field-0
    (is_wide c.in_ok-buffer.field-0 c.in_ok-buffer.ensures) c.in_ok-request.request.items c.args.self.now c.pass.new.self
    (subst (λ n. Passes g.M.Matcher.Did (Ask n c.in_ok-buffer.field-0) c.in_ok-request.request.items c.args.self.now
    c.pass.new.self) c.byte.ensures c.in_ok-request.ensures.passed) c.load.new.self
    (some_asked c.in_ok-request.request c.if-is_empty.ensures) c.load.ensures.line

asked : (g : Over) (c : goal.After-is_further g) → Tried g.M.Matcher.Did g.M.Matcher.guided g.M.Matcher.Learns g.Q.Question.answer c.args.line
    c.args.partition c.is_further.result c.args.self.now c.load.new.self
asked g c =
    loads g.M.Matcher.Did g.M.Matcher.guided g.M.Matcher.Learns g.Q.Question.answer c.args.line c.args.partition c.in_ok-buffer.field-0
    (is_wide c.in_ok-buffer.field-0 c.in_ok-buffer.ensures) c.in_ok-request.request.items c.args.self.now c.pass.new.self
    (subst (λ n. Passes g.M.Matcher.Did (Ask n c.in_ok-buffer.field-0) c.in_ok-request.request.items c.args.self.now
    c.pass.new.self) c.byte.ensures c.in_ok-request.ensures.passed) c.is_further.result c.load.new.self
    (some_asked c.in_ok-request.request c.if-is_empty.ensures) c.load.ensures.calls c.load.ensures.line
    c.in_ok-load.ensures.whole c.is_further.ensures.level
    (λ ne. c.is_further.ensures.moved (λ e. ne (e ∙ (c.place-place.ensures
    ∙ ap (λ (f : Following). (at f.sides c.args.partition).place) c.follower.ensures))))

pub returns-clause-calls : goal.returns-clause-calls
returns-clause-calls g c = (asked g c).calls

pub returns-clause-line : goal.returns-clause-line
returns-clause-line g c = (asked g c).line

pub returns-clause-whole : goal.returns-clause-whole
returns-clause-whole g c = (asked g c).whole
