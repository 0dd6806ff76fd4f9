use Rattle.std.proofs.Common.{◌≡◌, sym, ◌∙◌, None}
use Rattle.std.specs.FinMap.{get}
use Rattle.book_pair.proofs.Pairs.{cancel_first, cancel_second, uncancelled_first, uncancelled_second, unknown_of}
use Rattle.book_pair.proofs.pair.BookPairMatcher.cancel.Goals as goal

pub invariant_of-self : goal.invariant_of-self
invariant_of-self g c =
    let p = c.args.self.now in
    let a = g.A.Matcher.meaning p.first in
    let b = g.B.Matcher.meaning p.second in
    let k = cancel_first a (g.A.Matcher.meaning c.cancel.new.self) b c.args.number c.cancel.result p.apart p.roomy
    (p.apart c.args.number (sym c.if-is_open.ensures)) c.cancel.ensures.after in
    record { apart = k.apart; roomy = k.roomy }

pub invariant_of-self-else-is_open : goal.invariant_of-self-else-is_open
invariant_of-self-else-is_open g c =
    let p = c.args.self.now in
    let a = g.A.Matcher.meaning p.first in
    let b = g.B.Matcher.meaning p.second in
    let n = c.cancel-else-is_open in
    let k = cancel_second a b (g.B.Matcher.meaning n.new.self) c.args.number n.result p.apart p.roomy
    (unknown_of (get a.orders c.args.number) (sym c.if-is_open.ensures)) n.ensures.after in
    record { apart = k.apart; roomy = k.roomy }

pub returns-then-is_open-clause-refusal : goal.returns-then-is_open-clause-refusal
returns-then-is_open-clause-refusal g c =
    let p = c.args.self.now in
    let a = g.A.Matcher.meaning p.first in
    let b = g.B.Matcher.meaning p.second in
    c.cancel.ensures.refusal
    ∙ uncancelled_first a b c.args.number (p.apart c.args.number (sym c.if-is_open.ensures))

pub returns-then-is_open-clause-after : goal.returns-then-is_open-clause-after
returns-then-is_open-clause-after g c =
    let p = c.args.self.now in
    let a = g.A.Matcher.meaning p.first in
    let b = g.B.Matcher.meaning p.second in
    (cancel_first a (g.A.Matcher.meaning c.cancel.new.self) b c.args.number c.cancel.result p.apart p.roomy
    (p.apart c.args.number (sym c.if-is_open.ensures)) c.cancel.ensures.after).after

pub returns-else-is_open-clause-refusal : goal.returns-else-is_open-clause-refusal
returns-else-is_open-clause-refusal g c =
    let p = c.args.self.now in
    let a = g.A.Matcher.meaning p.first in
    let b = g.B.Matcher.meaning p.second in
    c.cancel-else-is_open.ensures.refusal
    ∙ uncancelled_second a b c.args.number
    (unknown_of (get a.orders c.args.number) (sym c.if-is_open.ensures))

pub returns-else-is_open-clause-after : goal.returns-else-is_open-clause-after
returns-else-is_open-clause-after g c =
    let p = c.args.self.now in
    let a = g.A.Matcher.meaning p.first in
    let b = g.B.Matcher.meaning p.second in
    let n = c.cancel-else-is_open in
    (cancel_second a b (g.B.Matcher.meaning n.new.self) c.args.number n.result p.apart p.roomy
    (unknown_of (get a.orders c.args.number) (sym c.if-is_open.ensures)) n.ensures.after).after
