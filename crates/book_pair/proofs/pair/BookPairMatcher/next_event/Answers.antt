use Rattle.std.proofs.Common.{◌≡◌, sym, ap, ◌∙◌}
use Rattle.matching.specs.Meaning.{Meaning, happened}
use Rattle.matching.specs.declared.event.Event.{Event}
use Rattle.book_pair.proofs.Pairs.{allowed_first, allowed_second, next_first, next_second, quiet}
use Rattle.book_pair.proofs.pair.BookPairMatcher.next_event.Goals as goal

pub invariant_of-self : goal.invariant_of-self
invariant_of-self g c =
    let p = c.args.self.now in
    let a = g.A.Matcher.meaning p.first in
    let b = g.B.Matcher.meaning p.second in
    let n = c.next_event-event in
    let k = next_first a (g.A.Matcher.meaning n.new.self) b n.result p.apart p.roomy n.ensures.allowed n.ensures.after in
    record { apart = k.apart; roomy = k.roomy }

pub returns-then-happens-clause-allowed : goal.returns-then-happens-clause-allowed
returns-then-happens-clause-allowed g c =
    let p = c.args.self.now in
    let n = c.next_event-event in
    allowed_first (g.A.Matcher.meaning p.first) (g.B.Matcher.meaning p.second) n.result p.apart n.ensures.allowed

pub returns-then-happens-clause-after : goal.returns-then-happens-clause-after
returns-then-happens-clause-after g c =
    let p = c.args.self.now in
    let a = g.A.Matcher.meaning p.first in
    let b = g.B.Matcher.meaning p.second in
    let n = c.next_event-event in
    (next_first a (g.A.Matcher.meaning n.new.self) b n.result p.apart p.roomy n.ensures.allowed n.ensures.after).after

pub invariant_of-self-2 : goal.invariant_of-self-2
invariant_of-self-2 g c =
    let p = c.args.self.now in
    let a = g.A.Matcher.meaning p.first in
    let b = g.B.Matcher.meaning p.second in
    let m = c.next_event-event in
    let n = c.next_event in
    let same = m.ensures.after ∙ ap (happened a) (quiet m.result (sym c.if-happens.ensures)) in
    let k = next_second a (g.A.Matcher.meaning m.new.self) b (g.B.Matcher.meaning n.new.self) n.result p.apart p.roomy
    n.ensures.allowed same n.ensures.after in
    record { apart = k.apart; roomy = k.roomy }

pub returns-clause-allowed : goal.returns-clause-allowed
returns-clause-allowed g c =
    let p = c.args.self.now in
    let n = c.next_event in
    allowed_second (g.A.Matcher.meaning p.first) (g.B.Matcher.meaning p.second) n.result p.apart n.ensures.allowed

pub returns-clause-after : goal.returns-clause-after
returns-clause-after g c =
    let p = c.args.self.now in
    let a = g.A.Matcher.meaning p.first in
    let b = g.B.Matcher.meaning p.second in
    let m = c.next_event-event in
    let n = c.next_event in
    let same = m.ensures.after ∙ ap (happened a) (quiet m.result (sym c.if-happens.ensures)) in
    (next_second a (g.A.Matcher.meaning m.new.self) b (g.B.Matcher.meaning n.new.self) n.result p.apart p.roomy
    n.ensures.allowed same n.ensures.after).after
