use Rattle.std.proofs.Common.{◌≡◌, sym, ap, ◌∙◌, arith}
use Rattle.std.specs.FinMap.{get}
use Rattle.matching.specs.Meaning.{held_of}
use Rattle.book_pair.specs.Unions.{union}
use Rattle.book_pair.proofs.Pairs.{Free, enter_first, enter_second, refused_first, refused_second, unknown_of}
use Rattle.book_pair.proofs.pair.BookPairMatcher.enter.Goals as goal

pub invariant_of-self : goal.invariant_of-self
invariant_of-self g c =
    let p = c.args.self.now in
    let a = g.A.Matcher.meaning p.first in
    let b = g.B.Matcher.meaning p.second in
    let f : Free a b c.args.number c.args.terms.quantity = record {
      some = λ e. (let z = c.if-terms-eq0.false in absurd (z e));
      unknown = unknown_of (get (union a.orders b.orders) c.args.number) (sym c.if-is_open.ensures);
      room = omega (arith, c.open_count.ensures, c.capacity.ensures, c.if-open_count-capacity.false);
    } in
    let k = enter_first a (g.A.Matcher.meaning c.enter.new.self) b c.args.number c.args.terms.quantity
    (held_of c.args.terms) c.enter.result p.apart p.roomy f c.enter.ensures.after in
    record { apart = k.apart; roomy = k.roomy }

pub returns-then-serves-clause-refusal : goal.returns-then-serves-clause-refusal
returns-then-serves-clause-refusal g c =
    let p = c.args.self.now in
    let a = g.A.Matcher.meaning p.first in
    let b = g.B.Matcher.meaning p.second in
    let f : Free a b c.args.number c.args.terms.quantity = record {
      some = λ e. (let z = c.if-terms-eq0.false in absurd (z e));
      unknown = unknown_of (get (union a.orders b.orders) c.args.number) (sym c.if-is_open.ensures);
      room = omega (arith, c.open_count.ensures, c.capacity.ensures, c.if-open_count-capacity.false);
    } in
    c.enter.ensures.refusal ∙ refused_first a b c.args.number c.args.terms.quantity p.apart f

pub returns-then-serves-clause-after : goal.returns-then-serves-clause-after
returns-then-serves-clause-after g c =
    let p = c.args.self.now in
    let a = g.A.Matcher.meaning p.first in
    let b = g.B.Matcher.meaning p.second in
    let f : Free a b c.args.number c.args.terms.quantity = record {
      some = λ e. (let z = c.if-terms-eq0.false in absurd (z e));
      unknown = unknown_of (get (union a.orders b.orders) c.args.number) (sym c.if-is_open.ensures);
      room = omega (arith, c.open_count.ensures, c.capacity.ensures, c.if-open_count-capacity.false);
    } in
    let k = enter_first a (g.A.Matcher.meaning c.enter.new.self) b c.args.number c.args.terms.quantity
    (held_of c.args.terms) c.enter.result p.apart p.roomy f c.enter.ensures.after in
    k.after

pub invariant_of-self-else-serves : goal.invariant_of-self-else-serves
invariant_of-self-else-serves g c =
    let p = c.args.self.now in
    let a = g.A.Matcher.meaning p.first in
    let b = g.B.Matcher.meaning p.second in
    let f : Free a b c.args.number c.args.terms.quantity = record {
      some = λ e. (let z = c.if-terms-eq0.false in absurd (z e));
      unknown = unknown_of (get (union a.orders b.orders) c.args.number) (sym c.if-is_open.ensures);
      room = omega (arith, c.open_count.ensures, c.capacity.ensures, c.if-open_count-capacity.false);
    } in
    let n = c.enter-else-serves in
    let k = enter_second a b (g.B.Matcher.meaning n.new.self) c.args.number c.args.terms.quantity
    (held_of c.args.terms) n.result p.apart p.roomy f n.ensures.after in
    record { apart = k.apart; roomy = k.roomy }

pub returns-else-serves-clause-refusal : goal.returns-else-serves-clause-refusal
returns-else-serves-clause-refusal g c =
    let p = c.args.self.now in
    let a = g.A.Matcher.meaning p.first in
    let b = g.B.Matcher.meaning p.second in
    let f : Free a b c.args.number c.args.terms.quantity = record {
      some = λ e. (let z = c.if-terms-eq0.false in absurd (z e));
      unknown = unknown_of (get (union a.orders b.orders) c.args.number) (sym c.if-is_open.ensures);
      room = omega (arith, c.open_count.ensures, c.capacity.ensures, c.if-open_count-capacity.false);
    } in
    c.enter-else-serves.ensures.refusal ∙ refused_second a b c.args.number c.args.terms.quantity p.apart f

pub returns-else-serves-clause-after : goal.returns-else-serves-clause-after
returns-else-serves-clause-after g c =
    let p = c.args.self.now in
    let a = g.A.Matcher.meaning p.first in
    let b = g.B.Matcher.meaning p.second in
    let f : Free a b c.args.number c.args.terms.quantity = record {
      some = λ e. (let z = c.if-terms-eq0.false in absurd (z e));
      unknown = unknown_of (get (union a.orders b.orders) c.args.number) (sym c.if-is_open.ensures);
      room = omega (arith, c.open_count.ensures, c.capacity.ensures, c.if-open_count-capacity.false);
    } in
    let n = c.enter-else-serves in
    let k = enter_second a b (g.B.Matcher.meaning n.new.self) c.args.number c.args.terms.quantity
    (held_of c.args.terms) n.result p.apart p.roomy f n.ensures.after in
    k.after
