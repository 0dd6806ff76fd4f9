use Rattle.std.specs.Prelude.{◌≤◌, ◌<◌, ◌+◌, length, refl, vec_items}
use Rattle.std.proofs.Common.{sym, ap, ◌∙◌, subst, arith}
use Rattle.limits.specs.declared.TheConstants.{ORDERS}
use Rattle.matching.specs.Meaning.{held_of, opened}
use Rattle.matching.specs.declared.matcher.Ticket.{Ticket}
use Rattle.orders.specs.Tables.{open_count}
use Rattle.venue.specs.Books.{Books, Over, Sound}
use Rattle.venue.specs.Inside.{shown}
use Rattle.venue.specs.Ledger.{Ledger}
use Rattle.venue.proofs.Keeps.{count-opened, sound-opened}
use Rattle.venue.proofs.Rebuilt.{same_books}
use Rattle.venue.proofs.venue.Venue.open.Goals as goal

pub invariant_of-self : goal.invariant_of-self
invariant_of-self g c =
    let b = (shown g.M.Matcher g.S.Store c.self.inside).state in
    let t = c.args.time in
    let s = c.args.terms in
    let a = c.args.ask in
    let k = c.self.invariant.sound in
    let placed = subst (λ (x : Over Books _). s.instrument < length x.state.instruments) (sym c.self.view_is)
    c.requires.placed in
    let room = subst (λ (x : Over Books _). length x.state.rows < ORDERS) (sym c.self.view_is) c.requires.room in
    let spare = subst (λ (x : Over Books _). open_count x.state.rows + 2 ≤ x.free) (sym c.self.view_is)
    c.requires.spare in
    let count = count-opened b t s a k c.requires.orderable in
    let rows = ap (λ (l : Ledger). open_count l.rows) c.open.ensures.after in
    let number = ap (λ k. k + 1) c.len-number.ensures.value in
    let market = c.enter.ensures.after
    ∙ ap (λ (q : Ticket). opened b.market (c.len-number.result + 1) (held_of q)) c.ticket_of.ensures
    ∙ ap (λ k. opened b.market k (record { instrument = s.instrument; quantity = a.quantity })) number in
    let made = same_books _ _ _ _ _ _ _ _ _ (ap vec_items c.open.ensures.same) c.open.ensures.after refl market in
    record {
      sound = subst Sound (sym made) (sound-opened b t s a k c.requires.orderable placed room);
      spare = omega arith;
    }
