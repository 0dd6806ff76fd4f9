use Rattle.std.specs.Prelude.{◌≤◌, ◌+◌, refl, vec_items}
use Rattle.std.proofs.Common.{sym, ap, ◌∙◌, subst, arith}
use Rattle.orders.specs.Tables.{open_count}
use Rattle.orders.specs.Trades.{void_fault, Voids}
use Rattle.venue.specs.Acts.{voided}
use Rattle.venue.specs.Books.{Books, Over, Sound}
use Rattle.venue.specs.Inside.{shown}
use Rattle.venue.specs.Ledger.{Ledger}
use Rattle.venue.proofs.Rebuilt.{same_books}
use Rattle.venue.proofs.Summing.{count-undone, sound-undone, stands_from, undo_between, undo_first, undo_second}
use Rattle.venue.proofs.venue.Venue.undo.Goals as goal

pub undo-requires-clause-first : goal.undo-requires-clause-first
undo-requires-clause-first g c =
    let b = (shown g.M.Matcher g.S.Store c.self.inside).state in
    let cancelled = subst (λ r. Voids b.trades c.args.number r c.cancel.new.self) c.unwrap-trade.ensures
    c.cancel.ensures in
    let stands = stands_from c.unwrap-trade.result (ap void_fault (sym cancelled.1) ∙ cancelled.0) in
    undo_first b c.args.time c.args.number c.unwrap-trade.result c.self.invariant.sound cancelled.1 stands

pub undo-requires-clause-between : goal.undo-requires-clause-between
undo-requires-clause-between g c =
    let b = (shown g.M.Matcher g.S.Store c.self.inside).state in
    let cancelled = subst (λ r. Voids b.trades c.args.number r c.cancel.new.self) c.unwrap-trade.ensures
    c.cancel.ensures in
    let stands = stands_from c.unwrap-trade.result (ap void_fault (sym cancelled.1) ∙ cancelled.0) in
    undo_between b c.args.time c.args.number c.unwrap-trade.result c.self.invariant.sound cancelled.1 stands

pub undo-requires-clause-second : goal.undo-requires-clause-second
undo-requires-clause-second g c =
    let b = (shown g.M.Matcher g.S.Store c.self.inside).state in
    let cancelled = subst (λ r. Voids b.trades c.args.number r c.cancel.new.self) c.unwrap-trade.ensures
    c.cancel.ensures in
    let stands = stands_from c.unwrap-trade.result (ap void_fault (sym cancelled.1) ∙ cancelled.0) in
    undo_second b c.args.time c.args.number c.unwrap-trade.result c.self.invariant.sound cancelled.1 stands

pub invariant_of-self : goal.invariant_of-self
invariant_of-self g c =
    let b = (shown g.M.Matcher g.S.Store c.self.inside).state in
    let cancelled = subst (λ r. Voids b.trades c.args.number r c.cancel.new.self) c.unwrap-trade.ensures
    c.cancel.ensures in
    let stands = stands_from c.unwrap-trade.result (ap void_fault (sym cancelled.1) ∙ cancelled.0) in
    let spare = subst (λ (x : Over Books _). open_count x.state.rows + 4 ≤ x.free) (sym c.self.view_is)
    c.requires.spare in
    let made = same_books _ _ _ _ _ _ _ _ _ (ap vec_items c.undo.ensures.same) c.undo.ensures.after cancelled.2 refl
    ∙ sym (ap (λ o. voided c.args.time c.args.number o b) cancelled.1) in
    let count = count-undone b c.args.time c.args.number c.unwrap-trade.result c.self.invariant.sound cancelled.1 stands in
    let rows = ap (λ (l : Ledger). open_count l.rows) c.undo.ensures.after in
    record {
      sound = subst Sound (sym made) (sound-undone b c.args.time c.args.number c.unwrap-trade.result c.self.invariant.sound
          cancelled.1 stands);
      spare = omega arith;
    }
