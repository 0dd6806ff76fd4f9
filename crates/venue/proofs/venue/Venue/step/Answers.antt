use Rattle.std.specs.Prelude.{◌<◌, ◌≤◌, ◌+◌, [], ◌∷◌, ◌++◌, length, refl, vec_items}
use Rattle.std.proofs.Common.{sym, ap, ◌∙◌, subst, arith}
use Rattle.limits.specs.declared.TheConstants.{TRADES}
use Rattle.orders.specs.Tables.{open_count}
use Rattle.orders.specs.declared.trade.Trade.{Trade}
use Rattle.venue.specs.Books.{Books, Over, Sound}
use Rattle.venue.specs.Inside.{shown}
use Rattle.venue.specs.Ledger.{Ledger, Recorded, ledger}
use Rattle.venue.specs.Trading.{SideAllows, both_filled, filling, passive_filled, trade_of}
use Rattle.venue.specs.declared.trading.Deal.{Deal}
use Rattle.codes.specs.declared.report.Liquidity.TheVariants.{Removed}
use Rattle.venue.proofs.Rebuilt.{same_books}
use Rattle.venue.proofs.Summing.{count-expired, count-traded, ends_open, sound-expired, sound-traded, trade_between, trade_second, trade_noted}
use Rattle.venue.proofs.venue.Venue.step.Goals as goal

pub invariant_of-self-in-Expired : goal.invariant_of-self-in-Expired
invariant_of-self-in-Expired g c =
    let b = (shown g.M.Matcher g.S.Store c.self.inside).state in
    let n = c.in-Expired.number in
    let came = c.in-Expired.ensures {u = tt} in
    let opened = ends_open b n c.self.invariant.sound came.allowed in
    let made = same_books _ _ _ _ _ _ _ _ _ (ap vec_items c.expire.ensures.same) c.expire.ensures.after refl came.after in
    let count = count-expired b c.args.time n c.self.invariant.sound opened in
    let rows = ap (λ (l : Ledger). open_count l.rows) c.expire.ensures.after in
    let spare = c.self.invariant.spare in
    record {
      sound = subst Sound (sym made) (sound-expired b c.args.time n c.self.invariant.sound opened);
      spare = omega arith;
    }

pub trade-trade-requires-clause-between : goal.trade-trade-requires-clause-between
trade-trade-requires-clause-between g c =
    let b = (shown g.M.Matcher g.S.Store c.self.inside).state in
    let e = c.in-Trade in
    let came = c.in-Trade.ensures {u = tt} in
    let between = trade_between b c.args.time e.passive e.aggressive e.quantity e.price c.self.invariant.sound
    came.allowed in
    subst (λ (d : Deal). let l = passive_filled b.instruments c.args.time d e.passive (ledger b.rows b.kept) in
    Recorded b.instruments l.rows l.kept) (sym c.next-deal.ensures) between.recorded

pub trade-trade-requires-clause-second : goal.trade-trade-requires-clause-second
trade-trade-requires-clause-second g c =
    let b = (shown g.M.Matcher g.S.Store c.self.inside).state in
    let e = c.in-Trade in
    let came = c.in-Trade.ensures {u = tt} in
    subst (λ (d : Deal). SideAllows (filling d Removed) e.aggressive
    (passive_filled b.instruments c.args.time d e.passive (ledger b.rows b.kept)).rows) (sym c.next-deal.ensures)
    (trade_second b c.args.time e.passive e.aggressive e.quantity e.price c.self.invariant.sound came.allowed)

pub invariant_of-self-in-Trade : goal.invariant_of-self-in-Trade
invariant_of-self-in-Trade g c =
    let b = (shown g.M.Matcher g.S.Store c.self.inside).state in
    let e = c.in-Trade in
    let came = c.in-Trade.ensures {u = tt} in
    let s = c.self.invariant.sound in
    let spare = subst (λ (x : Over Books _). open_count x.state.rows + 2 ≤ x.free) (sym c.self.view_is)
    c.requires.spare in
    let room = subst (λ (x : Over Books _). length x.state.trades < TRADES) (sym c.self.view_is) c.requires.room in
    let told = c.trade-trade.ensures.after
    ∙ ap (λ d. both_filled b.instruments c.args.time d e.passive e.aggressive (ledger b.rows b.kept)) c.next-deal.ensures in
    let noted = trade_noted b.trades _ c.trade-trade.result c.add.result room c.add.ensures
    ∙ ap (λ (x : Trade). b.trades ++ x ∷ []) (c.trade-trade.ensures.trade
    ∙ ap (λ d. trade_of b.instruments c.args.time d e.passive e.aggressive (ledger b.rows b.kept)) c.next-deal.ensures) in
    let made = same_books _ _ _ _ _ _ _ _ _ (ap vec_items c.trade-trade.ensures.same) told noted came.after in
    let count = count-traded b c.args.time e.passive e.aggressive e.quantity e.price s came.allowed in
    let rows = ap (λ (l : Ledger). open_count l.rows) told in
    record {
      sound = subst Sound (sym made)
          (sound-traded b c.args.time e.passive e.aggressive e.quantity e.price s came.allowed);
      spare = omega arith;
    }
