use Rattle.std.specs.Prelude.{◌≡◌, [], ◌∷◌, Some, refl, vec_items}
use Rattle.std.proofs.Common.{sym, ap, ◌∙◌, subst, arith}
use Rattle.keyed.specs.Numbers.{under}
use Rattle.matching.specs.Asked.{Cancel}
use Rattle.matching.specs.Meaning.{closed, with_order}
use Rattle.orders.specs.Tables.{open_count}
use Rattle.orders.specs.declared.row.Row.{Row}
use Rattle.changes.specs.declared.change.Change.TheVariants.{Withdraw}
use Rattle.venue.specs.Acts.{Alter}
use Rattle.venue.specs.Books.{Books, Over, Sound}
use Rattle.venue.specs.Enacting.{Enacts}
use Rattle.venue.specs.Inside.{shown}
use Rattle.venue.specs.Ledger.{Ledger}
use Rattle.venue.proofs.Keeps.{count-withdrawn, gone-withdrawn, open-some, one_open, sound-withdrawn}
use Rattle.venue.proofs.Rebuilt.{same_books}
use Rattle.venue.proofs.venue.Venue.withdraw.Goals as goal

pub change-requires-clause-places : goal.change-requires-clause-places
change-requires-clause-places g c =
    let b = (shown g.M.Matcher g.S.Store c.self.inside).state in
    let was = subst (λ (x : Over Books _). under x.state.rows c.args.order.number ≡ Some c.args.order)
    (sym c.self.view_is) c.requires.there in
    let one = one_open c.args.order c.requires.unfinished in
    let count = open-some b.rows c.args.order.number c.args.order was in
    let spare = c.self.invariant.spare in
    omega arith

pub invariant_of-self : goal.invariant_of-self
invariant_of-self g c =
    let b = (shown g.M.Matcher g.S.Store c.self.inside).state in
    let n = c.args.order.number in
    let was = subst (λ (x : Over Books _). under x.state.rows n ≡ Some c.args.order) (sym c.self.view_is)
    c.requires.there in
    let e = c.args.ending in
    let i = c.args.client in
    let t = c.args.time in
    let gone = gone-withdrawn b t n e i c.args.order c.self.invariant.sound was c.requires.unfinished in
    let market = c.take_out.ensures.after ∙ ap (λ (r : Row). closed b.market r.number) c.row.ensures.is
    ∙ ap (with_order b.market n) (sym gone) in
    let made = same_books _ _ _ _ _ _ _ _ _ (ap vec_items c.change.ensures.same) c.change.ensures.after refl market in
    let count = count-withdrawn b t n e i c.args.order c.self.invariant.sound was c.requires.unfinished in
    let rows = ap (λ (l : Ledger). open_count l.rows) c.change.ensures.after in
    let spare = c.self.invariant.spare in
    record {
      sound = subst Sound (sym made) (sound-withdrawn b t n e i c.args.order c.self.invariant.sound was
          c.requires.unfinished);
      spare = omega arith;
    }

pub returns : goal.returns
returns g c =
    let b = (shown g.M.Matcher g.S.Store c.self.inside).state in
    let n = c.args.order.number in
    let was = subst (λ (x : Over Books _). under x.state.rows n ≡ Some c.args.order) (sym c.self.view_is)
    c.requires.there in
    let e = c.args.ending in
    let i = c.args.client in
    let t = c.args.time in
    let gone = gone-withdrawn b t n e i c.args.order c.self.invariant.sound was c.requires.unfinished in
    let market = c.take_out.ensures.after ∙ ap (λ (r : Row). closed b.market r.number) c.row.ensures.is
    ∙ ap (with_order b.market n) (sym gone) in
    let made = same_books _ _ _ _ _ _ _ _ _ (ap vec_items c.change.ensures.same) c.change.ensures.after refl market in
    let did = subst (λ (r : Row). g.M.Matcher.Did c.self.inside.matcher (Cancel r.number) c.take_out.new.matcher)
    c.row.ensures.is c.take_out.ensures.did in
    let y = shown g.M.Matcher g.S.Store (record {
      ledger = c.change.new.self;
      trades = c.self.inside.trades;
      matcher = c.take_out.new.matcher;
    }) in
    subst (λ (x : Over Books _). Enacts g.M.Matcher.Did t (Alter n (Withdraw e i) ∷ []) x y) c.self.view_is
    (record { books = made; asked = (_, did, refl); places = c.change.ensures.free })
