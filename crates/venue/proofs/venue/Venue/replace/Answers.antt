use Rattle.std.specs.Prelude.{◌≡◌, ℕ, ◌≤◌, ◌+◌, [], ◌∷◌, Some, refl, vec_items, nat_lt}
use Rattle.std.proofs.Common.{cond, sym, ap, ◌∙◌, subst, arith}
use Rattle.keyed.specs.Numbers.{under}
use Rattle.matching.specs.Asked.{Asks}
use Rattle.matching.specs.Meaning.{Meaning, closed, resized}
use Rattle.orders.specs.Rows.{left_open}
use Rattle.orders.specs.Tables.{open_count}
use Rattle.orders.specs.declared.row.Row.{Row}
use Rattle.changes.specs.declared.change.Change.TheVariants.{Replace}
use Rattle.venue.specs.Acts.{Alter}
use Rattle.venue.specs.Asking.{set_to}
use Rattle.venue.specs.Books.{Books, Over, Sound, executed_of}
use Rattle.venue.specs.Enacting.{Enacts}
use Rattle.venue.specs.Inside.{shown}
use Rattle.venue.specs.Ledger.{Ledger}
use Rattle.venue.proofs.Keeps.{count-replaced, held-replaced, sound-replaced}
use Rattle.venue.proofs.Rebuilt.{same_books}
use Rattle.venue.proofs.venue.Venue.replace.Goals as goal

-- what the matcher means once an open order is set
abbrev set_as : Meaning → ℕ → ℕ → Meaning
set_as m n q = cond (nat_lt 0 q) (resized m n q) (closed m n)

pub invariant_of-self : goal.invariant_of-self
invariant_of-self g c =
    let b = (shown g.M.Matcher g.S.Store c.self.inside).state in
    let n = c.args.order.number in
    let a = c.args.ask in
    let t = c.args.time in
    let s = c.self.invariant.sound in
    let was = subst (λ (x : Over Books _). under x.state.rows n ≡ Some c.args.order) (sym c.self.view_is)
    c.requires.there in
    let spare = subst (λ (x : Over Books _). open_count x.state.rows + 1 ≤ x.free) (sym c.self.view_is)
    c.requires.spare in
    let market = c.set_to.ensures.after
    ∙ ap (λ i. set_as b.market i c.left_open-quantity.result) (ap (λ (r : Row). r.number) c.row-number.ensures.is)
    ∙ ap (set_as b.market n) c.left_open-quantity.ensures
    ∙ held-replaced b t n a c.args.order s was c.requires.allowed in
    let made = same_books _ _ _ _ _ _ _ _ _ (ap vec_items c.change.ensures.same) c.change.ensures.after refl market in
    let count = count-replaced b t n a c.args.order s was c.requires.allowed in
    let rows = ap (λ (l : Ledger). open_count l.rows) c.change.ensures.after in
    record {
      sound = subst Sound (sym made) (sound-replaced b t n a c.args.order s was c.requires.allowed);
      spare = omega arith;
    }

pub returns : goal.returns
returns g c =
    let b = (shown g.M.Matcher g.S.Store c.self.inside).state in
    let n = c.args.order.number in
    let a = c.args.ask in
    let t = c.args.time in
    let s = c.self.invariant.sound in
    let did = g.M.Matcher.Did in
    let was = subst (λ (x : Over Books _). under x.state.rows n ≡ Some c.args.order) (sym c.self.view_is)
    c.requires.there in
    let market = c.set_to.ensures.after
    ∙ ap (λ i. set_as b.market i c.left_open-quantity.result) (ap (λ (r : Row). r.number) c.row-number.ensures.is)
    ∙ ap (set_as b.market n) c.left_open-quantity.ensures
    ∙ held-replaced b t n a c.args.order s was c.requires.allowed in
    let made = same_books _ _ _ _ _ _ _ _ _ (ap vec_items c.change.ensures.same) c.change.ensures.after refl market in
    let one = subst (λ q. did c.self.inside.matcher (set_to n q a.price) c.set_to.new.matcher) c.left_open-quantity.ensures
    (subst (λ (r : Row). did c.self.inside.matcher (set_to r.number c.left_open-quantity.result a.price) c.set_to.new.matcher)
    c.row-number.ensures.is c.set_to.ensures.did) in
    let asked = subst (λ o. Asks did (set_to n (left_open (executed_of o) a.quantity) a.price ∷ [])
    c.self.inside.matcher c.set_to.new.matcher) (sym was) (_, one, refl) in
    let y = shown g.M.Matcher g.S.Store (record {
      ledger = c.change.new.self;
      trades = c.self.inside.trades;
      matcher = c.set_to.new.matcher;
    }) in
    subst (λ (x : Over Books _). Enacts did t (Alter n (Replace a) ∷ []) x y) c.self.view_is
    (record { books = made; asked = asked; places = c.change.ensures.free })
