use Rattle.std.specs.Prelude.{◌≤◌, ◌+◌, refl, vec_items}
use Rattle.std.proofs.Common.{sym, ap, ◌∙◌, subst, arith}
use Rattle.texts.specs.declared.values.Time.{Time}
use Rattle.orders.specs.Tables.{open_count}
use Rattle.venue.specs.Books.{Books, Over, Sound}
use Rattle.venue.specs.Inside.{shown}
use Rattle.venue.specs.Ledger.{ledger}
use Rattle.venue.proofs.Keeps.{sound-noted}
use Rattle.venue.proofs.Rebuilt.{same_books}
use Rattle.venue.proofs.venue.Venue.note.Goals as goal

pub invariant_of-self : goal.invariant_of-self
invariant_of-self g c =
    let b = (shown g.M.Matcher g.S.Store c.self.inside).state in
    let spare = subst (λ (x : Over Books _). open_count x.state.rows + 1 ≤ x.free) (sym c.self.view_is)
    c.requires.spare in
    let rows = ap open_count c.note.ensures.rows in
    let told = ap (λ r. ledger r (g.S.Store.kept c.note.new.self.store)) c.note.ensures.rows
    ∙ ap (ledger b.rows) c.note.ensures.kept in
    let none : Time = record { seconds = 0; microseconds = 0 } in
    record {
      sound = subst Sound (sym (same_books _ _ _ _ _ _ _ _ _ (ap vec_items c.note.ensures.same) told refl refl))
          (sound-noted b none c.args.partition c.args.entry c.self.invariant.sound c.requires.silent);
      spare = omega arith;
    }
