use Rattle.std.specs.Prelude.{[], ◌∷◌}
use Rattle.std.proofs.Common.{sym, subst}
use Rattle.requests.specs.MassCancels.{acts_of, plan_of, swept, told_everywhere}
use Rattle.requests.specs.Selection.{picks}
use Rattle.requests.specs.declared.mass_cancel.Sweep.{Sweep}
use Rattle.venue.proofs.Chains.{enacts_append}
use Rattle.venue.specs.Acts.{Note}
use Rattle.venue.specs.Books.{Books}
use Rattle.venue.specs.Enacting.{Enacts}
use Rattle.requests.proofs.mass_cancel.carry_out.Goals as goal

pub returns-in-Unserved : goal.returns-in-Unserved
returns-in-Unserved g c =
    let did = g.M.Matcher.Did in
    let t = c.args.time in
    let x = c.args.venue.now in
    let y = c.note.new.self in
    let note = subst (λ e. Enacts did t (Note c.in-Unserved.partition e ∷ []) x y) c.refused.ensures (c.note.ensures t) in
    subst (λ (s : Sweep). Enacts did t (acts_of c.args.line c.args.m.now t x.state (plan_of x.state.instruments s)) x y)
    (sym c.in-Unserved.is) note

pub returns-in-Within : goal.returns-in-Within
returns-in-Within g c =
    let did = g.M.Matcher.Did in
    let t = c.args.time in
    let x = c.args.venue.now in
    let y = c.note-in-Within.new.self in
    let z = c.cancel_all.new.venue in
    let m = c.args.m.now in
    let note = subst (λ e. Enacts did t (Note c.in-Within.partition e ∷ []) x y) c.accepted.ensures
    (c.note-in-Within.ensures t) in
    let cancelled = subst (λ (b : Books). Enacts did t (swept (picks b.instruments c.in-Within.selection) m b) y z)
    note.books c.cancel_all.ensures in
    subst (λ (s : Sweep). Enacts did t (acts_of c.args.line m t x.state (plan_of x.state.instruments s)) x z)
    (sym c.in-Within.is) (enacts_append t _ _ x y z note cancelled)

pub returns-in-Everywhere : goal.returns-in-Everywhere
returns-in-Everywhere g c =
    let did = g.M.Matcher.Did in
    let t = c.args.time in
    let x = c.args.venue.now in
    let y = c.tell_everywhere.new.venue in
    let z = c.cancel_all-in-Everywhere.new.venue in
    let m = c.args.m.now in
    let told = subst (λ e. Enacts did t (told_everywhere e) x y) c.accepted-in-Everywhere.ensures
    (c.tell_everywhere.ensures t) in
    let cancelled = subst (λ (b : Books). Enacts did t (swept (picks b.instruments c.in-Everywhere.selection) m b) y z)
    told.books c.cancel_all-in-Everywhere.ensures in
    subst (λ (s : Sweep). Enacts did t (acts_of c.args.line m t x.state (plan_of x.state.instruments s)) x z)
    (sym c.in-Everywhere.is) (enacts_append t _ _ x y z told cancelled)
