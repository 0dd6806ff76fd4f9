use Rattle.std.specs.Prelude.{slice_get}
use Rattle.std.proofs.Common.{◌≡◌, ◌<◌, length, get_or, Some, sym, ap, ◌∙◌, subst, arith}
use Rattle.std.proofs.lemmas.Option.{slice_get-get_or}
use Rattle.changes.specs.Changes.{after}
use Rattle.orders.specs.declared.row.Row.{Row}
use Rattle.venue.specs.Ledger.{Uses, ledger, next_in, next_told}
use Rattle.venue.proofs.Rows.{change_told, told_count}
use Rattle.venue.proofs.ledger.Ledger.change.Goals as goal

pub tell-requires : goal.tell-requires
tell-requires g c =
    let count = told_count _ c.args.change.now c.unwrap-changed.result c.reports-told.result.report _
    c.reports-told.ensures.restated in
    omega (arith, count, c.requires.places)

pub returns-clause-free : goal.returns-clause-free
returns-clause-free g c =
    let count = told_count _ c.args.change.now c.unwrap-changed.result c.reports-told.result.report _
    c.reports-told.ensures.restated in
    subst (λ n. Uses n (g.S.Store.free c.args.self.now.store) (g.S.Store.free c.tell.new.store)) count
    c.tell.ensures.free

pub returns-clause-number : goal.returns-clause-number
returns-clause-number g c =
    let is = c.args.self.now.instruments.items in
    let kept = g.S.Store.kept c.args.self.now.store in
    let i = c.index-instrument.result.now in
    let listed : slice_get is c.args.order.terms.instrument ≡ Some i =
    slice_get-get_or is c.args.order.terms.instrument i c.requires.placed
    ∙ ap Some (sym (c.index-instrument.ensures
    ∙ ap (λ (x : Row). get_or is x.terms.instrument i) c.row-row.ensures.is)) in
    c.tell.ensures.number
    ∙ sym (ap (λ o. next_told is o kept) c.requires.there ∙ ap (λ o. next_in o kept) listed)

pub returns-clause-after : goal.returns-clause-after
returns-clause-after g c =
    let same = c.row-row.ensures.is in
    let may = ap (λ (x : Row). after x.number c.args.change.now (Some c.args.order)) (sym same)
    ∙ sym c.after.ensures.value ∙ c.unwrap-changed.ensures in
    let inside = subst (λ (x : Row). x.terms.instrument < length c.args.self.now.instruments.items) (sym same)
    c.requires.placed in
    change_told c.args.self.now.instruments.items c.args.time c.args.order.number c.args.change.now
    (ledger c.args.self.now.table (g.S.Store.kept c.args.self.now.store)) _ c.args.order c.row-row.result
    c.unwrap-changed.result c.index-instrument.result.now _ _ c.requires.numbered (sym c.requires.there) same
    c.index-instrument.ensures inside may c.reports-told.ensures.report c.reports-told.ensures.restated
    c.write.ensures.rows c.tell.ensures.kept
