use Rattle.std.proofs.Common.{Some, get_or, sym, ap, ◌∙◌}
use Rattle.std.specs.Prelude.{◌≡◌, slice_get}
use Rattle.std.proofs.lemmas.Option.{slice_get-get_or}
use Rattle.changes.specs.declared.change.Change.TheVariants.{Undo}
use Rattle.changes.specs.declared.change.Undone.{Undone}
use Rattle.orders.specs.declared.row.Row.{Row}
use Rattle.venue.specs.Ledger.{changed, ledger}
use Rattle.venue.specs.Trading.{partition_in, partition_of, side_undone}
use Rattle.venue.proofs.ledger.Ledger.undo_side.Goals as goal

pub returns-in-Some-clause-after : goal.returns-in-Some-clause-after
returns-in-Some-clause-after g c =
    let is = c.args.self.now.instruments.items in
    let l = ledger c.args.self.now.table (g.S.Store.kept c.args.self.now.store) in
    let s = c.in-Some.side in
    let r = c.order-order.result in
    let i = c.index-instrument.result.now in
    let here = c.order-order.ensures.there in
    let inside = c.requires.recorded.placed s.order r here in
    let listed : slice_get is r.terms.instrument ≡ Some i =
    slice_get-get_or is r.terms.instrument i inside
    ∙ ap Some (sym (c.index-instrument.ensures ∙ ap (λ (x : Row). get_or is x.terms.instrument i) c.row.ensures.is)) in
    let partition = c.partition_number-partition.ensures
    ∙ sym (ap (partition_of is) here ∙ ap partition_in listed) in
    let undoing : _ → Undone = λ p. record { quantity = c.args.quantity; report = record { partition = p; sequence = s.report } } in
    c.change.ensures.after
    ∙ ap (λ n. changed is c.args.time n (Undo (undoing c.partition_number-partition.result)) l)
    c.order-order.ensures.number
    ∙ ap (λ p. changed is c.args.time s.order (Undo (undoing p)) l) partition
    ∙ sym (ap (λ x. side_undone is c.args.time c.args.quantity x l) c.in-Some.is)
