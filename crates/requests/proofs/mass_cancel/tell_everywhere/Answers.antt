use Rattle.std.proofs.Common.{ap, arith}
use Rattle.orders.specs.Tables.{open_count}
use Rattle.texts.specs.declared.values.Time.{Time}
use Rattle.venue.proofs.Chains.{enacts_append}
use Rattle.venue.specs.Books.{Books}
use Rattle.requests.proofs.mass_cancel.tell_everywhere.Goals as goal

none : Time
none = record { seconds = 0; microseconds = 0 }

pub note-requires-2-clause-spare : goal.note-requires-2-clause-spare
note-requires-2-clause-spare g c =
    let one = c.note.ensures none in
    let rows = ap (λ (b : Books). open_count b.rows) one.books in
    let places = one.places in
    omega (arith, c.requires.spare)

pub note-requires-3-clause-spare : goal.note-requires-3-clause-spare
note-requires-3-clause-spare g c =
    let one = c.note.ensures none in
    let two = c.note-2.ensures none in
    let rows = ap (λ (b : Books). open_count b.rows) one.books in
    let rows' = ap (λ (b : Books). open_count b.rows) two.books in
    let places = one.places in
    let places' = two.places in
    omega (arith, c.requires.spare)

pub returns : goal.returns
returns g c t =
    enacts_append t _ _ _ _ _ (c.note.ensures t) (enacts_append t _ _ _ _ _ (c.note-2.ensures t) (c.note-3.ensures t))
