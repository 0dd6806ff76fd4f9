use Rattle.std.proofs.Common.{Some, ap, ◌∙◌, sym, vec_items}
use Rattle.std.specs.Option.{option_map}
use Rattle.keyed.specs.Numbers.{under}
use Rattle.report_messages.specs.Telling.{report_bytes}
use Rattle.byte_store.specs.Places.{part}
use Rattle.byte_store.specs.Views.{kept_in}
use Rattle.byte_store.proofs.Messages.{message_at}
use Rattle.byte_store.proofs.Parts.{entry_within}
use Rattle.byte_store.proofs.Tellings.{entry_short, stored_told}
use Rattle.byte_store.proofs.buffered.Buffered.message.Goals as goal

pub part-requires : goal.part-requires
part-requires g c =
    entry_within _ c.args.self.now.places c.args.partition _ c.args.number _ c.args.self.now.inside
    c.in_ok-place.ensures c.at.ensures

pub returns : goal.returns
returns g c =
    let s = c.args.self.now in
    let p = c.args.partition in
    let n = c.args.number in
    let told = stored_told (kept_in s) p n s.told in
    let bytes = message_at report_bytes (vec_items s.buffer) s.places _ s.logged p n
    ∙ ap (option_map (part (vec_items s.buffer)))
    (ap (λ l. under l n) (sym c.at.ensures) ∙ sym c.in_ok-place.ensures)
    ∙ ap Some (sym c.part.ensures) in
    record { bytes = bytes; short = entry_short p n _ _ told bytes; told = told }
