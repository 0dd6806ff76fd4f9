use Rattle.std.proofs.Common.{◌≡◌, ◌+◌, true, [], ◌∷◌, ◌++◌, length, is_ok, vec_items, vec_len, ap, ◌∙◌, arith, rules}
use Rattle.std.proofs.lemmas.Bool.{cond-true}
use Rattle.partitions.specs.PerPartition.{at, with_at}
use Rattle.partitions.specs.Series.{total, grown, mapped}
use Rattle.partitions.proofs.Totals.{total_grown}
use Rattle.report_messages.specs.Telling.{report_bytes}
use Rattle.byte_store.specs.Places.{entry_in, all_within, filed}
use Rattle.byte_store.proofs.Messages.{log_more}
use Rattle.byte_store.proofs.Parts.{kept_grown, within_grown}
use Rattle.byte_store.proofs.Tellings.{told_grown}
use Rattle.byte_store.specs.Views.{kept_in}
use Rattle.byte_store.proofs.buffered.Buffered.keep.Goals as goal

pub invariant_of-self : goal.invariant_of-self
invariant_of-self g c =
    let s = c.args.self.now in
    let p = c.args.partition in
    let bs = c.args.bytes.now in
    let d = g.C.Codec.decoded in
    let x = c.args.place in
    let ok : is_ok c.extend_from_slice.result ≡ true = c.extend_from_slice.ensures.succeeds (omega arith) in
    let len : vec_len c.extend_from_slice.new.self
    ≡ vec_len s.buffer + length bs = c.extend_from_slice.ensures.len ∙ cond-true _ _ _ ok in
    let items : vec_items c.extend_from_slice.new.self ≡ vec_items s.buffer
    ++ bs = c.extend_from_slice.ensures.items ∙ cond-true _ _ _ ok in
    let e : with_at s.places p c.push.new.self
    ≡ grown s.places p x = ap (with_at s.places p)
    (c.push.ensures ∙ ap (λ l. l ++ x ∷ []) c.at_mut.ensures.value) in
    let start : x.start ≡ length (vec_items s.buffer) = omega arith in
    let count = ap total e ∙ total_grown s.places p x in
    let kept = ap (mapped (entry_in d (vec_items c.extend_from_slice.new.self))) e
    ∙ kept_grown d (vec_items s.buffer) _ bs (vec_len s.buffer) s.places p x items (omega arith) s.inside
    c.requires.start c.requires.len in
    record {
      roomy = search rules;
      held = search rules;
      few = omega arith;
      inside = λ q. ap (λ ps. all_within (vec_len c.extend_from_slice.new.self) (at ps q)) e ∙ within_grown
          (vec_len s.buffer) _ s.places p x s.inside (omega arith) (omega arith) q;
      logged = log_more report_bytes _ _ bs _ _ _ _ p x (d bs) s.logged c.requires.coded items start
          c.requires.len e kept;
      told = told_grown (kept_in s) _ p (filed x.owner (d bs)) s.told kept c.requires.told;
    }

pub returns-clause-kept : goal.returns-clause-kept
returns-clause-kept g c =
    let s = c.args.self.now in
    let p = c.args.partition in
    let bs = c.args.bytes.now in
    let d = g.C.Codec.decoded in
    let x = c.args.place in
    let ok : is_ok c.extend_from_slice.result ≡ true = c.extend_from_slice.ensures.succeeds (omega arith) in
    let items : vec_items c.extend_from_slice.new.self ≡ vec_items s.buffer
    ++ bs = c.extend_from_slice.ensures.items ∙ cond-true _ _ _ ok in
    let e : with_at s.places p c.push.new.self
    ≡ grown s.places p x = ap (with_at s.places p)
    (c.push.ensures ∙ ap (λ l. l ++ x ∷ []) c.at_mut.ensures.value) in
    ap (mapped (entry_in d (vec_items c.extend_from_slice.new.self))) e
    ∙ kept_grown d (vec_items s.buffer) _ bs (vec_len s.buffer) s.places p x items (omega arith) s.inside
    c.requires.start c.requires.len
