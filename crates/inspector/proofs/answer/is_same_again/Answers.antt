use Rattle.std.proofs.Common.{◌≡◌, ℕ, List, length, replicate, ap, ◌∙◌, subst, rules}
use Rattle.std.specs.Str.{bytes_eq}
use Rattle.limits.specs.declared.TheConstants.{MESSAGE_BYTES}
use Rattle.wire.specs.Messages.{written, Wrote}
use Rattle.inspector.proofs.Buffers.{front}
use Rattle.inspector.proofs.answer.is_same_again.Goals as goal

pub returns : goal.returns
returns c =
    let blank : List ℕ = replicate MESSAGE_BYTES 0 in
    let w = subst (Wrote c.args.message.now blank c.write.new.out) c.unwrap-n.ensures c.write.ensures.bytes in
    let l : length c.write.new.out ≡ length blank = search rules in
    c.is_text.ensures ∙ ap (λ t. bytes_eq t c.args.bytes.now)
    (front (written c.args.message.now) blank c.write.new.out c.unwrap-n.result w.1 l w.2)
