use Rattle.std.proofs.Common.{◌<◌, leb, length, ap, ◌∙◌, rules}
use Rattle.std.proofs.lemmas.Bool.{and_parts}
use Rattle.texts.specs.Bytes.{named, all_printable}
use Rattle.texts.proofs.Padding.{named-padded}
use Rattle.texts.proofs.fixed.RequestId.new.Goals as goal

pub invariant_of-result : goal.invariant_of-result
invariant_of-result c =
    let k = c.in_ok-id.ensures in
    let q = and_parts (leb (length c.args.text.now) 20) (all_printable c.args.text.now) k.0 in
    let h : 0 < length c.args.text.now = search rules in
    record { given = ap named k.1 ∙ named-padded 20 c.args.text.now q.1 h }
