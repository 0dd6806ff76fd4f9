use Rattle.std.proofs.Common.{◌^◌, ◌<◌, length, sym, ap, ◌∙◌, rules}
use Rattle.texts.specs.Bytes.{is_text, text_end}
use Rattle.texts.specs.Identifiers.{id_of}
use Rattle.texts.proofs.Padding.{is_text-all, lead-all}
use Rattle.texts.proofs.Digits.{length-id_of, printable-id_of, returns_of}
use Rattle.texts.proofs.identifiers.id_text.Goals as goal

pub invariant_of-result : goal.invariant_of-result
invariant_of-result c =
    let e = c.write_id.ensures in
    let id = id_of c.args.letter c.args.number in
    let p = printable-id_of c.args.letter c.args.number c.requires.le_letter c.requires.letter_bound in
    let l = length-id_of c.args.letter c.args.number in
    record {
      wide = ap length e ∙ l;
      text = ap is_text e ∙ is_text-all id p;
      ends = sym (ap text_end e ∙ lead-all id p ∙ l);
    }

pub returns : goal.returns
returns c =
    let h : c.args.number < 2 ^ 64 = search rules in
    record { text = c.write_id.ensures; returns = returns_of c.args.letter c.args.number h }
