use Rattle.std.proofs.Common.{◌<◌, length, arith, rules}
use Rattle.layout.specs.declared.field.Form.TheVariants.{Text}
use Rattle.layout.specs.declared.field.Field.TheVariants.{Always}
use Rattle.layout.proofs.Tables.{first_bad-drop, within-drop, first_bad-end, all_ok}
use Rattle.layout.proofs.check.check.Goals as goal

pub returns-then-not-good : goal.returns-then-not-good
returns-then-not-good c =
    let h : c.loop-field.field-index < length c.args.fields.now = search rules in
    let e = first_bad-drop c.args.fields.now c.args.r.now.src.now c.loop-field.field-index (Always 0 (Text 0)) h in
    grind arith

pub loop-field-preserved : goal.loop-field-preserved
loop-field-preserved c =
    let h : c.loop-field.field-index < length c.args.fields.now = search rules in
    let w = within-drop c.args.fields.now c.args.total c.loop-field.field-index (Always 0 (Text 0)) h in
    let e = first_bad-drop c.args.fields.now c.args.r.now.src.now c.loop-field.field-index (Always 0 (Text 0)) h in
    grind arith

pub returns : goal.returns
returns c = search (rules, first_bad-end, all_ok)
