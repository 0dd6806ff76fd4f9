use Rattle.std.proofs.Common.{ap, ◌∙◌, of_z, rules, to_z, w32}
use Rattle.texts.specs.Bytes.{said}
use Rattle.report_messages.specs.Back.{order_in, reference_in}
use Rattle.report_messages.proofs.Texts.{execution_back}
use Rattle.report_messages.proofs.telling.Telling.execution_message.Goals as goal

pub returns-clause-back : goal.returns-clause-back
returns-clause-back c =
    let s = c.args.self.now in
    let e = c.args.e.now in
    execution_back e c.as_text-2.result c.as_text-5.result c.as_text-3.result c.as_text-4.result
    (to_z w32 (of_z w32 e.quantity)) (to_z w32 (of_z w32 c.open_shares.result.now)) (to_z w32 (of_z w32 e.display))
    c.sent_as.result c.as_text-2.ensures.field c.as_text-5.ensures.field
    (ap (λ f. order_in (said f)) c.as_text-3.ensures.field ∙ s.named_back ∙ c.requires.order)
    (ap (λ f. reference_in (said f)) c.as_text-4.ensures.field ∙ s.referred_back ∙ c.requires.reference)
    (search rules) (search rules) (search rules) c.sent_as.ensures
