use Rattle.std.proofs.Common.{of_z, rules, to_z, w32}
use Rattle.report_messages.proofs.Texts.{reject_back}
use Rattle.report_messages.proofs.telling.Telling.reject_message.Goals as goal

pub returns-clause-back : goal.returns-clause-back
returns-clause-back c =
    reject_back c.args.r.now c.as_text.result (to_z w32 (of_z w32 c.from.result)) c.as_text.ensures.field
    (search rules)
