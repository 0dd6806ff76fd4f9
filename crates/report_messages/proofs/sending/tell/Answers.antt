use Rattle.report_messages.proofs.Heard.{report_told}
use Rattle.report_messages.proofs.sending.tell.Goals as goal

pub returns-clause-told : goal.returns-clause-told
returns-clause-told c =
    let t = c.args.telling.now in
    report_told t.partition t.number t.report c.message.result c.message.ensures.back c.message.ensures.kind
    c.message.ensures.contents c.send.ensures.held c.send.ensures.back
