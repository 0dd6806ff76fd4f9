use Rattle.wire_store.proofs.Back.{read_report}
use Rattle.wire_store.proofs.codec.report_in.Goals as goal

pub returns-in-Ok : goal.returns-in-Ok
returns-in-Ok c =
    read_report c.args.bytes.now c.in-Ok.message c.unwrap_or.result c.nothing_told.result c.report_of.result
    c.in-Ok.ensures.checks c.unwrap_or.ensures c.report_of.ensures c.nothing_told.ensures
