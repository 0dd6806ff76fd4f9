use Rattle.std.proofs.Common.{subst, sym}
use Rattle.report_messages.specs.Telling.{report_bytes}
use Rattle.byte_store.specs.Logs.{Messages}
use Rattle.byte_store.specs.Views.{kept_in}
use Rattle.byte_store.proofs.Messages.{log_messages}
use Rattle.byte_store.proofs.buffered.Buffered.bytes.Goals as goal

pub returns : goal.returns
returns g c =
    subst (Messages report_bytes (kept_in c.args.self.now)) (sym c.deref.ensures.value)
    (log_messages report_bytes _ c.args.self.now.places (kept_in c.args.self.now) c.args.self.now.logged)
