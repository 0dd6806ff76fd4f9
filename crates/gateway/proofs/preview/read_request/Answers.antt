use Rattle.std.proofs.Common.{subst}
use Rattle.gateway.proofs.Alone.{own}
use Rattle.wire.specs.Messages.{Reads}
use Rattle.wire.specs.declared.kinds.Channel.TheVariants.{RealTime}
use Rattle.wire.specs.declared.message.Message.{Message}
use Rattle.gateway.proofs.preview.read_request.Goals as goal

pub returns-in-Ok-OrderMassCancelRequest : goal.returns-in-Ok-OrderMassCancelRequest
returns-in-Ok-OrderMassCancelRequest c =
    let bs = c.args.bytes.now in
    let r = subst (λ (m : Message). Reads RealTime bs m) c.in-Ok-OrderMassCancelRequest.field-0-is
    c.in-Ok-OrderMassCancelRequest.ensures.checks in
    (own bs c.in-Ok-OrderMassCancelRequest.m r, r)
