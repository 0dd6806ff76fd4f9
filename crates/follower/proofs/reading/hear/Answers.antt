use Rattle.follower.proofs.Hears.{hears}
use Rattle.follower.proofs.reading.hear.Goals as goal

pub returns : goal.returns
returns c =
    hears c.args.bytes.now c.in_ok-message.message c.hear_message.result c.in_ok-message.ensures.checks
    c.hear_message.ensures
