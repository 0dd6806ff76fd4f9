use Rattle.gateway.proofs.Foretelling.{exact}
use Rattle.gateway.specs.State.{venue_of}
use Rattle.requests.specs.Deciding.{spare}
use Rattle.gateway.proofs.gateway.Gateway.forecast.Goals as goal

pub returns : goal.returns
returns g c =
    let x = c.args.self.now in
    let taken = c.in_ok-m.ensures in
    exact c.args.line c.args.bytes.now (spare (venue_of x)) x.state c.in_ok-m.m c.outlook.result taken.0 taken.1
    c.outlook.ensures
