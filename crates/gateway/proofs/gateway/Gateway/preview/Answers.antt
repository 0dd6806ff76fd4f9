use Rattle.std.proofs.Common.{subst}
use Rattle.gateway.proofs.Foretelling.{foretold}
use Rattle.gateway.specs.State.{State, venue_of}
use Rattle.requests.specs.Deciding.{spare}
use Rattle.venue.specs.Books.{Over, Sound}
use Rattle.gateway.proofs.gateway.Gateway.preview.Goals as goal

pub returns-clause-foretold : goal.returns-clause-foretold
returns-clause-foretold g c =
    let x = c.args.self.now in
    let sound = subst (λ (y : Over State _). Sound y.state.venue) c.self.view_is c.sound.ensures.sound in
    foretold c.args.line c.args.bytes.now (spare (venue_of x)) x.state c.forecast.result sound c.forecast.ensures
