-- What a trade of a gateway over the lit book is, in the gateway's own orders. Assumes nothing.
use Rattle.std.specs.Prelude.{◌≡◌, ℕ, ◌≤◌, true, List, [], ◌∷◌, Some, None, Ok, Err, Option, Result, if◌then◌else◌}
use Rattle.gateway_runs.specs.declared.call.Done.{Done}
use Rattle.gateway_runs.specs.declared.call.Done.TheVariants as done
use Rattle.both_ends.specs.Both.{Begins}
use Rattle.gateway.specs.State.{State}
use Rattle.gateway.specs.declared.fault.GatewayFault.{GatewayFault}
use Rattle.keyed.specs.Numbers.{under}
use Rattle.gateway_runs.specs.Runs.{Does}
use Rattle.lit_book.specs.Books.{LitDid, lit, lit_meaning}
use Rattle.lit_book.specs.Laws.{FirstServed}
use Rattle.lit_book.specs.declared.book.LitBook.{LitBook}
use Rattle.order_book.specs.Laws.{at_rest_for}
use Rattle.order_book.specs.Orders.{accepts, opposes}
use Rattle.order_book.specs.Rules.{Lists, order_under}
use Rattle.order_book.specs.declared.order.Order.{Order}
use Rattle.orders.specs.Rows.{is_open}
use Rattle.orders.specs.declared.row.Row.{Row}
use Rattle.terms.specs.Pricing.{pricing_of}
use Rattle.terms.specs.declared.pricing.Pricing.{Pricing}
use Rattle.texts.specs.declared.values.Price.{Price}
use Rattle.venue.specs.Books.{Over}
use Rattle.venue.specs.declared.step.Step.{Step}
use Rattle.venue.specs.declared.step.Step.TheVariants as step

-- what an order is to be traded at
abbrev pub pricing : Row → Pricing
pricing r = pricing_of r.terms.kind r.price

-- an order of the gateway as the book has it
abbrev pub as_order : ℕ → Row → Order
as_order n r = record {
  number = n;
  instrument = r.terms.instrument;
  side = r.terms.side;
  pricing = pricing r;
  lifetime = r.terms.lifetime;
  quantity = r.leaves;
}

-- nothing, where none of it is open
abbrev pub open_order : ℕ → Option Row → Option Order
open_order n None = None
open_order n (Some r) = if is_open r then Some (as_order n r) else None

-- the book holds exactly the gateway's open orders, each with its side, limit, lifetime and open quantity
abbrev pub Mirrors : List Row → Lists → Type 0
Mirrors rows b = (n : ℕ) → order_under b n ≡ open_order n (under rows n)

-- a trade of q at the price z between the order p, which was at rest, and the order a, which came to it
pub record Within (rows : List Row) (b : Lists) (p a q : ℕ) (z : Price) : Type 0 where
  pub passive : Row
  pub aggressive : Row
  pub resting : under rows p ≡ Some passive
  pub coming : under rows a ≡ Some aggressive
  pub instrument : aggressive.terms.instrument ≡ passive.terms.instrument
  pub sides : opposes aggressive.terms.side passive.terms.side ≡ true
  -- as much is open of both
  pub enough : (q ≤ passive.leaves) × (q ≤ aggressive.leaves)
  -- the price is within both limits
  pub fair : (accepts passive.terms.side (pricing passive) z ≡ true)
      × (accepts aggressive.terms.side (pricing aggressive) z ≡ true)
  -- of those at rest none is better priced for the one that came, and none as good rests longer
  pub first : FirstServed (as_order a aggressive) p (at_rest_for a b)

-- a trade names both its orders
abbrev pub Named : List Row → Lists → Option ℕ → Option ℕ → ℕ → Price → Type 0
Named rows b (Some p) (Some a) q z = Within rows b p a q z
Named rows b p a q z = ⊥

abbrev pub Stepped : List Row → Lists → Step → Type 0
Stepped rows b (step.Traded k p a q z) = Named rows b p a q z
Stepped rows b r = Unit {0}

abbrev pub Answered : List Row → Lists → Result Step GatewayFault → Type 0
Answered rows b (Ok r) = Stepped rows b r
Answered rows b (Err f) = Unit {0}

-- where a call answers with a trade, it is such a one
abbrev pub Fairly : List Row → Lists → Done → Type 0
Fairly rows b (done.Step t r) = Answered rows b r
Fairly rows b d = Unit {0}

-- calls made in turn: before each the book mirrors the orders, and each trade is fair
abbrev pub Trades : Over State LitBook → List Done → Over State LitBook → Type 0
Trades x [] y = y ≡ x
Trades x (d ∷ ds) y =
    (z : Over State LitBook) × Does LitDid x d z × Mirrors x.state.venue.rows (lit x.engine)
    × Fairly x.state.venue.rows (lit x.engine) d × Trades z ds y

-- from the start of a day over the lit book these calls lead here, and so it was throughout, and is now
pub record TradesFairly (ds : List Done) (y : Over State LitBook) : Type 0 where
  pub first : Over State LitBook
  pub begins : Begins lit_meaning first
  pub trades : Trades first ds y
  pub mirrors : Mirrors y.state.venue.rows (lit y.engine)
