-- A midpoint that a matcher was told: the books stay, and so do the places. Assumes nothing.
use Rattle.std.specs.Prelude.{◌≡◌, ℕ, Bool, is_ok, Option, Result}
use Rattle.std.specs.Result.{result_err}
use Rattle.matching.specs.Midpoints.{midpoint_refusal}
use Rattle.matching.specs.declared.midpoint.MidpointRefusal.{MidpointRefusal}
use Rattle.texts.specs.declared.values.Price.{Price}
use Rattle.venue.specs.Books.{Over}

-- y comes of x by it, where `guided` says whether the matcher is told midpoints, and `learns` what may come of one
pub record Told {B M : Type 0} (guided : Bool) (learns : M → ℕ → Option Price → Bool → M → Type 0) (i : ℕ)
    (p : Option Price) (r : Result (Unit {0}) MidpointRefusal) (x y : Over B M) : Type 0 where
  pub refusal : result_err r ≡ midpoint_refusal guided i p
  pub learned : learns x.engine i p (is_ok r) y.engine
  pub state : y.state ≡ x.state
  pub places : y.free ≡ x.free
