-- Over the lit book, which is told no midpoints, what was done to a gateway is its calls alone. Assumes nothing.
use Rattle.std.proofs.Common.{◌≡◌, ℕ, Bool, false, List, [], ◌∷◌, Option, subst}
use Rattle.both_ends.specs.Asking.{made}
use Rattle.both_ends.specs.Guiding.{Guides, turns}
use Rattle.both_ends.specs.Runs.{venue_log}
use Rattle.both_ends.specs.declared.call.Done.TheVariants as done
use Rattle.both_ends.specs.declared.entry.Entry.{Entry}
use Rattle.both_ends.specs.declared.entry.Entry.TheVariants.{Made, Midpoint, Asked as Answered}
use Rattle.gateway.specs.State.{State}
use Rattle.gateway_runs.specs.Runs.{Runs}
use Rattle.matching.specs.Asked.{Asked}
use Rattle.texts.specs.declared.values.Price.{Price}
use Rattle.venue.specs.Books.{Over}

-- what an engine says of a midpoint that says nothing of it: it takes none, and stays
abbrev pub Unmoved : {M : Type 0} → M → ℕ → Option Price → Bool → M → Type 0
Unmoved a i p taken b = (taken ≡ false) × (b ≡ a)

same : {M : Type 0} (x z : Over State M) → z.state ≡ x.state → z.engine ≡ x.engine → z.free ≡ x.free → z ≡ x
same x z p q r i = record { state = p i; engine = q i; free = r i }

module _ {M Q A : Type 0} (did : M → Asked → M → Type 0) where
  pub calls_alone : (x : Over State M) (xs : List (Entry Q A)) (y : Over State M)
      → Guides did false Unmoved x (turns xs) y → Runs did x (venue_log (made xs)) y
  calls_alone x [] y e = e
  calls_alone x (Made (done.Venue v) ∷ xs) y (z, k, s, r) = (z, k, s, calls_alone z xs y r)
  calls_alone x (Made done.Up ∷ xs) y r = calls_alone x xs y r
  calls_alone x (Made done.Lost ∷ xs) y r = calls_alone x xs y r
  calls_alone x (Made (done.Live m a) ∷ xs) y r = calls_alone x xs y r
  calls_alone x (Made (done.Ask n a) ∷ xs) y r = calls_alone x xs y r
  calls_alone x (Made (done.Recovered m a) ∷ xs) y r = calls_alone x xs y r
  calls_alone x (Midpoint i p a ∷ xs) y (z, t, r) =
      subst (λ u. Runs did u (venue_log (made xs)) y) (same x z t.state t.learned.1 t.places) (calls_alone z xs y r)
  calls_alone x (Answered q a ∷ xs) y r = calls_alone x xs y r
