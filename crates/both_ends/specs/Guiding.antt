-- What was done to the gateway of both ends: its calls, and the midpoints that its matcher was told. Assumes nothing.
use Rattle.std.specs.Prelude.{◌≡◌, ℕ, Bool, List, [], ◌∷◌, Option, Result}
use Rattle.both_ends.specs.declared.call.Done.TheVariants as done
use Rattle.both_ends.specs.declared.entry.Entry.{Entry}
use Rattle.both_ends.specs.declared.entry.Entry.TheVariants.{Made, Midpoint, Asked as Answered}
use Rattle.gateway.specs.State.{State}
use Rattle.gateway_runs.specs.Runs.{Does}
use Rattle.gateway_runs.specs.declared.call.Done.{Done as VenueDone}
use Rattle.matching.specs.Asked.{Asked}
use Rattle.matching.specs.declared.midpoint.MidpointRefusal.{MidpointRefusal}
use Rattle.texts.specs.declared.values.Price.{Price}
use Rattle.venue.specs.Books.{Over, Sound}
use Rattle.venue.specs.Telling.{Told}

pub data Turn : Type 0 where
  Call : (done : VenueDone) → Turn
  Guide : (instrument : ℕ) (price : Option Price) (answer : Result (Unit {0}) MidpointRefusal) → Turn

-- those of a log
abbrev pub turns : {Q A : Type 0} → List (Entry Q A) → List Turn
turns [] = []
turns (Made (done.Venue v) ∷ xs) = Call v ∷ turns xs
turns (Made done.Up ∷ xs) = turns xs
turns (Made done.Lost ∷ xs) = turns xs
turns (Made (done.Live m r) ∷ xs) = turns xs
turns (Made (done.Ask n r) ∷ xs) = turns xs
turns (Made (done.Recovered m r) ∷ xs) = turns xs
turns (Midpoint i p r ∷ xs) = Guide i p r ∷ turns xs
turns (Answered q a ∷ xs) = turns xs

module _ {M : Type 0} (did : M → Asked → M → Type 0) (guided : Bool)
    (learns : M → ℕ → Option Price → Bool → M → Type 0) where
  -- made in turn: after each call the gateway keeps what it is to keep, and a midpoint leaves all but the matcher
  abbrev pub Guides : Over State M → List Turn → Over State M → Type 0
  Guides x [] y = y ≡ x
  Guides x (Call d ∷ ts) y = (z : Over State M) × Does did x d z × Sound z.state.venue × Guides z ts y
  Guides x (Guide i p r ∷ ts) y = (z : Over State M) × Told guided learns i p r x z × Guides z ts y
