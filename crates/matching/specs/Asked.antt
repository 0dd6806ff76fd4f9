-- What an engine is asked, one call after the other. Assumes nothing.
use Rattle.std.specs.Prelude.{◌≡◌, ℕ, List, [], ◌∷◌}
use Rattle.matching.specs.declared.event.Event.{Event}
use Rattle.matching.specs.declared.matcher.Ticket.{Ticket}
use Rattle.texts.specs.declared.values.Price.{Price}

-- a call that an engine was asked, and did
pub data Asked : Type 0 where
  Enter : (number : ℕ) (terms : Ticket) → Asked
  Cancel : (number : ℕ) → Asked
  Amend : (number quantity : ℕ) (price : Price) → Asked
  -- with what was answered
  Next : (event : Event) → Asked

-- the engine b comes of the engine a by exactly these calls, in this order, where `did` says what may come of one call
abbrev pub Asks : {M : Type 0} → (M → Asked → M → Type 0) → List Asked → M → M → Type 0
Asks did [] a b = b ≡ a
Asks {M} did (x ∷ xs) a b = (m : M) × did a x m × Asks did xs m b
