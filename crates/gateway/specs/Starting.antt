-- How a gateway starts. Assumes nothing.
use Rattle.std.specs.Prelude.{◌≡◌, Bool, true, false, ◌&&◌, List, length, Ok, Err, Result, ◌==◌}
use Rattle.std.specs.FinMap.{len}
use Rattle.codes.specs.declared.session.Partition.TheVariants.{One, Two, Three}
use Rattle.configuration.specs.declared.config.StartRefusal.{StartRefusal}
use Rattle.configuration.specs.declared.config.StartRefusal.TheVariants.{BadConfiguration, NotEmpty, NoMemory}
use Rattle.configuration.specs.declared.participant.Participant.{Participant}
use Rattle.gateway.specs.State.{State, fresh}
use Rattle.matching.specs.Meaning.{Meaning}
use Rattle.partitions.specs.PerPartition.{at}
use Rattle.store.specs.Kept.{Kept}
use Rattle.venue.specs.Books.{Books, Over}

-- no order is open, and no report kept
abbrev pub is_unused : Kept → Bool
is_unused k = length (at k One) == 0 && (length (at k Two) == 0 && length (at k Three) == 0)

abbrev pub is_new : Meaning → Kept → Bool
is_new m k = len m.orders == 0 && is_unused k

-- a gateway of a new day, over a venue's books
abbrev pub opened : {M : Type 0} → List Participant → Over Books M → Over State M
opened ps v = record { state = fresh ps v.state; engine = v.engine; free = v.free }

-- something begins over a new matcher and a new store, or both are given back
abbrev pub Starts : {M S V : Type 0} → Bool → (V → Type 0) → M → S → Result V (StartRefusal × M × S) → Type 0
Starts new begins m s (Ok v) = (new ≡ true) × begins v
Starts new begins m s (Err (NotEmpty, m', s')) = (new ≡ false) × (m' ≡ m) × (s' ≡ s)
Starts new begins m s (Err (NoMemory, m', s')) = (new ≡ true) × (m' ≡ m) × (s' ≡ s)
Starts new begins m s (Err (BadConfiguration, m', s')) = ⊥
