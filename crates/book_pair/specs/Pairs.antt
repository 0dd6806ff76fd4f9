-- What two engines mean as one, and what comes of a call of the two. Assumes nothing.
use Rattle.std.specs.Prelude.{◌≡◌, ◌≤◌, Bool, true, false, ◌||◌, ◌⊎◌, is_some, min}
use Rattle.std.specs.FinMap.{get, len}
use Rattle.matching.specs.Asked.{Asked, Enter, Cancel, Amend, Next}
use Rattle.matching.specs.Meaning.{Meaning, serves}
use Rattle.matching.specs.declared.event.Event.{Event}
use Rattle.matching.specs.declared.event.Event.TheVariants.{Nothing, Expired, Trade}
use Rattle.book_pair.specs.Unions.{Apart, union}

-- the orders of both; as many as the smaller takes, counted over both; and the books of both
abbrev pub paired : Meaning → Meaning → Meaning
paired a b = record {
  orders = union a.orders b.orders;
  capacity = min a.capacity b.capacity;
  dark_midpoint = a.dark_midpoint || b.dark_midpoint;
  integrated = a.integrated || b.integrated;
}

-- an engine that means this holds no more than it takes
abbrev pub Fits : Meaning → Type 0
Fits m = len m.orders ≤ m.capacity

abbrev pub Either : Bool → Type 0 → Type 0 → Type 0
Either true p q = p
Either false p q = q

-- whether an event is one
abbrev pub happens : Event → Bool
happens Nothing = false
happens (Expired n) = true
happens (Trade p a q z) = true

module _ {A B : Type 0} (meaning : A → Meaning) (did : A → Asked → A → Type 0) (did' : B → Asked → B → Type 0) where
  -- the first did it, and the second stays; or the other way round
  abbrev pub One : Bool → A → B → Asked → A → B → Type 0
  One first a b x c d = Either first (did a x c × (d ≡ b)) ((c ≡ a) × did' b x d)

  -- an order goes to the first where that serves its book, and else to the second; what is open under a number is asked
  -- of the one that has it; the next event is the first's if there is one, and else the second's
  abbrev pub PairDid : A → B → Asked → A → B → Type 0
  PairDid a b (Enter n t) c d = One (serves (meaning a) t.book) a b (Enter n t) c d
  PairDid a b (Cancel n) c d = One (is_some (get (meaning a).orders n)) a b (Cancel n) c d
  PairDid a b (Amend n q p) c d = One (is_some (get (meaning a).orders n)) a b (Amend n q p) c d
  PairDid a b (Next e) c d =
      ((happens e ≡ true) × did a (Next e) c × (d ≡ b)) ⊎ (did a (Next Nothing) c × did' b (Next e) d)
