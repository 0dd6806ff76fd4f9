-- A pairing rule: whom of those at rest an order trades with, and at which price. Assumes nothing.
use Rattle.std.specs.Prelude.{◌≡◌, ℕ, ◌<◌, Bool, true, false, if◌then◌else◌, ◌&&◌, List, fold, length, take, Some, None, Option, slice_index_or}
use Rattle.texts.specs.declared.values.Price.{Price}
use Rattle.order_book.specs.declared.order.Order.{Order}
use Rattle.order_book.specs.Orders.{accepts, opposes}

pub record Rule : Type 0 where
  -- whether an order trades with one at rest
  pub fits : Order → Order → Bool
  -- whether it trades with the one rather than with the other
  pub beats : Order → Order → Order → Bool
  -- the price at which it trades with one
  pub price : Order → Order → Price

-- a and o are of opposite sides in one instrument, and both take the price p
pub record Facing (a o : Order) (p : Price) : Type 0 where
  pub instrument : a.instrument ≡ o.instrument
  pub sides : opposes a.side o.side ≡ true
  pub taken : accepts a.side a.pricing p ≡ true
  pub given : accepts o.side o.pricing p ≡ true

-- what every rule keeps to: who trades faces the other at its price, and its preference orders those at rest, equals
-- aside
pub record Keeps (r : Rule) : Type 0 where
  pub faces : (a o : Order) → r.fits a o ≡ true → Facing a o (r.price a o)
  pub strict : (a x : Order) → r.beats a x x ≡ false
  pub chain : (a x y z : Order) → r.beats a x y ≡ true → r.beats a y z ≡ true → r.beats a x z ≡ true
  pub over : (a x y z : Order) → r.beats a x y ≡ true → r.beats a z y ≡ false → r.beats a x z ≡ true

-- ---- the best order for a among those at rest, and the first of equals

abbrev pub improves : Rule → Order → Order → Option Order → Bool
improves r a o None = true
improves r a o (Some x) = r.beats a o x

-- the better of the best so far and the next order o
abbrev pub better_of : Rule → Order → Option Order → Order → Option Order
better_of r a found o = if r.fits a o && improves r a o found then Some o else found

abbrev pub best_from : Rule → Order → Option Order → List Order → Option Order
best_from r a found os = fold (better_of r a) found os

abbrev pub best : Rule → Order → List Order → Option Order
best r a os = best_from r a None os

-- i is the place of the best order for a
abbrev pub BestAt : Rule → Order → List Order → Option ℕ → Type 0
BestAt r a os None = best r a os ≡ None
BestAt r a os (Some i) = (i < length os) × ((d : Order) → best r a os ≡ Some (slice_index_or os i d))

-- i is the place of the best among the first k
abbrev pub BestSoFar : Rule → Order → List Order → ℕ → Option ℕ → Type 0
BestSoFar r a os k None = best r a (take k os) ≡ None
BestSoFar r a os k (Some i) = (i < k) × ((d : Order) → best r a (take k os) ≡ Some (slice_index_or os i d))

-- the order at a place, if one is given
abbrev pub standing : List Order → Order → Option ℕ → Option Order
standing os d None = None
standing os d (Some i) = Some (slice_index_or os i d)
