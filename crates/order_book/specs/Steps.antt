-- The step that a book takes next. Assumes nothing.
use Rattle.std.specs.Prelude.{◌≡◌, ℕ, ◌<◌, false, List, length, Some, None, Option, slice_index_or}
use Rattle.std.specs.List.{slice_get}
use Rattle.matching.specs.Meaning.{Meaning, closed, resized}
use Rattle.order_book.specs.declared.book.Turn.{Turn}
use Rattle.order_book.specs.declared.book.Turn.TheVariants.{Idle, Expires, Trades}
use Rattle.order_book.specs.declared.order.Order.{Order}
use Rattle.order_book.specs.Orders.{rests}
use Rattle.order_book.specs.Pairing.{Rule, best}
use Rattle.order_book.specs.Rules.{Lists}

-- the meaning after a change of the order of a number
abbrev pub remaining : Meaning → ℕ → Option ℕ → Meaning
remaining m n None = closed m n
remaining m n (Some q) = resized m n q

-- o stands at a place
abbrev pub Stands : List Order → ℕ → Order → Type 0
Stands os i o = (i < length os) × (o ≡ slice_index_or os i o)

-- the turn is what the oldest waiting order does, where it does not come to rest
abbrev pub TurnIs : Rule → Lists → Turn → Type 0
TurnIs r b Idle = slice_get b.waiting 0 ≡ None
TurnIs r b (Expires a) = (slice_get b.waiting 0 ≡ Some a) × (best r a b.resting ≡ None) × (rests a ≡ false)
TurnIs r b (Trades a o i) = (slice_get b.waiting 0 ≡ Some a) × (best r a b.resting ≡ Some o) × Stands b.resting i o
