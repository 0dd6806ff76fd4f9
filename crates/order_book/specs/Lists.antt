-- Lists of a book's orders: who is found under a number, and a change of one order. Assumes nothing.
use Rattle.std.specs.Prelude.{ℕ, Bool, if◌then◌else◌, List, [], ◌∷◌, ◌++◌, Some, None, Option, ◌==◌}
use Rattle.std.specs.List.{find}
use Rattle.keyed.specs.Look.{Found, distinct, keyed}
use Rattle.matching.specs.declared.matcher.Held.{Held}
use Rattle.matching.specs.Meaning.{Orders}
use Rattle.order_book.specs.declared.order.Order.{Order}
use Rattle.order_book.specs.Orders.{with_quantity}

abbrev pub order_number : Order → ℕ
order_number o = o.number

abbrev pub order_held : Order → Held
order_held o = record { instrument = o.instrument; quantity = o.quantity }

-- the order of a number
abbrev pub order_in : List Order → ℕ → Option Order
order_in os n = find (λ o. o.number == n) os

-- no two orders have one number
abbrev pub all_apart : List Order → Bool
all_apart os = distinct order_number order_held os

-- what is open under each number
abbrev pub orders_of : List Order → Orders
orders_of os = keyed order_number order_held os

-- r is the place of the order of the number n
abbrev pub FoundOrder : List Order → ℕ → Option ℕ → Type 0
FoundOrder os n r = Found order_number order_held os n r

-- what remains of an order: nothing, or the order with an open quantity
abbrev pub remains : Order → Option ℕ → List Order
remains o None = []
remains o (Some q) = with_quantity o q ∷ []

-- the list with the order of the number n so changed, and the others as they stand
abbrev pub changed : ℕ → Option ℕ → List Order → List Order
changed n w [] = []
changed n w (o ∷ os) = if o.number == n then remains o w ++ os else o ∷ changed n w os
