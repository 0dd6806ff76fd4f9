-- What the orders of a book mean. Assumes nothing.
use Rattle.std.specs.Prelude.{◌≡◌, ◌≤◌, Bool, false, List, take, drop, vec_items}
use Rattle.std.proofs.Common.{arith}
use Rattle.std.specs.FinMap.{len}
use Rattle.keyed.proofs.Tables.{count}
use Rattle.limits.specs.declared.TheConstants.{ORDERS}
use Rattle.matching.specs.Meaning.{Meaning, Orders}
use Rattle.order_book.specs.declared.book.OrderBook.{OrderBook}
use Rattle.order_book.specs.declared.order.Order.{Order}
use Rattle.order_book.specs.Lists.{order_held, order_number, orders_of}
use Rattle.order_book.specs.Rules.{Lists}

-- all its open orders
abbrev pub table : OrderBook → List Order
table b = vec_items b.orders

abbrev pub lists_of : OrderBook → Lists
lists_of b = record { resting = take b.resting (table b); waiting = drop b.resting (table b) }

-- what is open under each number
abbrev pub open_in : OrderBook → Orders
open_in b = orders_of (table b)

-- such orders, of a book that serves the dark midpoint book or not, and the integrated one or not
abbrev pub booked : Bool → Bool → Orders → Meaning
booked d i os = record { orders = os; capacity = ORDERS; dark_midpoint = d; integrated = i }

abbrev pub meaning_as : Bool → Bool → OrderBook → Meaning
meaning_as d i b = booked d i (open_in b)

-- of a book that serves neither: which it serves is its owner's to say
abbrev pub plain : OrderBook → Meaning
plain b = booked false false (open_in b)

-- no more orders are open than it takes
pub bounded : (b : OrderBook) → len (open_in b) ≤ ORDERS
bounded b =
    let e = count order_number order_held (table b) b.apart in
    let l = b.limited in
    omega arith
