-- That no two of the orders at rest cross. Assumes nothing.
use Rattle.std.specs.Prelude.{Bool, true, not, ◌&&◌, List, [], ◌∷◌}
use Rattle.std.specs.List.{list_all}
use Rattle.order_book.specs.Orders.{rests}
use Rattle.order_book.specs.declared.order.Order.{Order}
use Rattle.lit_book.specs.Orders.{crosses}

-- no order of the list crosses o
abbrev pub clear_of : Order → List Order → Bool
clear_of o xs = list_all (λ x. not (crosses x o)) xs

-- only orders that rest are at rest, and none crosses one that rested before it
abbrev pub settled : List Order → Bool
settled [] = true
settled (o ∷ os) = rests o && (clear_of o os && settled os)
