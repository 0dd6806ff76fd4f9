-- What a matching engine means, and what each call does to that meaning. Assumes nothing.
use Rattle.std.specs.Prelude.{◌≡◌, ◌≢◌, ℕ, ◌-◌, ◌≤◌, Bool, true, if◌then◌else◌, is_some, Some, None, Option, ◌==◌, nat_le, nat_lt}
use Rattle.std.specs.FinMap.{FinMap, get, len}
use Rattle.std.specs.Ordering.{nat_cmp}
use Rattle.std.specs.Option.{option_map}
use Rattle.keyed.specs.Look.{put}
use Rattle.codes.specs.declared.order.Book.{Book}
use Rattle.codes.specs.declared.order.Book.TheVariants.{DarkMidpoint, Integrated}
use Rattle.matching.specs.declared.event.Event.{Event}
use Rattle.matching.specs.declared.event.Event.TheVariants.{Nothing, Expired, Trade}
use Rattle.matching.specs.declared.matcher.Held.{Held}
use Rattle.matching.specs.declared.matcher.Refusal.{Refusal}
use Rattle.matching.specs.declared.matcher.Refusal.TheVariants.{NoQuantity, NumberOpen, Full, NotOpen}
use Rattle.matching.specs.declared.matcher.Ticket.{Ticket}

-- what is open under each order number
abbrev pub Orders : Type 0
Orders = FinMap nat_cmp Held

pub record Meaning : Type 0 where
  pub orders : Orders
  -- how many orders can be open
  pub capacity : ℕ
  -- whether it serves the one book, and the other
  pub dark_midpoint : Bool
  pub integrated : Bool

abbrev pub serves : Meaning → Book → Bool
serves m DarkMidpoint = m.dark_midpoint
serves m Integrated = m.integrated

-- the open quantity under a number, 0 where none is open
abbrev pub quantity_of : Option Held → ℕ
quantity_of None = 0
quantity_of (Some h) = h.quantity

abbrev pub open_quantity : Orders → ℕ → ℕ
open_quantity os n = quantity_of (get os n)

abbrev pub instrument_of : Option Held → ℕ
instrument_of None = 0
instrument_of (Some h) = h.instrument

-- ---- what a call does

-- w is what is open under n, and all else is as it was
abbrev pub with_order : Meaning → ℕ → Option Held → Meaning
with_order m n w = record m { orders = put m.orders n w }

abbrev pub held_of : Ticket → Held
held_of t = record { instrument = t.instrument; quantity = t.quantity }

abbrev pub opened : Meaning → ℕ → Held → Meaning
opened m n h = with_order m n (Some h)

abbrev pub closed : Meaning → ℕ → Meaning
closed m n = with_order m n None

abbrev pub resized : Meaning → ℕ → ℕ → Meaning
resized m n q = with_order m n (option_map (λ (h : Held). record h { quantity = q }) (get m.orders n))

-- ---- when a call is refused, and with which refusal

abbrev pub enter_refusal : Meaning → ℕ → ℕ → Option Refusal
enter_refusal m n q =
    if q == 0 then Some NoQuantity
    else (if is_some (get m.orders n) then Some NumberOpen
    else (if nat_le m.capacity (len m.orders) then Some Full else None))

abbrev pub cancel_refusal : Meaning → ℕ → Option Refusal
cancel_refusal m n = if is_some (get m.orders n) then None else Some NotOpen

abbrev pub amend_refusal : Meaning → ℕ → ℕ → Option Refusal
amend_refusal m n q =
    if is_some (get m.orders n) then (if q == 0 then Some NoQuantity else None) else Some NotOpen

-- ---- events

-- a trade names one order, or two of one instrument, and each has as much open
abbrev pub Parties : Orders → ℕ → Option ℕ → Option ℕ → Type 0
Parties os q None None = ⊥
Parties os q (Some p) None = q ≤ open_quantity os p
Parties os q None (Some a) = q ≤ open_quantity os a
Parties os q (Some p) (Some a) =
    (q ≤ open_quantity os p) × (q ≤ open_quantity os a) × (p ≢ a)
    × (instrument_of (get os p) ≡ instrument_of (get os a))

-- the events that may come
abbrev pub Allowed : Orders → Event → Type 0
Allowed os Nothing = Unit {0}
Allowed os (Expired n) = is_some (get os n) ≡ true
Allowed os (Trade p a q price) = (1 ≤ q) × Parties os q p a

-- what is left of an order when q comes off it: with none left it ends
abbrev pub left : ℕ → Option Held → Option Held
left q None = None
left q (Some h) = if nat_lt q h.quantity then Some (record h { quantity = h.quantity - q }) else None

abbrev pub filled : Meaning → ℕ → Option ℕ → Meaning
filled m q None = m
filled m q (Some n) = with_order m n (left q (get m.orders n))

abbrev pub happened : Meaning → Event → Meaning
happened m Nothing = m
happened m (Expired n) = closed m n
happened m (Trade p a q price) = filled (filled m q p) q a
