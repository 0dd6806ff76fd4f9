-- What an order may ask for. Assumes nothing.
use Rattle.std.specs.Prelude.{ℕ, Bool, true, false, ℤ, pos, negsuc, Some, None, Option, int_lt, if◌then◌else◌}
use Rattle.std.specs.Ordering.{int_eq}
use Rattle.codes.specs.declared.order.OrderCapacity.{OrderCapacity}
use Rattle.codes.specs.declared.order.OrderCapacity.TheVariants as capacity
use Rattle.codes.specs.declared.order.OrderType.{OrderType}
use Rattle.codes.specs.declared.order.OrderType.TheVariants as kind
use Rattle.codes.specs.declared.order.PassiveOnly.{PassiveOnly}
use Rattle.codes.specs.declared.order.PassiveOnly.TheVariants as passive
use Rattle.codes.specs.declared.report.Capacity.{Capacity}
use Rattle.codes.specs.declared.report.Capacity.TheVariants as told
use Rattle.orders.specs.Rows.{orderable}
use Rattle.terms.specs.declared.pricing.Pricing.{Pricing}
use Rattle.terms.specs.declared.pricing.Pricing.TheVariants.{Market, Limit}
use Rattle.texts.specs.declared.values.Price.{Price}

-- 1 to 1,000,000,000 shares
abbrev pub shares : ℤ → Option ℕ
shares (pos n) = if orderable n then Some n else None
shares (negsuc n) = None

-- the same, where all of them are shown
abbrev pub shown : ℤ → ℤ → Option ℕ
shown quantity display = if int_eq display quantity then shares quantity else None

-- no least quantity of a trade, and free to match at once
abbrev pub is_plain : ℤ → PassiveOnly → Bool
is_plain least passive.NoConstraint = int_eq least (pos 0)
is_plain least _ = false

abbrev pub is_above_zero : Price → Bool
is_above_zero p = int_lt (pos 0) p.raw

-- an order with a limit has one above 0
abbrev pub is_priced : Pricing → Bool
is_priced Market = true
is_priced (Limit p) = is_above_zero p

abbrev pub may_cost : OrderType → Price → Bool
may_cost kind.Market p = true
may_cost kind.Limit p = is_above_zero p

abbrev pub is_own : OrderCapacity → Bool
is_own capacity.CfdGiveUp = false
is_own _ = true

-- a report has no word for a give-up, and tells it as principal
abbrev pub told_capacity : OrderCapacity → Capacity
told_capacity capacity.RisklessPrincipal = told.RisklessPrincipal
told_capacity capacity.Principal = told.Principal
told_capacity capacity.Agency = told.Agency
told_capacity capacity.CfdGiveUp = told.Principal
