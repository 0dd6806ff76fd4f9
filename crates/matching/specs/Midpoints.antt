-- When a midpoint is refused. Assumes nothing.
use Rattle.std.specs.Prelude.{ℕ, Bool, true, false, if◌then◌else◌, pos, Some, None, Option, int_le, nat_lt}
use Rattle.texts.specs.declared.values.Price.{Price}
use Rattle.matching.specs.declared.midpoint.MidpointRefusal.{MidpointRefusal}
use Rattle.matching.specs.declared.midpoint.MidpointRefusal.TheVariants.{NoInstrument, NoMidpoints, BadPrice}

abbrev pub midpoint_number : MidpointRefusal → ℕ
midpoint_number NoInstrument = 20
midpoint_number NoMidpoints = 21
midpoint_number BadPrice = 22

-- a price is above 0; none is no price
abbrev pub price_refusal : Option Price → Option MidpointRefusal
price_refusal None = None
price_refusal (Some p) = if int_le p.raw (pos 0) then Some BadPrice else None

-- by an engine that is told midpoints, and by any other
abbrev pub midpoint_refusal : Bool → ℕ → Option Price → Option MidpointRefusal
midpoint_refusal true i p = if nat_lt i 32 then price_refusal p else Some NoInstrument
midpoint_refusal false i p = Some NoMidpoints
