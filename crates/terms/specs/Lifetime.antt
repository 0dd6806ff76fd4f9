-- How long an order waits, by its time in force. Assumes nothing.
use Rattle.std.specs.Prelude.{Bool, true, false, Some, None, Option}
use Rattle.codes.specs.declared.order.TimeInForce.{TimeInForce}
use Rattle.codes.specs.declared.order.TimeInForce.TheVariants as tif
use Rattle.terms.specs.declared.lifetime.Lifetime.{Lifetime}
use Rattle.terms.specs.declared.lifetime.Lifetime.TheVariants.{Day, ImmediateOrCancel}

-- only these two are served
abbrev pub lifetime_of : TimeInForce → Option Lifetime
lifetime_of tif.Day = Some Day
lifetime_of tif.ImmediateOrCancel = Some ImmediateOrCancel
lifetime_of _ = None

abbrev pub is_asked : TimeInForce → Lifetime → Bool
is_asked tif.Day Day = true
is_asked tif.ImmediateOrCancel ImmediateOrCancel = true
is_asked _ _ = false
