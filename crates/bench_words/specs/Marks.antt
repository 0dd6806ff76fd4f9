-- How an order is marked, how long it waits, and for which book it is. Assumes nothing.
use Rattle.std.specs.Prelude.{Bool, true, false}
use Rattle.codes.specs.declared.order.AutoCancel.{AutoCancel}
use Rattle.codes.specs.declared.order.AutoCancel.TheVariants.{Keep, AsConfigured}
use Rattle.codes.specs.declared.order.TimeInForce.{TimeInForce}
use Rattle.codes.specs.declared.order.TimeInForce.TheVariants as tif
use Rattle.codes.specs.declared.order.Book.{Book}
use Rattle.codes.specs.declared.order.Book.TheVariants as book
use Rattle.codes.specs.declared.order.ExecInstruction.TheVariants.{ContinuousAndPeriodic}
use Rattle.terms.specs.declared.lifetime.Lifetime.{Lifetime}
use Rattle.terms.specs.declared.lifetime.Lifetime.TheVariants as lifetime
use Rattle.terms.specs.declared.target.Target.{Target}
use Rattle.terms.specs.declared.target.Target.TheVariants.{DarkMidpoint, Integrated}

abbrev pub auto_cancel_of : Bool → AutoCancel
auto_cancel_of true = AsConfigured
auto_cancel_of false = Keep

abbrev pub time_in_force_of : Lifetime → TimeInForce
time_in_force_of lifetime.Day = tif.Day
time_in_force_of lifetime.ImmediateOrCancel = tif.ImmediateOrCancel

-- in the dark book it takes part at all times
abbrev pub target_of : Book → Target
target_of book.DarkMidpoint = DarkMidpoint ContinuousAndPeriodic
target_of book.Integrated = Integrated
