-- The numbers of what a gateway's caller is told, and where in a message a check fails. Assumes nothing.
use Rattle.std.specs.Prelude.{ℕ, Some, None, Option}
use Rattle.gateway.specs.declared.fault.GatewayFault.{GatewayFault}
use Rattle.gateway.specs.declared.fault.GatewayFault.TheVariants.{ShortBuffer, NoSuchLine, Session, NoPlace, TradesFull, NoSuchTrade, AlreadyCancelled}
use Rattle.gateway.specs.declared.fault.SessionFault.{SessionFault}
use Rattle.gateway.specs.declared.fault.SessionFault.TheVariants.{NotLoggedOn, Wire}
use Rattle.answers.specs.Numbers.{reason_number}
use Rattle.answers.specs.declared.answer.Reason.TheVariants as reason
use Rattle.layout.specs.Faults.{fault_number, fault_offset}
use Rattle.refusals.specs.Numbers.{turned_number}
use Rattle.refusals.specs.declared.Turned.TheVariants as turned

abbrev pub session_number : SessionFault → ℕ
session_number NotLoggedOn = reason_number reason.NotLoggedOn
session_number (Wire f) = fault_number f

abbrev pub number : GatewayFault → ℕ
number ShortBuffer = 6
number NoSuchLine = 14
number (Session f) = session_number f
number NoPlace = turned_number turned.NoPlace
number TradesFull = 41
number NoSuchTrade = 42
number AlreadyCancelled = 43

-- where in the message the check failed, if it is one of the message's
abbrev pub session_offset : SessionFault → Option ℕ
session_offset NotLoggedOn = None
session_offset (Wire f) = Some (fault_offset f)

abbrev pub offset : GatewayFault → Option ℕ
offset ShortBuffer = None
offset NoSuchLine = None
offset (Session f) = session_offset f
offset NoPlace = None
offset TradesFull = None
offset NoSuchTrade = None
offset AlreadyCancelled = None
