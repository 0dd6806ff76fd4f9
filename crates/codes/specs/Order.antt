-- The codes of an order's terms: each enum's values and their bytes. Assumes nothing.
use Rattle.std.specs.Prelude.{ℕ, List, [], ◌∷◌, codes}
use Rattle.codes.specs.declared.order as declared
use Rattle.codes.specs.declared.order.Side.TheVariants as side
use Rattle.codes.specs.declared.order.OrderType.TheVariants as order_type
use Rattle.codes.specs.declared.order.TimeInForce.TheVariants as time_in_force
use Rattle.codes.specs.declared.order.ClearingAccount.TheVariants as clearing_account
use Rattle.codes.specs.declared.order.OrderCapacity.TheVariants as order_capacity
use Rattle.codes.specs.declared.order.AutoCancel.TheVariants as auto_cancel
use Rattle.codes.specs.declared.order.OrderSubType.TheVariants as order_sub_type
use Rattle.codes.specs.declared.order.Book.TheVariants as book
use Rattle.codes.specs.declared.order.ExecInstruction.TheVariants as exec_instruction
use Rattle.codes.specs.declared.order.PassiveOnly.TheVariants as passive_only
use Rattle.codes.specs.declared.order.MassCancelType.TheVariants as mass_cancel_type

-- side of an order
abbrev pub sides : List declared.Side.Side
sides = side.Buy ∷ side.Sell ∷ []

abbrev pub side_code : declared.Side.Side → ℕ
side_code side.Buy = 1
side_code side.Sell = 2

-- the word for it
abbrev pub side_text : declared.Side.Side → List ℕ
side_text side.Buy = codes "buy"
side_text side.Sell = codes "sell"

-- whether an order has a limit
abbrev pub order_types : List declared.OrderType.OrderType
order_types = order_type.Market ∷ order_type.Limit ∷ []

abbrev pub order_type_code : declared.OrderType.OrderType → ℕ
order_type_code order_type.Market = 1
order_type_code order_type.Limit = 2

-- how long an order stays
abbrev pub times_in_force : List declared.TimeInForce.TimeInForce
times_in_force =
    time_in_force.Day ∷ time_in_force.GoodTillCancel ∷ time_in_force.ImmediateOrCancel
    ∷ time_in_force.FillOrKill ∷ time_in_force.GoodTillDate ∷ time_in_force.GoodTillTime ∷ []

abbrev pub time_in_force_code : declared.TimeInForce.TimeInForce → ℕ
time_in_force_code time_in_force.Day = 0
time_in_force_code time_in_force.GoodTillCancel = 1
time_in_force_code time_in_force.ImmediateOrCancel = 3
time_in_force_code time_in_force.FillOrKill = 4
time_in_force_code time_in_force.GoodTillDate = 6
time_in_force_code time_in_force.GoodTillTime = 8

-- whose account clears a trade
abbrev pub clearing_accounts : List declared.ClearingAccount.ClearingAccount
clearing_accounts = clearing_account.Client ∷ clearing_account.House ∷ []

abbrev pub clearing_account_code : declared.ClearingAccount.ClearingAccount → ℕ
clearing_account_code clearing_account.Client = 1
clearing_account_code clearing_account.House = 3

-- in which capacity a firm enters an order
abbrev pub order_capacities : List declared.OrderCapacity.OrderCapacity
order_capacities =
    order_capacity.RisklessPrincipal ∷ order_capacity.Principal ∷ order_capacity.Agency
    ∷ order_capacity.CfdGiveUp ∷ []

abbrev pub order_capacity_code : declared.OrderCapacity.OrderCapacity → ℕ
order_capacity_code order_capacity.RisklessPrincipal = 1
order_capacity_code order_capacity.Principal = 2
order_capacity_code order_capacity.Agency = 3
order_capacity_code order_capacity.CfdGiveUp = 4

-- whether an order is marked to end with the line; if so, the CompID's configuration decides
abbrev pub auto_cancels : List declared.AutoCancel.AutoCancel
auto_cancels = auto_cancel.Keep ∷ auto_cancel.AsConfigured ∷ []

abbrev pub auto_cancel_code : declared.AutoCancel.AutoCancel → ℕ
auto_cancel_code auto_cancel.Keep = 0
auto_cancel_code auto_cancel.AsConfigured = 1

-- the one kind of request that a New Order makes
abbrev pub order_sub_types : List declared.OrderSubType.OrderSubType
order_sub_types = order_sub_type.Order ∷ []

abbrev pub order_sub_type_code : declared.OrderSubType.OrderSubType → ℕ
order_sub_type_code order_sub_type.Order = 0

-- the book that an order is for
abbrev pub books : List declared.Book.Book
books = book.DarkMidpoint ∷ book.Integrated ∷ []

abbrev pub book_code : declared.Book.Book → ℕ
book_code book.DarkMidpoint = 0
book_code book.Integrated = 1

-- when an order of the dark book takes part
abbrev pub exec_instructions : List declared.ExecInstruction.ExecInstruction
exec_instructions =
    exec_instruction.ContinuousAndPeriodic ∷ exec_instruction.PeriodicOnly ∷ exec_instruction.ContinuousOnly
    ∷ []

abbrev pub exec_instruction_code : declared.ExecInstruction.ExecInstruction → ℕ
exec_instruction_code exec_instruction.ContinuousAndPeriodic = 0
exec_instruction_code exec_instruction.PeriodicOnly = 1
exec_instruction_code exec_instruction.ContinuousOnly = 2

-- whether an order must rest, and how near the best price
abbrev pub passive_onlys : List declared.PassiveOnly.PassiveOnly
passive_onlys =
    passive_only.NoConstraint ∷ passive_only.SetOrJoinBest ∷ passive_only.WithinOnePoint
    ∷ passive_only.WithinTwoPoints ∷ passive_only.RestOnEntry ∷ passive_only.SetBest ∷ []

abbrev pub passive_only_code : declared.PassiveOnly.PassiveOnly → ℕ
passive_only_code passive_only.NoConstraint = 0
passive_only_code passive_only.SetOrJoinBest = 1
passive_only_code passive_only.WithinOnePoint = 2
passive_only_code passive_only.WithinTwoPoints = 3
passive_only_code passive_only.RestOnEntry = 99
passive_only_code passive_only.SetBest = 100

-- which orders a mass cancel takes
abbrev pub mass_cancel_types : List declared.MassCancelType.MassCancelType
mass_cancel_types =
    mass_cancel_type.FirmInstrument ∷ mass_cancel_type.FirmSegment ∷ mass_cancel_type.CompId
    ∷ mass_cancel_type.Firm ∷ mass_cancel_type.CompIdInstrument ∷ mass_cancel_type.CompIdSegment ∷ []

abbrev pub mass_cancel_type_code : declared.MassCancelType.MassCancelType → ℕ
mass_cancel_type_code mass_cancel_type.FirmInstrument = 3
mass_cancel_type_code mass_cancel_type.FirmSegment = 4
mass_cancel_type_code mass_cancel_type.CompId = 7
mass_cancel_type_code mass_cancel_type.Firm = 8
mass_cancel_type_code mass_cancel_type.CompIdInstrument = 9
mass_cancel_type_code mass_cancel_type.CompIdSegment = 15
