-- The codes of reports: each enum's values and their bytes. `Unspecified` is a null byte. Assumes nothing.
use Rattle.std.specs.Prelude.{ℕ, List, [], ◌∷◌}
use Rattle.codes.specs.declared.report as declared
use Rattle.codes.specs.declared.report.ExecType.TheVariants as exec_type
use Rattle.codes.specs.declared.report.Status.TheVariants as status
use Rattle.codes.specs.declared.report.Liquidity.TheVariants as liquidity
use Rattle.codes.specs.declared.report.TradeType.TheVariants as trade_type
use Rattle.codes.specs.declared.report.Capacity.TheVariants as capacity
use Rattle.codes.specs.declared.report.PriceDifferential.TheVariants as price_differential
use Rattle.codes.specs.declared.report.MassResponse.TheVariants as mass_response

-- why an Execution Report is sent
abbrev pub exec_types : List declared.ExecType.ExecType
exec_types =
    exec_type.Unspecified ∷ exec_type.New ∷ exec_type.Cancelled ∷ exec_type.Replaced ∷ exec_type.Rejected
    ∷ exec_type.Expired ∷ exec_type.Restated ∷ exec_type.Trade ∷ exec_type.TradeCancel ∷ []

abbrev pub exec_type_code : declared.ExecType.ExecType → ℕ
exec_type_code exec_type.Unspecified = 0
exec_type_code exec_type.New = 48
exec_type_code exec_type.Cancelled = 52
exec_type_code exec_type.Replaced = 53
exec_type_code exec_type.Rejected = 56
exec_type_code exec_type.Expired = 67
exec_type_code exec_type.Restated = 68
exec_type_code exec_type.Trade = 70
exec_type_code exec_type.TradeCancel = 72

-- the status of an order
abbrev pub statuses : List declared.Status.Status
statuses =
    status.New ∷ status.PartiallyFilled ∷ status.Filled ∷ status.Cancelled ∷ status.Expired ∷ status.Rejected
    ∷ []

abbrev pub status_code : declared.Status.Status → ℕ
status_code status.New = 0
status_code status.PartiallyFilled = 1
status_code status.Filled = 2
status_code status.Cancelled = 4
status_code status.Expired = 6
status_code status.Rejected = 8

-- whether a fill added or removed liquidity
abbrev pub liquidities : List declared.Liquidity.Liquidity
liquidities = liquidity.Unspecified ∷ liquidity.Added ∷ liquidity.Uncrossing ∷ liquidity.Removed ∷ []

abbrev pub liquidity_code : declared.Liquidity.Liquidity → ℕ
liquidity_code liquidity.Unspecified = 0
liquidity_code liquidity.Added = 65
liquidity_code liquidity.Uncrossing = 67
liquidity_code liquidity.Removed = 82

-- whether the executed part was shown
abbrev pub trade_types : List declared.TradeType.TradeType
trade_types = trade_type.Visible ∷ trade_type.Hidden ∷ []

abbrev pub trade_type_code : declared.TradeType.TradeType → ℕ
trade_type_code trade_type.Visible = 0
trade_type_code trade_type.Hidden = 1

-- the capacity that a report tells
abbrev pub capacities : List declared.Capacity.Capacity
capacities = capacity.RisklessPrincipal ∷ capacity.Principal ∷ capacity.Agency ∷ []

abbrev pub capacity_code : declared.Capacity.Capacity → ℕ
capacity_code capacity.RisklessPrincipal = 1
capacity_code capacity.Principal = 2
capacity_code capacity.Agency = 3

-- how an order's price stands to the best one
abbrev pub price_differentials : List declared.PriceDifferential.PriceDifferential
price_differentials =
    price_differential.Unspecified ∷ price_differential.JoinBest ∷ price_differential.Second
    ∷ price_differential.Third ∷ price_differential.Fourth ∷ price_differential.Fifth ∷ price_differential.Sixth
    ∷ price_differential.Seventh ∷ price_differential.Eighth ∷ price_differential.NinthOrWorse
    ∷ price_differential.Aggressive ∷ price_differential.NewBest ∷ price_differential.Passive ∷ []

abbrev pub price_differential_code : declared.PriceDifferential.PriceDifferential → ℕ
price_differential_code price_differential.Unspecified = 0
price_differential_code price_differential.JoinBest = 49
price_differential_code price_differential.Second = 50
price_differential_code price_differential.Third = 51
price_differential_code price_differential.Fourth = 52
price_differential_code price_differential.Fifth = 53
price_differential_code price_differential.Sixth = 54
price_differential_code price_differential.Seventh = 55
price_differential_code price_differential.Eighth = 56
price_differential_code price_differential.NinthOrWorse = 57
price_differential_code price_differential.Aggressive = 65
price_differential_code price_differential.NewBest = 66
price_differential_code price_differential.Passive = 80

-- whether a mass cancel was accepted
abbrev pub mass_responses : List declared.MassResponse.MassResponse
mass_responses = mass_response.Rejected ∷ mass_response.Accepted ∷ []

abbrev pub mass_response_code : declared.MassResponse.MassResponse → ℕ
mass_response_code mass_response.Rejected = 0
mass_response_code mass_response.Accepted = 7
