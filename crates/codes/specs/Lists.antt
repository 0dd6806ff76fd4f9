-- The lists of codes, by name. Assumes nothing.
use Rattle.std.specs.Prelude.{◌≡◌, ℕ, Bool, true, ◌&&◌, ◌||◌, nat_le, List, [], ◌∷◌, map}
use Rattle.std.specs.List.{list_any}
use Rattle.codes.specs.Member.{member}
use Rattle.codes.specs.declared.lists.Codes.{Codes}
use Rattle.codes.specs.declared.lists.Codes.TheVariants as list
use Rattle.codes.specs.declared.order.OrderType.TheVariants as order_type
use Rattle.codes.specs.declared.order.Book.TheVariants as book
use Rattle.codes.specs.declared.order.MassCancelType.TheVariants as mass_cancel_type
use Rattle.codes.specs.declared.report.ExecType.TheVariants as exec_type
use Rattle.codes.specs.Order.{side_code, sides, order_type_code, order_types, time_in_force_code, times_in_force, clearing_account_code, clearing_accounts, order_capacity_code, order_capacities, auto_cancel_code, auto_cancels, order_sub_type_code, order_sub_types, book_code, books, exec_instruction_code, exec_instructions, passive_only_code, passive_onlys, mass_cancel_type_code, mass_cancel_types}
use Rattle.codes.specs.Session.{version_code, versions, partition_code, partitions, ack_response_code, ack_responses, report_response_code, report_responses}
use Rattle.codes.specs.Report.{exec_type_code, exec_types, status_code, statuses, liquidity_code, liquidities, trade_type_code, trade_types, capacity_code, capacities, price_differential_code, price_differentials, mass_response_code, mass_responses}

-- the bytes of each list
abbrev pub listed : Codes → List ℕ
listed list.Sides = map side_code sides
listed list.OrderTypes = map order_type_code order_types
listed list.TimesInForce = map time_in_force_code times_in_force
listed list.ClearingAccounts = map clearing_account_code clearing_accounts
listed list.OrderCapacities = map order_capacity_code order_capacities
listed list.AutoCancels = map auto_cancel_code auto_cancels
listed list.OrderSubTypes = map order_sub_type_code order_sub_types
listed list.Books = map book_code books
listed list.ExecInstructions = map exec_instruction_code exec_instructions
listed list.PassiveOnlys = map passive_only_code passive_onlys
listed list.MassCancelTypes = map mass_cancel_type_code mass_cancel_types
listed list.Versions = map version_code versions
listed list.Partitions = map partition_code partitions
listed list.AckResponses = map ack_response_code ack_responses
listed list.ReportResponses = map report_response_code report_responses
listed list.ExecTypes = map exec_type_code exec_types
listed list.Statuses = map status_code statuses
listed list.Liquidities = map liquidity_code liquidities
listed list.TradeTypes = map trade_type_code trade_types
listed list.Capacities = map capacity_code capacities
listed list.PriceDifferentials = map price_differential_code price_differentials
listed list.MassResponses = map mass_response_code mass_responses
listed list.LimitOnly = map order_type_code (order_type.Limit ∷ [])
listed list.DarkOnly = map book_code (book.DarkMidpoint ∷ [])
listed list.ByInstrument =
    map mass_cancel_type_code (mass_cancel_type.FirmInstrument ∷ mass_cancel_type.CompIdInstrument ∷ [])
listed list.BySegment = map mass_cancel_type_code (mass_cancel_type.FirmSegment ∷ mass_cancel_type.CompIdSegment ∷ [])
listed list.RejectedOnly = map exec_type_code (exec_type.Rejected ∷ [])
listed list.TradeOnly = map exec_type_code (exec_type.Trade ∷ [])
listed list.TradeOrCancel = map exec_type_code (exec_type.Trade ∷ exec_type.TradeCancel ∷ [])

-- a type's values have bytes of the list, and no two the same
pub record AreSound {V : Type 0} (list : Codes) (coded : V → ℕ) : Type 0 where
  pub every : (x : V) → member (coded x) (listed list) ≡ true
  pub one : (x y : V) → coded x ≡ coded y → x ≡ y

-- a digit or a capital letter
abbrev pub is_character : ℕ → Bool
is_character b = (nat_le 48 b && nat_le b 57) || (nat_le 65 b && nat_le b 90)

-- a list whose bytes are characters
abbrev pub alpha : Codes → Bool
alpha cs = list_any is_character (listed cs)
