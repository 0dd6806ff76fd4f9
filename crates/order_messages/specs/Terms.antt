-- What several fields tell together: those fields, one of which says which others matter, and what each of them holds.
-- Assumes nothing.
use Rattle.std.specs.Prelude.{ℕ, ◌+◌, ℤ, List, [], ◌∷◌, Some, None, Option}
use Rattle.codes.specs.declared.lists.Codes.TheVariants as list
use Rattle.codes.specs.declared.order.MassCancelType.{MassCancelType}
use Rattle.codes.specs.declared.order.MassCancelType.TheVariants as mass_cancel_type
use Rattle.codes.specs.declared.report.ExecType.{ExecType}
use Rattle.codes.specs.declared.report.ExecType.TheVariants as exec
use Rattle.codes.specs.Order.{book_code, exec_instruction_code, mass_cancel_type_code, order_type_code}
use Rattle.codes.specs.Report.{exec_type_code, liquidity_code, trade_type_code}
use Rattle.terms.specs.declared.pricing.Pricing.{Pricing}
use Rattle.terms.specs.declared.pricing.Pricing.TheVariants.{Market, Limit}
use Rattle.terms.specs.declared.target.Target.{Target}
use Rattle.terms.specs.declared.target.Target.TheVariants.{DarkMidpoint, Integrated}
use Rattle.terms.specs.declared.execution.Execution.{Execution}
use Rattle.terms.specs.declared.execution.Execution.TheVariants as execution
use Rattle.terms.specs.Execution.{kind_of}
use Rattle.terms.specs.Pricing.{order_type_of}
use Rattle.terms.specs.Target.{book_of}
use Rattle.texts.specs.Says.{says}
use Rattle.layout.specs.declared.field.Form.TheVariants as form
use Rattle.layout.specs.declared.field.Field.{Field}
use Rattle.layout.specs.declared.field.Field.TheVariants.{Always, When}
use Rattle.layout.specs.Layout.{Content}
use Rattle.layout.specs.Layout.Content.{words, figure, int32, price, nothing}
use Rattle.order_messages.specs.declared.order_mass_cancel_request.Scope.{Scope}
use Rattle.order_messages.specs.declared.order_mass_cancel_request.Scope.TheVariants as scope

-- LimitPrice, of a limit order
abbrev pub pricing_price : Pricing → Content
pricing_price Market = nothing
pricing_price (Limit p) = price p.raw

abbrev pub limit_field : ℕ → Field
limit_field at = When at form.Price 52 list.LimitOnly

abbrev pub pricing_fields : List Field
pricing_fields = Always 52 (form.Code list.OrderTypes) ∷ limit_field 67 ∷ []

abbrev pub pricing_contents : Pricing → List Content
pricing_contents p = figure (order_type_code (order_type_of p)) ∷ pricing_price p ∷ []

-- Exec Instruction, of an order for the dark book
abbrev pub target_instruction : Target → Content
target_instruction (DarkMidpoint i) = figure (exec_instruction_code i)
target_instruction Integrated = nothing

-- TargetBook at a place, and Exec Instruction right behind it
abbrev pub target_fields : ℕ → List Field
target_fields at =
    Always at (form.Code list.Books) ∷ When (at + 1) (form.Code list.ExecInstructions) at list.DarkOnly ∷ []

abbrev pub target_contents : Target → List Content
target_contents t = figure (book_code (book_of t)) ∷ target_instruction t ∷ []

-- why an Execution Report is sent; none where its exec type is null
abbrev pub Sent : Type 0
Sent = Option (Execution ℤ)

abbrev pub exec_type_of : Sent → ExecType
exec_type_of None = exec.Unspecified
exec_type_of (Some e) = kind_of e

-- Order Reject Code, of a rejected order
abbrev pub execution_reject : Sent → Content
execution_reject (Some (execution.Rejected n)) = int32 n
execution_reject e = nothing

abbrev pub reject_field : ℕ → Field
reject_field at = When at form.Int32 53 list.RejectedOnly

-- Trade Liquidity Indicator, of a trade or its cancellation
abbrev pub execution_liquidity : Sent → Content
execution_liquidity (Some (execution.Trade l t)) = figure (liquidity_code l)
execution_liquidity (Some (execution.TradeCancel l)) = figure (liquidity_code l)
execution_liquidity e = nothing

abbrev pub liquidity_field : ℕ → Field
liquidity_field at = When at (form.Code list.Liquidities) 53 list.TradeOrCancel

-- TypeOfTrade, of a trade
abbrev pub execution_trade : Sent → Content
execution_trade (Some (execution.Trade l t)) = figure (trade_type_code t)
execution_trade e = nothing

abbrev pub trade_field : ℕ → Field
trade_field at = When at (form.Code list.TradeTypes) 53 list.TradeOnly

abbrev pub execution_fields : List Field
execution_fields =
    Always 53 (form.Code list.ExecTypes) ∷ reject_field 67 ∷ liquidity_field 118 ∷ trade_field 136 ∷ []

abbrev pub execution_contents : Sent → List Content
execution_contents e =
    figure (exec_type_code (exec_type_of e)) ∷ execution_reject e ∷ execution_liquidity e ∷ execution_trade e ∷ []

-- MassCancelType
abbrev pub scope_kind : Scope → MassCancelType
scope_kind (scope.FirmInstrument s b) = mass_cancel_type.FirmInstrument
scope_kind (scope.FirmSegment s) = mass_cancel_type.FirmSegment
scope_kind scope.CompId = mass_cancel_type.CompId
scope_kind scope.Firm = mass_cancel_type.Firm
scope_kind (scope.CompIdInstrument s b) = mass_cancel_type.CompIdInstrument
scope_kind (scope.CompIdSegment s) = mass_cancel_type.CompIdSegment

-- CommonSymbol and TargetBook, of a mass cancel by instrument
abbrev pub scope_symbol : Scope → Content
scope_symbol (scope.FirmInstrument s b) = words (says s)
scope_symbol (scope.CompIdInstrument s b) = words (says s)
scope_symbol x = nothing

abbrev pub scope_book : Scope → Content
scope_book (scope.FirmInstrument s b) = figure (book_code b)
scope_book (scope.CompIdInstrument s b) = figure (book_code b)
scope_book x = nothing

abbrev pub symbol_field : ℕ → Field
symbol_field at = When at (form.Text 6) 24 list.ByInstrument

abbrev pub book_field : ℕ → Field
book_field at = When at (form.Code list.Books) 24 list.ByInstrument

-- Segment, of a mass cancel by segment
abbrev pub scope_segment : Scope → Content
scope_segment (scope.FirmSegment s) = words (says s)
scope_segment (scope.CompIdSegment s) = words (says s)
scope_segment x = nothing

abbrev pub segment_field : ℕ → Field
segment_field at = When at (form.Text 4) 24 list.BySegment

abbrev pub scope_fields : List Field
scope_fields =
    Always 24 (form.Code list.MassCancelTypes) ∷ symbol_field 25 ∷ segment_field 31 ∷ book_field 36 ∷ []

abbrev pub scope_contents : Scope → List Content
scope_contents x =
    figure (mass_cancel_type_code (scope_kind x)) ∷ scope_symbol x ∷ scope_segment x ∷ scope_book x ∷ []

-- where its text stands
abbrev pub scope_places : Scope → List ℕ
scope_places (scope.FirmInstrument s b) = s.offset ∷ []
scope_places (scope.CompIdInstrument s b) = s.offset ∷ []
scope_places (scope.FirmSegment s) = s.offset ∷ []
scope_places (scope.CompIdSegment s) = s.offset ∷ []
scope_places x = []
