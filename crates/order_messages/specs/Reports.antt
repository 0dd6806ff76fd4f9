-- What a venue reports: what each report's fields hold, and where its texts stand. Assumes nothing.
use Rattle.std.specs.Prelude.{ℕ, List, [], ◌∷◌}
use Rattle.codes.specs.Order.{book_code, side_code}
use Rattle.codes.specs.Report.{capacity_code, exec_type_code, mass_response_code, price_differential_code, status_code}
use Rattle.codes.specs.Session.{partition_code}
use Rattle.texts.specs.Says.{says}
use Rattle.layout.specs.Layout.{Content}
use Rattle.layout.specs.Layout.Content.{words, figure, int32, price, clock, nothing}
use Rattle.order_messages.specs.Terms.{exec_type_of, execution_reject, execution_liquidity, execution_trade}
use Rattle.order_messages.specs.declared.execution_report.ExecutionReport.{ExecutionReport}
use Rattle.order_messages.specs.declared.order_cancel_reject.OrderCancelReject.{OrderCancelReject}
use Rattle.order_messages.specs.declared.order_mass_cancel_report.OrderMassCancelReport.{OrderMassCancelReport}

-- what became of an order
abbrev pub execution_report_contents : ExecutionReport → List Content
execution_report_contents m =
    figure (partition_code m.partition)
    ∷ int32 m.sequence
    ∷ words (says m.execution_id)
    ∷ words (says m.client_order_id)
    ∷ words (says m.order_id)
    ∷ figure (exec_type_code (exec_type_of m.execution))
    ∷ words (says m.reference_id)
    ∷ figure (status_code m.status)
    ∷ execution_reject m.execution
    ∷ price m.executed_price.raw
    ∷ int32 m.executed_quantity
    ∷ int32 m.leaves_quantity
    ∷ nothing
    ∷ int32 m.display_quantity
    ∷ words (says m.symbol)
    ∷ figure (side_code m.side)
    ∷ figure m.secondary_order_id
    ∷ words (says m.counterparty)
    ∷ execution_liquidity m.execution
    ∷ figure m.trade_match_id
    ∷ clock m.transact_time.seconds m.transact_time.microseconds
    ∷ figure (book_code m.book)
    ∷ execution_trade m.execution
    ∷ figure (capacity_code m.capacity)
    ∷ figure (price_differential_code m.price_differential)
    ∷ nothing
    ∷ []

abbrev pub execution_report_places : ExecutionReport → List ℕ
execution_report_places m =
    m.execution_id.offset ∷ m.client_order_id.offset ∷ m.order_id.offset
    ∷ m.reference_id.offset ∷ m.symbol.offset ∷ m.counterparty.offset ∷ []

-- a cancel or a replacement that was refused
abbrev pub order_cancel_reject_contents : OrderCancelReject → List Content
order_cancel_reject_contents m =
    figure (partition_code m.partition)
    ∷ int32 m.sequence
    ∷ words (says m.client_order_id)
    ∷ words (says m.order_id)
    ∷ int32 m.reason
    ∷ clock m.transact_time.seconds m.transact_time.microseconds
    ∷ nothing
    ∷ []

abbrev pub order_cancel_reject_places : OrderCancelReject → List ℕ
order_cancel_reject_places m = m.client_order_id.offset ∷ m.order_id.offset ∷ []

-- whether a mass cancel was accepted
abbrev pub order_mass_cancel_report_contents : OrderMassCancelReport → List Content
order_mass_cancel_report_contents m =
    figure (partition_code m.partition)
    ∷ int32 m.sequence
    ∷ words (says m.client_order_id)
    ∷ figure (mass_response_code m.response)
    ∷ int32 m.reason
    ∷ nothing
    ∷ clock m.transact_time.seconds m.transact_time.microseconds
    ∷ nothing
    ∷ []

abbrev pub order_mass_cancel_report_places : OrderMassCancelReport → List ℕ
order_mass_cancel_report_places m = m.client_order_id.offset ∷ []
