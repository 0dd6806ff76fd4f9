-- What the message of a report says. Partition and number are the store's, the Execution ID follows from them, and what
-- no rule names is null. Assumes nothing.
use Rattle.std.specs.Prelude.{ℕ, ℤ, List, [], ◌∷◌, Some, pos}
use Rattle.codes.specs.Order.{book_code, side_code}
use Rattle.codes.specs.Report.{capacity_code, exec_type_code, mass_response_code, price_differential_code, status_code}
use Rattle.codes.specs.Session.{partition_code}
use Rattle.codes.specs.declared.session.Partition.{Partition}
use Rattle.codes.specs.declared.report.PriceDifferential.TheVariants as differential
use Rattle.codes.specs.declared.report.MassResponse.{MassResponse}
use Rattle.codes.specs.declared.report.MassResponse.TheVariants as response
use Rattle.refusals.specs.Numbers.{refusal_number}
use Rattle.refusals.specs.declared.Refusal.{Refusal}
use Rattle.terms.specs.declared.execution.Execution.{Execution}
use Rattle.terms.specs.declared.execution.Execution.TheVariants as execution
use Rattle.texts.specs.Bytes.{said}
use Rattle.layout.specs.Layout.{Content}
use Rattle.layout.specs.Layout.Content.{words, figure, int32, price, clock, nothing}
use Rattle.order_messages.specs.Terms.{exec_type_of, execution_reject, execution_liquidity, execution_trade}
use Rattle.wire.specs.declared.kinds.Kind.{Kind}
use Rattle.wire.specs.declared.kinds.Kind.TheVariants as kind
use Rattle.wire.specs.Messages.{message_bytes}
use Rattle.reports.specs.declared.report.ExecutionReport.{ExecutionReport}
use Rattle.reports.specs.declared.report.CancelReject.{CancelReject}
use Rattle.reports.specs.declared.report.MassAnswer.{MassAnswer}
use Rattle.reports.specs.declared.report.MassAnswer.TheVariants.{Accepted, Rejected}
use Rattle.reports.specs.declared.report.MassCancelReport.{MassCancelReport}
use Rattle.reports.specs.declared.report.Report.{Report}
use Rattle.reports.specs.declared.report.Report.TheVariants as report
use Rattle.report_messages.specs.Identifiers.{order_text, reference_text, own_text}

-- why a report is sent, in the message's words: a refusal as its number
abbrev pub sent_as : Execution Refusal → Execution ℤ
sent_as execution.New = execution.New
sent_as execution.Cancelled = execution.Cancelled
sent_as execution.Replaced = execution.Replaced
sent_as (execution.Rejected r) = execution.Rejected (pos (refusal_number r))
sent_as execution.Expired = execution.Expired
sent_as execution.Restated = execution.Restated
sent_as (execution.Trade l t) = execution.Trade l t
sent_as (execution.TradeCancel l) = execution.TradeCancel l

-- an Execution Report: secondary order, counterparty and price differential are null
abbrev pub execution_told : Partition → ℕ → ExecutionReport → List Content
execution_told p n e =
    figure (partition_code p)
    ∷ int32 (pos n)
    ∷ words (own_text p n)
    ∷ words (said e.client.bytes)
    ∷ words (order_text e.order)
    ∷ figure (exec_type_code (exec_type_of (Some (sent_as e.execution))))
    ∷ words (reference_text e.reference)
    ∷ figure (status_code e.status)
    ∷ execution_reject (Some (sent_as e.execution))
    ∷ price e.price.raw
    ∷ int32 e.quantity
    ∷ int32 e.leaves
    ∷ nothing
    ∷ int32 e.display
    ∷ words (said e.symbol.bytes)
    ∷ figure (side_code e.side)
    ∷ figure 0
    ∷ words []
    ∷ execution_liquidity (Some (sent_as e.execution))
    ∷ figure e.trade
    ∷ clock e.time.seconds e.time.microseconds
    ∷ figure (book_code e.book)
    ∷ execution_trade (Some (sent_as e.execution))
    ∷ figure (capacity_code e.capacity)
    ∷ figure (price_differential_code differential.Unspecified)
    ∷ nothing
    ∷ []

-- a Cancel Reject: it names no order
abbrev pub reject_told : Partition → ℕ → CancelReject → List Content
reject_told p n r =
    figure (partition_code p)
    ∷ int32 (pos n)
    ∷ words (said r.client.bytes)
    ∷ words []
    ∷ int32 (pos (refusal_number r.reason))
    ∷ clock r.time.seconds r.time.microseconds
    ∷ nothing
    ∷ []

-- a mass cancel that was accepted has no reason
abbrev pub response_of : MassAnswer → MassResponse
response_of Accepted = response.Accepted
response_of (Rejected r) = response.Rejected

abbrev pub reason_of : MassAnswer → ℕ
reason_of Accepted = 0
reason_of (Rejected r) = refusal_number r

abbrev pub mass_told : Partition → ℕ → MassCancelReport → List Content
mass_told p n r =
    figure (partition_code p)
    ∷ int32 (pos n)
    ∷ words (said r.client.bytes)
    ∷ figure (mass_response_code (response_of r.answer))
    ∷ int32 (pos (reason_of r.answer))
    ∷ nothing
    ∷ clock r.time.seconds r.time.microseconds
    ∷ nothing
    ∷ []

-- what the message of a report under its number says, and its kind
abbrev pub told_as : Partition → ℕ → Report → List Content
told_as p n (report.Execution e) = execution_told p n e
told_as p n (report.CancelReject r) = reject_told p n r
told_as p n (report.MassCancel r) = mass_told p n r

abbrev pub kind_told : Report → Kind
kind_told (report.Execution e) = kind.ExecutionReport
kind_told (report.CancelReject r) = kind.OrderCancelReject
kind_told (report.MassCancel r) = kind.OrderMassCancelReport

-- the bytes of that message
abbrev pub report_bytes : Partition → ℕ → Report → List ℕ
report_bytes p n r = message_bytes (kind_told r) (told_as p n r)
