-- A message is what its fields hold: two that hold the same are the same, but for where their texts are.
-- Assumes nothing.
use Rattle.std.proofs.Common.{◌≡◌, ℕ, List, ap, refl, ◌∙◌}
use Rattle.codes.specs.contracts.order.AutoCancelCode.TheImpl.Laws.{sound-law as auto_cancel_law}
use Rattle.codes.specs.contracts.order.BookCode.TheImpl.Laws.{sound-law as book_law}
use Rattle.codes.specs.contracts.order.ClearingAccountCode.TheImpl.Laws.{sound-law as clearing_account_law}
use Rattle.codes.specs.contracts.order.OrderCapacityCode.TheImpl.Laws.{sound-law as order_capacity_law}
use Rattle.codes.specs.contracts.order.OrderSubTypeCode.TheImpl.Laws.{sound-law as order_sub_type_law}
use Rattle.codes.specs.contracts.order.PassiveOnlyCode.TheImpl.Laws.{sound-law as passive_only_law}
use Rattle.codes.specs.contracts.order.SideCode.TheImpl.Laws.{sound-law as side_law}
use Rattle.codes.specs.contracts.order.TimeInForceCode.TheImpl.Laws.{sound-law as time_in_force_law}
use Rattle.codes.specs.contracts.report.CapacityCode.TheImpl.Laws.{sound-law as capacity_law}
use Rattle.codes.specs.contracts.report.MassResponseCode.TheImpl.Laws.{sound-law as mass_response_law}
use Rattle.codes.specs.contracts.report.PriceDifferentialCode.TheImpl.Laws.{sound-law as price_differential_law}
use Rattle.codes.specs.contracts.report.StatusCode.TheImpl.Laws.{sound-law as status_law}
use Rattle.codes.specs.contracts.session.AckResponseCode.TheImpl.Laws.{sound-law as ack_response_law}
use Rattle.codes.specs.contracts.session.PartitionCode.TheImpl.Laws.{sound-law as partition_law}
use Rattle.codes.specs.contracts.session.ReportResponseCode.TheImpl.Laws.{sound-law as report_response_law}
use Rattle.codes.specs.contracts.session.VersionCode.TheImpl.Laws.{sound-law as version_law}
use Rattle.layout.specs.Layout.{Content, nth, figure_of, words_of}
use Rattle.wire.specs.declared.message.Message.{Message}
use Rattle.wire.specs.declared.message.Message.TheVariants as message
use Rattle.wire.specs.Messages.{kind_of, contents_of}
use Rattle.wire.specs.Plain.{plain}
use Rattle.wire.proofs.Terms.{figure_same, int32_same, text_same, name_same, order_same, last_same, price_same, time_same, pricing_same, target_same, execution_same, scope_same}

-- what the fields far down a list hold
words_at : (i : ℕ) {us vs : List Content} → us ≡ vs → words_of (nth i us) ≡ words_of (nth i vs)
words_at i e = ap (λ ws. words_of (nth i ws)) e

figure_at : (i : ℕ) {us vs : List Content} → us ≡ vs → figure_of (nth i us) ≡ figure_of (nth i vs)
figure_at i e = ap (λ ws. figure_of (nth i ws)) e

pub same : (m n : Message) → kind_of m ≡ kind_of n → contents_of m ≡ contents_of n → plain m ≡ plain n
same (message.Logon x) (message.Logon y) k e =
    cc (
      text_same x.comp_id y.comp_id (cc),
      text_same x.password y.password (cc),
      text_same x.new_password y.new_password (cc),
      version_law.one x.version y.version (cc),
    )
same (message.LogonReply x) (message.LogonReply y) k e = cc (text_same x.expiry_days y.expiry_days (cc))
same (message.Logout x) (message.Logout y) k e = cc (text_same x.reason y.reason (cc))
same (message.Heartbeat x) (message.Heartbeat y) k e = refl
same (message.MissedMessageRequest x) (message.MissedMessageRequest y) k e =
    let p : x.partition ≡ y.partition = cc in
    ap (λ z. message.MissedMessageRequest (record { partition = z; last = x.last })) p
    ∙ ap (λ l. message.MissedMessageRequest (record { partition = y.partition; last = l })) (last_same x.last y.last (cc))
same (message.MissedMessageRequestAck x) (message.MissedMessageRequestAck y) k e =
    ap (λ r. message.MissedMessageRequestAck (record { response = r })) (ack_response_law.one x.response y.response (cc))
same (message.MissedMessageReport x) (message.MissedMessageReport y) k e =
    ap (λ r. message.MissedMessageReport (record { response = r })) (report_response_law.one x.response y.response (cc))
same (message.Reject x) (message.Reject y) k e =
    cc (text_same x.reason y.reason (cc), text_same x.client_order_id y.client_order_id (cc))
same (message.NewOrder x) (message.NewOrder y) k e =
    cc (
      name_same x.client_order_id y.client_order_id (cc),
      text_same x.trader_id y.trader_id (cc),
      text_same x.account y.account (cc),
      clearing_account_law.one x.clearing_account y.clearing_account (cc),
      text_same x.symbol y.symbol (cc),
      pricing_same x.pricing y.pricing (cc) (cc),
      time_in_force_law.one x.time_in_force y.time_in_force (cc),
      side_law.one x.side y.side (cc),
      order_capacity_law.one x.capacity y.capacity (cc),
      auto_cancel_law.one x.auto_cancel y.auto_cancel (cc),
      order_sub_type_law.one x.sub_type y.sub_type (cc),
      target_same x.target y.target (cc) (cc),
      passive_only_law.one x.passive_only y.passive_only (cc),
      figure_same x.expire_time y.expire_time (cc),
      int32_same x.quantity y.quantity (cc),
      int32_same x.display_quantity y.display_quantity (cc),
      int32_same x.min_quantity y.min_quantity (cc),
    )
same (message.OrderCancelRequest x) (message.OrderCancelRequest y) k e =
    cc (
      name_same x.client_order_id y.client_order_id (cc),
      text_same x.original_id y.original_id (cc),
      order_same x.order_id y.order_id (cc),
      text_same x.symbol y.symbol (cc),
      side_law.one x.side y.side (cc),
      book_law.one x.book y.book (cc),
    )
same (message.OrderCancelReplaceRequest x) (message.OrderCancelReplaceRequest y) k e =
    cc (
      name_same x.client_order_id y.client_order_id (cc),
      text_same x.original_id y.original_id (cc),
      order_same x.order_id y.order_id (cc),
      text_same x.symbol y.symbol (cc),
      price_same x.limit_price y.limit_price (cc),
      text_same x.account y.account (cc),
      time_in_force_law.one x.time_in_force y.time_in_force (cc),
      side_law.one x.side y.side (cc),
      target_same x.target y.target (cc) (cc),
      passive_only_law.one x.passive_only y.passive_only (cc),
      figure_same x.expire_time y.expire_time (cc),
      int32_same x.quantity y.quantity (cc),
      int32_same x.display_quantity y.display_quantity (cc),
      int32_same x.min_quantity y.min_quantity (cc),
    )
same (message.OrderMassCancelRequest x) (message.OrderMassCancelRequest y) k e =
    cc (name_same x.client_order_id y.client_order_id (cc), scope_same x.scope y.scope (cc) (cc) (cc) (cc))
same (message.ExecutionReport x) (message.ExecutionReport y) k e =
    cc (
      partition_law.one x.partition y.partition (cc),
      text_same x.execution_id y.execution_id (cc),
      text_same x.client_order_id y.client_order_id (cc),
      text_same x.order_id y.order_id (cc),
      execution_same x.execution y.execution (cc) (cc) (ap (nth 18) e) (ap (nth 22) e),
      text_same x.reference_id y.reference_id (cc),
      status_law.one x.status y.status (cc),
      price_same x.executed_price y.executed_price (cc),
      text_same x.symbol y.symbol (cc),
      side_law.one x.side y.side (cc),
      text_same x.counterparty y.counterparty (words_at 17 e),
      time_same x.transact_time y.transact_time (ap (nth 20) e),
      book_law.one x.book y.book (figure_at 21 e),
      capacity_law.one x.capacity y.capacity (figure_at 23 e),
      price_differential_law.one x.price_differential y.price_differential (figure_at 24 e),
      int32_same x.sequence y.sequence (cc),
      int32_same x.executed_quantity y.executed_quantity (cc),
      int32_same x.leaves_quantity y.leaves_quantity (cc),
      int32_same x.display_quantity y.display_quantity (cc),
      figure_same x.secondary_order_id y.secondary_order_id (ap (nth 16) e),
      figure_same x.trade_match_id y.trade_match_id (ap (nth 19) e),
    )
same (message.OrderCancelReject x) (message.OrderCancelReject y) k e =
    cc (
      partition_law.one x.partition y.partition (cc),
      text_same x.client_order_id y.client_order_id (cc),
      text_same x.order_id y.order_id (cc),
      time_same x.transact_time y.transact_time (cc),
      int32_same x.sequence y.sequence (cc),
      int32_same x.reason y.reason (cc),
    )
same (message.OrderMassCancelReport x) (message.OrderMassCancelReport y) k e =
    cc (
      partition_law.one x.partition y.partition (cc),
      text_same x.client_order_id y.client_order_id (cc),
      mass_response_law.one x.response y.response (cc),
      time_same x.transact_time y.transact_time (cc),
      int32_same x.sequence y.sequence (cc),
      int32_same x.reason y.reason (cc),
    )
same m n k e = cc
