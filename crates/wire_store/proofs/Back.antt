-- What is told from a message's contents is what the message tells. Assumes nothing.
use Rattle.std.proofs.Common.{◌≡◌, ℕ, cond, List, [], length, replicate, Some, None, Ok, Option, refl, sym, ap, ◌∙◌, subst, arith, le-leb}
use Rattle.std.specs.Option.{unwrap_or, is_some, option_and_then, option_map}
use Rattle.std.proofs.Math.Path.{fun_ext}
use Rattle.std.proofs.lemmas.Bool.{and_from, cond-true}
use Rattle.std.proofs.lemmas.List.{length-take-le}
use Rattle.std.proofs.lemmas.List.Sums.{prefix_len-le-length}
use Rattle.std.specs.List.{prefix_len}
use Rattle.codes.specs.Order.{sides, side_code, books, book_code}
use Rattle.codes.specs.Report.{exec_type_code, statuses, status_code, liquidities, liquidity_code, trade_types, trade_type_code, capacities, capacity_code, mass_responses, mass_response_code}
use Rattle.codes.specs.contracts.order.BookCode.TheImpl.Laws as book_law
use Rattle.codes.specs.contracts.order.SideCode.TheImpl.Laws as side_law
use Rattle.codes.specs.contracts.report.CapacityCode.TheImpl.Laws as capacity_law
use Rattle.codes.specs.contracts.report.LiquidityCode.TheImpl.Laws as liquidity_law
use Rattle.codes.specs.contracts.report.MassResponseCode.TheImpl.Laws as mass_response_law
use Rattle.codes.specs.contracts.report.StatusCode.TheImpl.Laws as status_law
use Rattle.codes.specs.contracts.report.TradeTypeCode.TheImpl.Laws as trade_type_law
use Rattle.codes.specs.declared.order.Book.{Book}
use Rattle.codes.specs.declared.order.Book.TheVariants as book
use Rattle.codes.specs.declared.order.Side.{Side}
use Rattle.codes.specs.declared.order.Side.TheVariants as side
use Rattle.codes.specs.declared.report.Status.{Status}
use Rattle.codes.specs.declared.report.Status.TheVariants as status
use Rattle.codes.specs.declared.report.Liquidity.{Liquidity}
use Rattle.codes.specs.declared.report.Liquidity.TheVariants as liquidity
use Rattle.codes.specs.declared.report.TradeType.{TradeType}
use Rattle.codes.specs.declared.report.TradeType.TheVariants as trade_type
use Rattle.codes.specs.declared.report.Capacity.{Capacity}
use Rattle.codes.specs.declared.report.Capacity.TheVariants as capacity
use Rattle.codes.specs.declared.report.MassResponse.{MassResponse}
use Rattle.codes.specs.declared.report.MassResponse.TheVariants as mass_response
use Rattle.codes.specs.declared.session.Partition.{Partition}
use Rattle.terms.specs.declared.execution.Execution.TheVariants as execution
use Rattle.texts.specs.Bytes.{printable, padded}
use Rattle.texts.specs.Texts.{fitting}
use Rattle.texts.specs.Says.{says, kept}
use Rattle.texts.specs.declared.fixed.FixedText.{FixedText}
use Rattle.texts.specs.declared.text.Text.{Text}
use Rattle.texts.proofs.Kept.{fixed_same}
use Rattle.texts.proofs.Padding.{padded-said, said_printable}
use Rattle.layout.specs.declared.fault.Fault.{Fault}
use Rattle.layout.specs.declared.fault.Fault.TheVariants as fault
use Rattle.layout.specs.Layout.{Says, value_of}
use Rattle.layout.specs.Writing.{header, encode}
use Rattle.layout.proofs.Values.{all_got, value_back}
use Rattle.layout.specs.Layout.Content.{figure}
use Rattle.order_messages.specs.Terms.{Sent, exec_type_of, execution_reject, execution_liquidity, execution_trade}
use Rattle.order_messages.specs.declared.execution_report.ExecutionReport.{ExecutionReport as ExecutionMessage}
use Rattle.refusals.specs.Numbers.{refusal_of}
use Rattle.refusals.specs.declared.Refusal.TheVariants.{NoSuchOrder}
use Rattle.wire.specs.declared.kinds.Channel.TheVariants.{Follower}
use Rattle.wire.specs.declared.message.Message.{Message}
use Rattle.wire.specs.declared.message.Message.TheVariants as message
use Rattle.wire.specs.Kinds.{letter_of, total_of, table_of, takes}
use Rattle.wire.specs.Messages.{kind_of, contents_of, opening, after_opening, verdict, written, Holdable, Reads, message_bytes}
use Rattle.wire.proofs.Opening.{opened}
use Rattle.wire.proofs.Sound.{sound}
use Rattle.wire.proofs.Trips.{trip}
use Rattle.reports.specs.declared.report.Report.{Report}
use Rattle.reports.specs.declared.report.Report.TheVariants as report
use Rattle.report_messages.specs.Back.{answer_in, execution_with, report_in, sent_for}
use Rattle.report_messages.specs.Telling.{told_as, kind_told, report_bytes}
use Rattle.report_messages.specs.Told.{ReportTold}
use Rattle.report_messages.proofs.Takes.{follower_takes}
use Rattle.wire_store.specs.Fitted.{fit, fitted}
use Rattle.wire_store.specs.Told.{decoded, executed_from, execution_from, nothing_told, told_from, told_in}

blank_same : (x : FixedText 20) → x.bytes ≡ padded 20 [] → x ≡ fitted 20 []
blank_same x e = fixed_same x (fitted 20 []) e

pub blank_told : (x : FixedText 20) → x.bytes ≡ replicate 20 0
    → report.CancelReject (record { client = x; reason = NoSuchOrder; time = record { seconds = 0; microseconds = 0 } })
    ≡ nothing_told
blank_told x e =
    ap (λ t. report.CancelReject (record {
      client = t;
      reason = NoSuchOrder;
      time = record { seconds = 0; microseconds = 0 };
    })) (blank_same x e)

-- a text by what it says
says_fits : {N : ℕ} (t : Text N) → fit N (says t) ≡ says t
says_fits {N} t =
    let f = t.field.now in
    let n = prefix_len printable f in
    let le = prefix_len-le-length printable f in
    let l = length-take-le n f le in
    let w = t.wide in
    cond-true (fitting N (says t)) (says t) []
    (and_from _ _ (le-leb (length (says t)) N (omega arith)) (said_printable f))

text_back : {N : ℕ} (t : Text N) → fitted N (says t) ≡ kept t
text_back {N} t =
    let same : padded N (fit N (says t)) ≡ t.field.now = ap (padded N) (says_fits t) ∙ ap (λ n. padded n (says t))
    (sym t.wide) ∙ padded-said t.field.now t.text in
    fixed_same (fitted N (says t)) (kept t) same

-- a value by its byte
side_back : (x : Side) → value_of side_code sides side.Buy (figure (side_code x)) ≡ x
side_back x = value_back sides side.Buy x side_law.sound-law refl

book_back : (x : Book) → value_of book_code books book.Integrated (figure (book_code x)) ≡ x
book_back x = value_back books book.Integrated x book_law.sound-law refl

status_back : (x : Status) → value_of status_code statuses status.New (figure (status_code x)) ≡ x
status_back x = value_back statuses status.New x status_law.sound-law refl

liquidity_back : (x : Liquidity) → value_of liquidity_code liquidities liquidity.Unspecified
    (figure (liquidity_code x)) ≡ x
liquidity_back x =
    value_back liquidities liquidity.Unspecified x liquidity_law.sound-law refl

trade_type_back : (x : TradeType) → value_of trade_type_code trade_types trade_type.Visible
    (figure (trade_type_code x)) ≡ x
trade_type_back x =
    value_back trade_types trade_type.Visible x trade_type_law.sound-law refl

capacity_back : (x : Capacity) → value_of capacity_code capacities capacity.Principal (figure (capacity_code x)) ≡ x
capacity_back x =
    value_back capacities capacity.Principal x capacity_law.sound-law refl

mass_response_back : (x : MassResponse) → value_of mass_response_code mass_responses mass_response.Rejected
    (figure (mass_response_code x)) ≡ x
mass_response_back x =
    value_back mass_responses mass_response.Rejected x mass_response_law.sound-law refl

execution_back : (e : Sent) → execution_from (figure (exec_type_code (exec_type_of e))) (execution_reject e)
    (execution_liquidity e) (execution_trade e) ≡ option_and_then sent_for e
execution_back (Some (execution.Trade l t)) =
    ap (λ x. Some (execution.Trade x
    (value_of trade_type_code trade_types trade_type.Visible (figure (trade_type_code t)))))
    (liquidity_back l) ∙ ap (λ x. Some (execution.Trade l x)) (trade_type_back t)
execution_back (Some (execution.TradeCancel l)) = ap (λ x. Some (execution.TradeCancel x)) (liquidity_back l)
execution_back e = refl

-- the same report in two steps, or none
mapped : {A B C : Type 0} (f : A → B) (g : B → C) (o : Option A) → option_map (λ x. g (f x)) o
    ≡ option_map g (option_map f o)
mapped f g None = refl
mapped f g (Some x) = refl

executed_same : (m : ExecutionMessage) → executed_from (contents_of (message.ExecutionReport m))
    ≡ (λ x. report.Execution (execution_with m x))
executed_same m =
    let a = text_back m.client_order_id in
    let c = status_back m.status in
    let d = text_back m.symbol in
    let e = side_back m.side in
    let f = book_back m.book in
    let g = capacity_back m.capacity in
    fun_ext (λ x. cc)

-- a message's report, by its contents
contents_tell : (m : Message) → told_from (kind_of m) (contents_of m) ≡ report_in m
contents_tell (message.ExecutionReport m) =
    ap (λ f. option_map f (execution_from (figure (exec_type_code (exec_type_of m.execution)))
    (execution_reject m.execution) (execution_liquidity m.execution) (execution_trade m.execution))) (executed_same m)
    ∙ ap (option_map (λ x. report.Execution (execution_with m x))) (execution_back m.execution)
    ∙ mapped (execution_with m) report.Execution (option_and_then sent_for m.execution)
contents_tell (message.OrderCancelReject m) =
    ap (λ t. option_map (λ r. report.CancelReject (record { client = t; reason = r; time = m.transact_time }))
    (refusal_of m.reason)) (text_back m.client_order_id)
    ∙ mapped (λ r. record { client = kept m.client_order_id; reason = r; time = m.transact_time }) report.CancelReject
    (refusal_of m.reason)
contents_tell (message.OrderMassCancelReport m) =
    ap (λ t. option_map (λ a. report.MassCancel (record { client = t; answer = a; time = m.transact_time }))
    (answer_in (value_of mass_response_code mass_responses mass_response.Rejected
    (figure (mass_response_code m.response))) m.reason)) (text_back m.client_order_id)
    ∙ ap (λ r. option_map (λ a. report.MassCancel (record {
      client = kept m.client_order_id;
      answer = a;
      time = m.transact_time;
    })) (answer_in r m.reason)) (mass_response_back m.response)
    ∙ mapped (λ a. record { client = kept m.client_order_id; answer = a; time = m.transact_time }) report.MassCancel
    (answer_in m.response m.reason)
contents_tell m = refl

told_by : (bs : List ℕ) (m : Message) → verdict Follower bs ≡ None → opening Follower bs ≡ Ok (kind_of m)
    → Says (contents_of m) (table_of (kind_of m)) bs → decoded bs ≡ unwrap_or (report_in m) nothing_told
told_by bs m v o s =
    ap (λ x. cond (is_some x) nothing_told (unwrap_or (told_in (opening Follower bs) bs) nothing_told)) v
    ∙ ap (λ o. unwrap_or o nothing_told) (ap (λ r. told_in r bs) o ∙ ap
    (told_from (kind_of m)) (all_got (table_of (kind_of m)) (contents_of m) bs s) ∙ contents_tell m)

-- what was read
pub read_report : (bs : List ℕ) (m : Message) (r d : Report) (o : Option Report) → Reads Follower bs m → r
    ≡ unwrap_or o d → o ≡ report_in m → d ≡ nothing_told → r ≡ decoded bs
read_report bs m r d o h e a b =
    e ∙ ap (λ x. unwrap_or x d) a ∙ ap (unwrap_or (report_in m)) b ∙ sym (told_by bs m h.passes h.opens h.says)

pub refused : (bs : List ℕ) (e : Fault) (r : Report) → verdict Follower bs ≡ Some e → r ≡ nothing_told → r ≡ decoded bs
refused bs e r v h =
    h ∙ sym (ap (λ x. cond (is_some x) nothing_told (unwrap_or (told_in (opening Follower bs) bs) nothing_told)) v)

-- what was written
report_is : (p : Partition) (n : ℕ) (r : Report) (m : Message) → kind_of m ≡ kind_told r → contents_of m
    ≡ told_as p n r → written m ≡ report_bytes p n r
report_is p n r m k c = ap (λ j. message_bytes j (contents_of m)) k ∙ ap (message_bytes (kind_told r)) c

module _ (p : Partition) (n : ℕ) (r : Report) (m : Message) (k : kind_of m ≡ kind_told r)
    (c : contents_of m ≡ told_as p n r) (h : Holdable m) where
  taken_by : takes Follower (letter_of (kind_of m)) ≡ Some (kind_of m)
  taken_by = subst (λ j. takes Follower (letter_of j) ≡ Some j) (sym k) (follower_takes r)

  read_again : (opening Follower (written m) ≡ Ok (kind_of m)) × (verdict Follower (written m) ≡ None)
      × Says (contents_of m) (table_of (kind_of m)) (written m) × (length (written m) ≡ total_of (kind_of m))
  read_again =
      let j = kind_of m in
      let q = header (letter_of j) (total_of j) in
      let t = trip (table_of j) (contents_of m) q (total_of j) refl (sound j).tiles (sound j).looks h in
      let o = opened Follower j (encode (table_of j) (contents_of m)) t.2 taken_by in
      let l = t.2 in
      (o, ap (after_opening (written m)) o ∙ ap (λ x. option_map (λ at. fault.Field at) x) t.0, t.1, omega arith)

  given_back : report_in m ≡ Some r → decoded (report_bytes p n r) ≡ r
  given_back e =
      let a = read_again in
      ap decoded (sym (report_is p n r m k c)) ∙ told_by (written m) m a.1 a.0 a.2
      ∙ ap (λ o. unwrap_or o nothing_told) e

pub told_back : (p : Partition) (n : ℕ) (r : Report) → ReportTold p n r → decoded (report_bytes p n r) ≡ r
told_back p n r t = given_back p n r t.message t.holds.kind t.holds.contents t.held t.holds.report
