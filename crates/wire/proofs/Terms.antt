-- Parts of a message whose fields hang together: two that hold the same in those fields are the same.
-- Assumes nothing.
use Rattle.std.proofs.Common.{◌≡◌, ℕ, ℤ, ◌<◌, true, Some, None, Option, sym, refl, ap, ◌∙◌, subst, arith}
use Rattle.std.specs.Option.{option_map}
use Rattle.std.proofs.Math.Bool.{Bool-set}
use Rattle.std.proofs.Math.Bridge.{le_prop}
use Rattle.codes.specs.contracts.order.BookCode.TheImpl.Laws.{sound-law as book_law}
use Rattle.codes.specs.contracts.order.ExecInstructionCode.TheImpl.Laws.{sound-law as exec_instruction_law}
use Rattle.codes.specs.contracts.report.LiquidityCode.TheImpl.Laws.{sound-law as liquidity_law}
use Rattle.codes.specs.contracts.report.TradeTypeCode.TheImpl.Laws.{sound-law as trade_type_law}
use Rattle.codes.specs.Order.{book_code, order_type_code, mass_cancel_type_code}
use Rattle.codes.specs.Report.{exec_type_code}
use Rattle.texts.specs.Bytes.{padded, named}
use Rattle.texts.specs.Says.{kept, lent, says}
use Rattle.texts.specs.declared.identifiers.OrderId.{OrderId}
use Rattle.texts.specs.declared.text.Name.{Name}
use Rattle.texts.specs.declared.text.Text.{Text}
use Rattle.texts.specs.declared.values.Price.{Price}
use Rattle.texts.specs.declared.values.Time.{Time}
use Rattle.texts.proofs.Kept.{fixed_same}
use Rattle.texts.proofs.Padding.{padded-said}
use Rattle.layout.specs.declared.sequence.LastSequence.{LastSequence}
use Rattle.layout.specs.declared.sequence.TheConstants.{SEQUENCE_LIMIT}
use Rattle.layout.specs.Layout.{price_of, seconds_of, micros_of}
use Rattle.layout.specs.Layout.Content.{order, figure, int32, price, clock}
use Rattle.terms.specs.Pricing.{order_type_of}
use Rattle.terms.specs.Target.{book_of}
use Rattle.terms.specs.declared.execution.Execution.TheVariants as execution
use Rattle.terms.specs.declared.pricing.Pricing.{Pricing}
use Rattle.terms.specs.declared.pricing.Pricing.TheVariants as pricing
use Rattle.terms.specs.declared.target.Target.{Target}
use Rattle.terms.specs.declared.target.Target.TheVariants as target
use Rattle.order_messages.specs.declared.order_mass_cancel_request.Scope.{Scope}
use Rattle.order_messages.specs.declared.order_mass_cancel_request.Scope.TheVariants as scope
use Rattle.order_messages.specs.Terms.{Sent, exec_type_of, pricing_price, target_instruction, execution_reject, execution_liquidity, execution_trade, scope_kind, scope_symbol, scope_book, scope_segment}
use Rattle.wire.specs.Plain.{plain_text, plain_name, plain_scope}

-- numbers that fields hold
pub figure_same : (a b : ℕ) → figure a ≡ figure b → a ≡ b
figure_same a b e = cc

pub int32_same : (a b : ℤ) → int32 a ≡ int32 b → a ≡ b
int32_same a b e = cc

-- texts that say the same
field_of : {N : ℕ} (t : Text N) → padded N (says t) ≡ t.field.now
field_of t = ap (λ n. padded n (says t)) (sym t.wide) ∙ padded-said t.field.now t.text

pub text_same : {N : ℕ} (x y : Text N) → says x ≡ says y → plain_text x ≡ plain_text y
text_same {N} x y e = ap lent (fixed_same (kept x) (kept y) (sym (field_of x) ∙ ap (padded N) e ∙ field_of y))

pub name_same : {N : ℕ} (x y : Name N) → says x.text ≡ says y.text → plain_name x ≡ plain_name y
name_same {N} x y e =
    let p = text_same x.text y.text e in
    let P : Text N → Type 0 = λ t. (g : named t.field.now ≡ true) → plain_name x ≡ record { text = t; given = g } in
    subst P p (λ g. ap (λ h. record { text = plain_text x.text; given = h })
    (Bool-set (named x.text.field.now) true x.given g)) y.given

pub order_same : (x y : Option OrderId) → order (option_map (λ i. i.number) x) ≡ order (option_map (λ i. i.number) y)
    → x ≡ y
order_same None None e = refl
order_same None (Some y) e = cc
order_same (Some x) None e = cc
order_same (Some x) (Some y) e = let f : x.number ≡ y.number = cc in ap (λ n. Some (record { number = n })) f

pub last_same : (x y : LastSequence) → x.value ≡ y.value → x ≡ y
last_same x y e =
    let P : ℕ → Type 0 = λ n. (f : n < SEQUENCE_LIMIT) → x ≡ record { value = n; fits = f } in
    subst P e (λ f. ap (λ g. record { value = x.value; fits = g }) (le_prop x.fits f)) y.fits

pub price_same : (x y : Price) → price x.raw ≡ price y.raw → x ≡ y
price_same x y e = ap (λ v. record { raw = price_of v }) e

pub time_same : (x y : Time) → clock x.seconds x.microseconds ≡ clock y.seconds y.microseconds → x ≡ y
time_same x y e = ap (λ v. record { seconds = seconds_of v; microseconds = micros_of v }) e

pub pricing_same : (x y : Pricing) → order_type_code (order_type_of x) ≡ order_type_code (order_type_of y)
    → pricing_price x ≡ pricing_price y → x ≡ y
pricing_same (pricing.Limit a) (pricing.Limit b) c p =
    let e : a.raw ≡ b.raw = cc in ap (λ r. pricing.Limit (record { raw = r })) e
pricing_same x y c p = first_of (cc, grind arith)

pub target_same : (x y : Target) → book_code (book_of x) ≡ book_code (book_of y) → target_instruction x
    ≡ target_instruction y → x ≡ y
target_same (target.DarkMidpoint i) (target.DarkMidpoint j) c e =
    ap target.DarkMidpoint (exec_instruction_law.one i j (cc))
target_same x y c e = first_of (cc, grind arith)

pub execution_same : (x y : Sent) → exec_type_code (exec_type_of x) ≡ exec_type_code (exec_type_of y)
    → execution_reject x ≡ execution_reject y
    → execution_liquidity x ≡ execution_liquidity y → execution_trade x ≡ execution_trade y → x ≡ y
execution_same (Some (execution.Trade a s)) (Some (execution.Trade b u)) c r l t =
    let p = liquidity_law.one a b (cc) in let q = trade_type_law.one s u (cc) in cc
execution_same (Some (execution.TradeCancel a)) (Some (execution.TradeCancel b)) c r l t =
    ap (λ q. Some (execution.TradeCancel q)) (liquidity_law.one a b (cc))
execution_same x y c r l t = first_of (cc, grind arith)

pub scope_same : (x y : Scope) → mass_cancel_type_code (scope_kind x) ≡ mass_cancel_type_code (scope_kind y)
    → scope_symbol x ≡ scope_symbol y
    → scope_segment x ≡ scope_segment y → scope_book x ≡ scope_book y → plain_scope x ≡ plain_scope y
scope_same (scope.FirmInstrument s a) (scope.FirmInstrument u b) c e g f =
    let p = text_same s u (cc) in let q = book_law.one a b (cc) in cc
scope_same (scope.FirmSegment s) (scope.FirmSegment u) c e g f = ap scope.FirmSegment (text_same s u (cc))
scope_same (scope.CompIdInstrument s a) (scope.CompIdInstrument u b) c e g f =
    let p = text_same s u (cc) in let q = book_law.one a b (cc) in cc
scope_same (scope.CompIdSegment s) (scope.CompIdSegment u) c e g f = ap scope.CompIdSegment (text_same s u (cc))
scope_same x y c e g f = first_of (cc, grind arith)
