-- Identifiers give back what they name, and a message the report that it was made of. Assumes nothing.
use Rattle.std.proofs.Common.{◌≡◌, ℕ, ℤ, ◌+◌, ◌*◌, ◌/◌, ◌%◌, ◌<◌, List, pos, Some, None, Option, refl, ap, ◌∙◌, arith}
use Rattle.std.specs.Option.{option_and_then, option_map}
use Rattle.std.proofs.lemmas.Bool.{cond-true, lt-ltb}
use Rattle.texts.specs.Bytes.{said}
use Rattle.texts.specs.Identifiers.{Returns, number_of, execution_of, order_id_text, execution_id_text, execution_number}
use Rattle.texts.specs.declared.identifiers.OrderId.{OrderId}
use Rattle.texts.specs.declared.identifiers.ExecutionId.{ExecutionId}
use Rattle.texts.specs.declared.identifiers.TheConstants.{SEQUENCES}
use Rattle.texts.specs.declared.text.Text.{Text}
use Rattle.texts.proofs.Digits.{said-id_of}
use Rattle.texts.proofs.Kept.{fixed_same}
use Rattle.texts.specs.Says.{says, kept}
use Rattle.reports.specs.declared.report.ExecutionReport.{ExecutionReport}
use Rattle.reports.specs.declared.report.CancelReject.{CancelReject}
use Rattle.reports.specs.declared.report.MassAnswer.{MassAnswer}
use Rattle.reports.specs.declared.report.MassAnswer.TheVariants.{Accepted, Rejected}
use Rattle.reports.specs.declared.report.MassCancelReport.{MassCancelReport}
use Rattle.report_messages.specs.Back.{answer_in, order_in, reference_in, sent_for}
use Rattle.report_messages.specs.Telling.{reason_of, response_of, sent_as}
use Rattle.codes.specs.declared.report.MassResponse.{MassResponse}
use Rattle.refusals.specs.Numbers.{refusal_number, refusal_of}
use Rattle.refusals.specs.declared.Refusal.{Refusal}
use Rattle.refusals.specs.declared.Refusal.TheVariants as refusal
use Rattle.terms.specs.declared.execution.Execution.{Execution}
use Rattle.terms.specs.declared.execution.Execution.TheVariants as execution

pub order_back : (i : OrderId) (bs : List ℕ) → bs ≡ order_id_text i.number → Returns 79 i.number → order_in (said bs)
    ≡ Some i
order_back i bs e back =
    ap (λ f. order_in (said f)) e ∙ ap order_in (said-id_of 79 i.number (omega arith) (omega arith)) ∙ ap
    (option_map (λ n. record { number = n })) back.0

number_parts : (p s : ℕ) → p < 256 → s < 4294967296 → execution_of (Some (execution_number p s))
    ≡ Some (record { partition = p; sequence = s })
number_parts p s a b =
    let d : (p * SEQUENCES + s) / SEQUENCES ≡ p = grind arith in
    let m : (p * SEQUENCES + s) % SEQUENCES ≡ s = grind arith in
    cond-true _ _ _ (lt-ltb ((p * SEQUENCES + s) / SEQUENCES) 256 (omega arith)) ∙ ap
    (λ n. Some (record { partition = n; sequence = (p * SEQUENCES + s) % SEQUENCES })) d ∙ ap
    (λ n. Some (record { partition = p; sequence = n })) m

pub reference_back : (i : ExecutionId) (bs : List ℕ) → bs ≡ execution_id_text i.partition i.sequence
    → Returns 69 (execution_number i.partition i.sequence) → i.partition < 256 → i.sequence < 4294967296
    → reference_in (said bs) ≡ Some i
reference_back i bs e back a b =
    ap (λ f. reference_in (said f)) e ∙ ap reference_in
    (said-id_of 69 (execution_number i.partition i.sequence) (omega arith) (omega arith))
    ∙ ap execution_of back.0 ∙ number_parts i.partition i.sequence a b

pub order_read : (t : List ℕ) (r : Option OrderId) → option_map (λ (i : OrderId). i.number) r ≡ number_of 79 t → r
    ≡ order_in t
order_read t None e = ap (option_map (λ n. record { number = n })) e
order_read t (Some i) e = ap (option_map (λ n. record { number = n })) e

-- why a report is sent is what its message says
refusal_back : (r : Refusal) → refusal_of (pos (refusal_number r)) ≡ Some r
refusal_back refusal.BookNotServed = refl
refusal_back refusal.BadTerms = refl
refusal_back refusal.OrdersFull = refl
refusal_back refusal.MatcherFull = refl
refusal_back refusal.NoSuchOrder = refl
refusal_back refusal.NotOpen = refl
refusal_back refusal.TimeInForceDiffers = refl

sent_back : (e : Execution Refusal) → sent_for (sent_as e) ≡ Some e
sent_back (execution.Rejected r) = ap (option_map execution.Rejected) (refusal_back r)
sent_back e = refl

answer_back : (a : MassAnswer) → answer_in (response_of a) (pos (reason_of a)) ≡ Some a
answer_back Accepted = refl
answer_back (Rejected r) = ap (option_map Rejected) (refusal_back r)

-- what a message tells is the report that it was made of
same_report : (e : ExecutionReport) (client : Text 20) (symbol : Text 6) (order reference : Text 12)
    (quantity leaves display : ℤ) → client.field.now ≡ e.client.bytes → symbol.field.now ≡ e.symbol.bytes
    → order_in (says order) ≡ e.order → reference_in (says reference) ≡ e.reference → quantity ≡ e.quantity → leaves
    ≡ e.leaves → display ≡ e.display → record
    e {
      client = kept client;
      order = order_in (says order);
      reference = reference_in
          (says reference);
      symbol = kept symbol;
      quantity = quantity;
      leaves = leaves;
      display = display;
    } ≡ e
same_report e client symbol order reference quantity leaves display c s o r q l d =
    ap (λ x. record e {
      client = x;
      order = order_in (says order);
      reference = reference_in
          (says reference);
      symbol = kept symbol;
      quantity = quantity;
      leaves = leaves;
      display = display;
    })
    (fixed_same (kept client) e.client c)
    ∙ ap (λ x. record e {
      order = order_in (says order);
      reference = reference_in
          (says reference);
      symbol = x;
      quantity = quantity;
      leaves = leaves;
      display = display;
    })
    (fixed_same (kept symbol) e.symbol s)
    ∙ ap (λ x. record e {
      order = x;
      reference = reference_in
          (says reference);
      quantity = quantity;
      leaves = leaves;
      display = display;
    }) o
    ∙ ap (λ x. record e { reference = x; quantity = quantity; leaves = leaves; display = display }) r
    ∙ ap (λ x. record e { quantity = x; leaves = leaves; display = display }) q
    ∙ ap (λ x. record e { leaves = x; display = display }) l
    ∙ ap (λ x. record e { display = x }) d

pub execution_back : (e : ExecutionReport) (client : Text 20) (symbol : Text 6) (order reference : Text 12)
    (quantity leaves display : ℤ) (sent : Execution ℤ) → client.field.now ≡ e.client.bytes → symbol.field.now
    ≡ e.symbol.bytes → order_in (says order) ≡ e.order → reference_in (says reference) ≡ e.reference → quantity
    ≡ e.quantity → leaves ≡ e.leaves → display ≡ e.display → sent ≡ sent_as e.execution
    → option_map (λ x. record e {
      client = kept client;
      order = order_in (says order);
      execution = x;
      reference = reference_in (says reference);
      symbol = kept symbol;
      quantity = quantity;
      leaves = leaves;
      display = display;
    }) (option_and_then sent_for (Some sent)) ≡ Some e
execution_back e client symbol order reference quantity leaves display sent c s o r q l d x =
    ap (λ y. option_map (λ x. record e {
      client = kept client;
      order = order_in (says order);
      execution = x;
      reference = reference_in (says reference);
      symbol = kept symbol;
      quantity = quantity;
      leaves = leaves;
      display = display;
    }) y) (ap sent_for x ∙ sent_back e.execution)
    ∙ ap Some (same_report e client symbol order reference quantity leaves display c s o r q l d)

pub reject_back : (r : CancelReject) (client : Text 20) (reason : ℤ) → client.field.now ≡ r.client.bytes → reason
    ≡ pos (refusal_number r.reason)
    → option_map (λ x. record r { client = kept client; reason = x }) (refusal_of reason) ≡ Some r
reject_back r client reason c n =
    ap (λ y. option_map (λ x. record r { client = kept client; reason = x }) y)
    (ap refusal_of n ∙ refusal_back r.reason)
    ∙ ap (λ x. Some (record r { client = x })) (fixed_same (kept client) r.client c)

pub mass_back : (r : MassCancelReport) (client : Text 20) (response : MassResponse) (reason : ℤ) → client.field.now
    ≡ r.client.bytes → response ≡ response_of r.answer → reason ≡ pos (reason_of r.answer)
    → option_map (λ x. record r { client = kept client; answer = x }) (answer_in response reason) ≡ Some r
mass_back r client response reason c a n =
    ap (λ y. option_map (λ x. record r { client = kept client; answer = x }) y)
    (ap (λ x. answer_in x reason) a ∙ ap (answer_in (response_of r.answer)) n ∙ answer_back r.answer)
    ∙ ap (λ x. Some (record r { client = x })) (fixed_same (kept client) r.client c)
