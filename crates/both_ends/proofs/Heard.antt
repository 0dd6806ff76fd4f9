-- What a follower hears of what a gateway hands out. Assumes nothing.
use Rattle.std.proofs.Common.{◌≡◌, ◌⊎◌, inl, inr, ℕ, List, [], ◌++◌, map, pos, Some, None, Ok, Err, Option, Result, refl, ap, ◌∙◌, subst, arith}
use Rattle.answers.specs.Bytes.{answer_bytes, end_bytes}
use Rattle.report_messages.specs.Telling.{report_bytes}
use Rattle.report_messages.specs.Told.{ReportTold}
use Rattle.answers.specs.declared.answer.Admission.{Admission}
use Rattle.answers.specs.declared.answer.Answer.TheVariants as answer
use Rattle.answers.specs.declared.answer.Rejection.{Rejection}
use Rattle.codes.specs.contracts.session.AckResponseCode.TheImpl.Laws.{sound-law as ack_law}
use Rattle.codes.specs.contracts.session.ReportResponseCode.TheImpl.Laws.{sound-law as ending_law}
use Rattle.codes.specs.declared.session.AckResponse.{AckResponse}
use Rattle.codes.specs.declared.session.Partition.{Partition}
use Rattle.codes.specs.declared.session.ReportResponse.{ReportResponse}
use Rattle.follower.proofs.Written.{written_heard, reports_heard}
use Rattle.follower.specs.Hearing.{heard_in, heard_from, heard_unless, heard_opened}
use Rattle.follower.specs.declared.heard.Heard.{Heard}
use Rattle.follower.specs.declared.heard.Heard.TheVariants as heard
use Rattle.layout.specs.Holding.{HoldsIn}
use Rattle.layout.specs.Layout.{Content, got, fault_of, taken}
use Rattle.layout.specs.Writing.{header}
use Rattle.layout.specs.declared.fault.Fault.{Fault}
use Rattle.layout.specs.declared.fault.Fault.TheVariants.{Short}
use Rattle.reports.specs.Told.{told_of}
use Rattle.reports.specs.declared.report.Report.{Report}
use Rattle.texts.specs.Bytes.{le, part}
use Rattle.wire.proofs.Headers.{opened_by}
use Rattle.wire.proofs.Sound.{kinds_same}
use Rattle.wire.specs.Kinds.{letter_of, total_of, table_of}
use Rattle.wire.specs.Messages.{Holdable, opening}
use Rattle.wire.specs.declared.kinds.Channel.TheVariants.{Follower}
use Rattle.wire.specs.declared.kinds.Kind.{Kind}
use Rattle.wire.specs.declared.kinds.Kind.TheVariants as kind
use Rattle.wire.specs.declared.message.Message.TheVariants as message

-- in a report's bytes that report is heard, under its partition and number
pub report_heard : (p : Partition) (n : ℕ) (r : Report) → ReportTold p n r → heard_in (report_bytes p n r)
    ≡ Ok (heard.Report p (record { sequence = pos n; told = told_of r }))
report_heard p n r t =
    let h = t.holds in
    subst (λ bs. heard_in bs ≡ Ok (heard.Report p (record { sequence = pos n; told = told_of r }))) t.form
    (reports_heard p n r t.message (record { kind = h.kind; contents = h.contents; back = h.report }) t.held)

-- ---- the end of a download, and the answer to a request for one

end_held : (r : ReportResponse) → Holdable (message.MissedMessageReport (record { response = r }))
unfolding taken HoldsIn
end_held r = (ending_law.every r, tt)

pub end_heard : (r : ReportResponse) → heard_in (end_bytes r) ≡ Ok (heard.End r)
end_heard r = written_heard (message.MissedMessageReport (record { response = r })) refl (end_held r)

ack_held : (r : AckResponse) → Holdable (message.MissedMessageRequestAck (record { response = r }))
unfolding taken HoldsIn
ack_held r = (ack_law.every r, tt)

pub ack_heard : (r : AckResponse) → heard_in (answer_bytes (answer.Ack r)) ≡ Ok (heard.Ack r)
ack_heard r = written_heard (message.MissedMessageRequestAck (record { response = r })) refl (ack_held r)

-- ---- a message in which one thing is heard, whatever its fields hold: that is heard, or the message is refused

unless : (k : Kind) (bs : List ℕ) (h : Heard) (o : Option Fault) → ((vs : List Content) → heard_from k vs ≡ h)
    → (heard_unless o k bs ≡ Ok h) ⊎ ((e : Fault) × (heard_unless o k bs ≡ Err e))
unless k bs h None f = inl (ap Ok (f (map (got bs) (table_of k))))
unless k bs h (Some e) f = inr (e, refl)

opened_as : (k : Kind) (bs : List ℕ) (h : Heard) (r : Result Kind Fault) → ((j : Kind) → r ≡ Ok j → j ≡ k)
    → ((vs : List Content) → heard_from k vs ≡ h)
    → (heard_opened r bs ≡ Ok h) ⊎ ((e : Fault) × (heard_opened r bs ≡ Err e))
opened_as k bs h (Err e) same f = inr (e, refl)
opened_as k bs h (Ok j) same f = unless j bs h (fault_of (table_of j) bs)
    (λ vs. ap (λ i. heard_from i vs) (same j refl) ∙ f vs)

-- whatever stands behind a header, it opens as no other kind than the header's
kind_stated : (k j : Kind) (xs : List ℕ) → opening Follower (header (letter_of k) (total_of k) ++ xs) ≡ Ok j → j ≡ k
kind_stated k j xs e =
    let bs = header (letter_of k) (total_of k) ++ xs in
    let o : letter_of j ≡ le (part 3 1 bs) = (opened_by Follower j bs e).3 in
    kinds_same j k (omega (arith, o))

one_heard : (k : Kind) (xs : List ℕ) (h : Heard) → ((vs : List Content) → heard_from k vs ≡ h)
    → (heard_in (header (letter_of k) (total_of k) ++ xs) ≡ Ok h)
    ⊎ ((e : Fault) × (heard_in (header (letter_of k) (total_of k) ++ xs) ≡ Err e))
unfolding heard_in
one_heard k xs h f =
    let bs = header (letter_of k) (total_of k) ++ xs in
    opened_as k bs h (opening Follower bs) (λ j e. kind_stated k j xs e) f

pub reject_heard : (r : Rejection) → (heard_in (answer_bytes (answer.Reject r)) ≡ Ok heard.Reject)
    ⊎ ((e : Fault) × (heard_in (answer_bytes (answer.Reject r)) ≡ Err e))
reject_heard r = one_heard kind.Reject _ heard.Reject (λ vs. refl)

pub logon_heard : (z : Admission) → (heard_in (answer_bytes (answer.LogonReply z)) ≡ Ok heard.Nothing)
    ⊎ ((e : Fault) × (heard_in (answer_bytes (answer.LogonReply z)) ≡ Err e))
logon_heard z = one_heard kind.LogonReply _ heard.Nothing (λ vs. refl)

-- ---- no bytes

pub nothing_heard : (e : Fault) × (heard_in [] ≡ Err e)
unfolding heard_in opening
nothing_heard = (Short, refl)
