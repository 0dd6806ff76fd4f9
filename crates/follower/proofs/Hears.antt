-- What is heard in a message is what its contents, and so its bytes, say. Assumes nothing.
use Rattle.std.proofs.Common.{◌≡◌, ℕ, List, Some, None, Ok, Err, Result, refl, sym, ap, ◌∙◌}
use Rattle.codes.specs.Report.{exec_types, exec_type_code, statuses, status_code}
use Rattle.codes.specs.Session.{partitions, partition_code, ack_responses, ack_response_code, report_responses, report_response_code}
use Rattle.codes.specs.contracts.report.ExecTypeCode.TheImpl.Laws as exec_law
use Rattle.codes.specs.contracts.report.StatusCode.TheImpl.Laws as status_law
use Rattle.codes.specs.contracts.session.PartitionCode.TheImpl.Laws as partition_law
use Rattle.codes.specs.contracts.session.AckResponseCode.TheImpl.Laws as ack_law
use Rattle.codes.specs.contracts.session.ReportResponseCode.TheImpl.Laws as ending_law
use Rattle.codes.specs.declared.report.ExecType.{ExecType}
use Rattle.codes.specs.declared.report.ExecType.TheVariants as exec
use Rattle.codes.specs.declared.report.Status.{Status}
use Rattle.codes.specs.declared.report.Status.TheVariants as status
use Rattle.codes.specs.declared.session.Partition.{Partition}
use Rattle.codes.specs.declared.session.Partition.TheVariants as partition
use Rattle.codes.specs.declared.session.AckResponse.{AckResponse}
use Rattle.codes.specs.declared.session.AckResponse.TheVariants as ack
use Rattle.codes.specs.declared.session.ReportResponse.{ReportResponse}
use Rattle.codes.specs.declared.session.ReportResponse.TheVariants as ending
use Rattle.order_messages.specs.Terms.{exec_type_of}
use Rattle.layout.specs.declared.fault.Fault.{Fault}
use Rattle.layout.specs.Layout.{fault_of, Says, value_of}
use Rattle.layout.specs.Layout.Content.{figure}
use Rattle.layout.proofs.Values.{all_got, value_back}
use Rattle.wire.specs.declared.kinds.Channel.TheVariants.{Follower}
use Rattle.wire.specs.declared.kinds.Kind.{Kind}
use Rattle.wire.specs.declared.message.Message.{Message}
use Rattle.wire.specs.declared.message.Message.TheVariants as message
use Rattle.wire.specs.Kinds.{table_of}
use Rattle.wire.specs.Messages.{kind_of, contents_of, opening, after_opening, verdict, Reads}
use Rattle.follower.specs.declared.heard.Heard.{Heard}
use Rattle.follower.specs.Hearing.{heard, heard_from, heard_in, heard_opened, heard_unless}

-- a value by its byte
exec_back : (x : ExecType) → value_of exec_type_code exec_types exec.Unspecified (figure (exec_type_code x)) ≡ x
exec_back x = value_back exec_types exec.Unspecified x exec_law.sound-law refl

status_back : (x : Status) → value_of status_code statuses status.New (figure (status_code x)) ≡ x
status_back x = value_back statuses status.New x status_law.sound-law refl

pub partition_back : (x : Partition) → value_of partition_code partitions partition.One (figure (partition_code x)) ≡ x
partition_back x =
    value_back partitions partition.One x partition_law.sound-law refl

ack_back : (x : AckResponse) → value_of ack_response_code ack_responses ack.ServiceUnavailable
    (figure (ack_response_code x)) ≡ x
ack_back x =
    value_back ack_responses ack.ServiceUnavailable x ack_law.sound-law refl

ending_back : (x : ReportResponse) → value_of report_response_code report_responses ending.Complete
    (figure (report_response_code x)) ≡ x
ending_back x =
    value_back report_responses ending.Complete x ending_law.sound-law refl

-- what a message's contents say is what is heard in it
pub contents_say : (m : Message) → heard_from (kind_of m) (contents_of m) ≡ heard m
contents_say (message.ExecutionReport m) =
    let a = partition_back m.partition in
    let b = exec_back (exec_type_of m.execution) in
    let c = status_back m.status in
    cc
contents_say (message.OrderCancelReject m) = let a = partition_back m.partition in cc
contents_say (message.OrderMassCancelReport m) = let a = partition_back m.partition in cc
contents_say (message.MissedMessageRequestAck m) = let a = ack_back m.response in cc
contents_say (message.MissedMessageReport m) = let a = ending_back m.response in cc
contents_say m = refl

no_fault : (bs : List ℕ) (k : Kind) → verdict Follower bs ≡ None → opening Follower bs ≡ Ok k
    → fault_of (table_of k) bs ≡ None
no_fault bs k v o = sym (ap (after_opening bs) o) ∙ v

-- what is heard in bytes that a message was read from
pub heard_by : (bs : List ℕ) (m : Message) → verdict Follower bs ≡ None → opening Follower bs ≡ Ok (kind_of m)
    → Says (contents_of m) (table_of (kind_of m)) bs → heard_in bs ≡ Ok (heard m)
unfolding heard_in
heard_by bs m v o s =
    let k = kind_of m in
    ap (λ r. heard_opened r bs) o
    ∙ ap (λ x. heard_unless x k bs) (no_fault bs k v o)
    ∙ ap (λ vs. Ok (heard_from k vs)) (all_got (table_of k) (contents_of m) bs s)
    ∙ ap Ok (contents_say m)

-- what was read
pub hears : (bs : List ℕ) (m : Message) (h : Heard) → Reads Follower bs m → h ≡ heard m
    → ◌≡◌ {A = Result Heard Fault} (Ok h) (heard_in bs)
hears bs m h r e = ap Ok e ∙ sym (heard_by bs m r.passes r.opens r.says)

refused_by : (bs : List ℕ) (e : Fault) (o : Result Kind Fault) → after_opening bs o ≡ Some e → heard_opened o bs ≡ Err e
refused_by bs e (Err f) h = cc
refused_by bs e (Ok k) h = ap (λ o. heard_unless o k bs) h

-- what was refused
pub refused : (bs : List ℕ) (e : Fault) → verdict Follower bs ≡ Some e
    → ◌≡◌ {A = Result Heard Fault} (Err e) (heard_in bs)
unfolding heard_in
refused bs e h = sym (refused_by bs e (opening Follower bs) h)
