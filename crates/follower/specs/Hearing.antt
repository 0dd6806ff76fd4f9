-- What a follower hears in a message, and in the bytes of one. Assumes nothing.
use Rattle.std.specs.Prelude.{ℕ, ℤ, List, map, Some, None, Ok, Err, Option, Result}
use Rattle.codes.specs.Report.{exec_types, exec_type_code, statuses, status_code}
use Rattle.codes.specs.Session.{partitions, partition_code, ack_responses, ack_response_code, report_responses, report_response_code}
use Rattle.codes.specs.declared.report.ExecType.TheVariants as exec
use Rattle.codes.specs.declared.report.Status.TheVariants as status
use Rattle.codes.specs.declared.session.Partition.TheVariants as partition
use Rattle.codes.specs.declared.session.AckResponse.TheVariants as ack
use Rattle.codes.specs.declared.session.ReportResponse.TheVariants as ending
use Rattle.layout.specs.declared.fault.Fault.{Fault}
use Rattle.layout.specs.Layout.{Content, got, fault_of, words_of, int32_of, nth, value_of}
use Rattle.wire.specs.declared.kinds.Channel.TheVariants.{Follower}
use Rattle.wire.specs.declared.kinds.Kind.{Kind}
use Rattle.wire.specs.declared.kinds.Kind.TheVariants as kind
use Rattle.wire.specs.declared.message.Message.{Message}
use Rattle.wire.specs.declared.message.Message.TheVariants as message
use Rattle.wire.specs.Kinds.{table_of}
use Rattle.wire.specs.Messages.{opening}
use Rattle.reports.specs.declared.standing.Told.{Told}
use Rattle.report_messages.specs.Back.{order_in, told_in}
use Rattle.follower.specs.declared.heard.NumberedReport.{NumberedReport}
use Rattle.follower.specs.declared.heard.Heard.{Heard}
use Rattle.follower.specs.declared.heard.Heard.TheVariants.{Report, Ack, End, Reject, Nothing}

-- a message under its number, with what it tells of an order
abbrev pub numbered : ℤ → Message → NumberedReport
numbered n m = record { sequence = n; told = told_in m }

-- what is heard in a message: in most of them nothing
abbrev pub heard : Message → Heard
heard (message.ExecutionReport m) = Report m.partition (numbered m.sequence (message.ExecutionReport m))
heard (message.OrderCancelReject m) = Report m.partition (numbered m.sequence (message.OrderCancelReject m))
heard (message.OrderMassCancelReport m) =
    Report m.partition (numbered m.sequence (message.OrderMassCancelReport m))
heard (message.MissedMessageRequestAck m) = Ack m.response
heard (message.MissedMessageReport m) = End m.response
heard (message.Reject m) = Reject
heard m = Nothing

-- what the contents of an Execution Report tell
abbrev pub told_from : List Content → Told
told_from vs = record {
  order = order_in (words_of (nth 4 vs));
  kind = value_of exec_type_code exec_types exec.Unspecified (nth 5 vs);
  status = value_of status_code statuses status.New (nth 7 vs);
  quantity = int32_of (nth 10 vs);
  leaves = int32_of (nth 11 vs);
}

-- every numbered report begins with its partition and its number
abbrev pub numbered_from : List Content → Option Told → Heard
numbered_from vs t =
    Report
    (value_of partition_code partitions partition.One (nth 0 vs))
    (record { sequence = int32_of (nth 1 vs); told = t })

-- the same of a message's kind and contents
abbrev pub heard_from : Kind → List Content → Heard
heard_from kind.ExecutionReport vs = numbered_from vs (Some (told_from vs))
heard_from kind.OrderCancelReject vs = numbered_from vs None
heard_from kind.OrderMassCancelReport vs = numbered_from vs None
heard_from kind.MissedMessageRequestAck vs =
    Ack (value_of ack_response_code ack_responses ack.ServiceUnavailable (nth 0 vs))
heard_from kind.MissedMessageReport vs =
    End (value_of report_response_code report_responses ending.Complete (nth 0 vs))
heard_from kind.Reject vs = Reject
heard_from k vs = Nothing

-- of a message of a kind, unless a field is bad
abbrev pub heard_unless : Option Fault → Kind → List ℕ → Result Heard Fault
heard_unless (Some e) k bs = Err e
heard_unless None k bs = Ok (heard_from k (map (got bs) (table_of k)))

abbrev pub heard_opened : Result Kind Fault → List ℕ → Result Heard Fault
heard_opened (Err e) bs = Err e
heard_opened (Ok k) bs = heard_unless (fault_of (table_of k) bs) k bs

-- what is heard in bytes, or the first check of a follower's reader that they fail
unfoldable pub heard_in : List ℕ → Result Heard Fault
heard_in bs = heard_opened (opening Follower bs) bs
