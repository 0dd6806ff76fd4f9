-- What a follower reads from the bytes that a gateway sends it. Assumes nothing.
use Rattle.std.specs.Prelude.{◌≡◌, ℕ, ℤ, List, pos, Some, None, Option}
use Rattle.codes.specs.declared.session.Partition.{Partition}
use Rattle.wire.specs.declared.kinds.Channel.TheVariants.{Follower}
use Rattle.wire.specs.declared.message.Message.{Message}
use Rattle.wire.specs.declared.message.Message.TheVariants as message
use Rattle.wire.specs.Messages.{kind_of, contents_of, verdict, written, Holdable, GivenBack, Reads}
use Rattle.reports.specs.declared.report.Report.{Report}
use Rattle.report_messages.specs.Back.{report_in}
use Rattle.report_messages.specs.Telling.{told_as, kind_told, report_bytes}

-- the bytes are the one form of a message of which P holds, and from them a follower reads such a message and no other
pub record Conveys (P : Message → Type 0) (bs : List ℕ) : Type 0 where
  pub message : Message
  pub form : written message ≡ bs
  pub held : Holdable message
  pub back : GivenBack message
  pub holds : P message
  pub taken : verdict Follower bs ≡ None
  pub read : (m : Message) → Reads Follower bs m → P m

-- where a report's message says that it stands: its partition, and its number there
abbrev pub place_in : Message → Option (Partition × ℤ)
place_in (message.ExecutionReport m) = Some (m.partition, m.sequence)
place_in (message.OrderCancelReject m) = Some (m.partition, m.sequence)
place_in (message.OrderMassCancelReport m) = Some (m.partition, m.sequence)
place_in m = None

-- the message of a report under its number
pub record Reports (p : Partition) (n : ℕ) (r : Report) (m : Message) : Type 0 where
  pub report : report_in m ≡ Some r
  pub place : place_in m ≡ Some (p, pos n)
  pub kind : kind_of m ≡ kind_told r
  pub contents : contents_of m ≡ told_as p n r

abbrev pub ReportTold : Partition → ℕ → Report → Type 0
ReportTold p n r = Conveys (Reports p n r) (report_bytes p n r)
