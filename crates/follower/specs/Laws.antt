-- What a follower hears of what is written to it. Assumes nothing.
use Rattle.std.specs.Prelude.{◌≡◌, ℕ, pos, Some, Ok}
use Rattle.codes.specs.declared.session.Partition.{Partition}
use Rattle.wire.specs.declared.kinds.Channel.TheVariants.{Follower}
use Rattle.wire.specs.declared.message.Message.{Message}
use Rattle.wire.specs.Kinds.{letter_of, takes}
use Rattle.wire.specs.Messages.{kind_of, contents_of, written, Holdable}
use Rattle.reports.specs.declared.report.Report.{Report}
use Rattle.reports.specs.Told.{told_of}
use Rattle.report_messages.specs.Back.{report_in}
use Rattle.report_messages.specs.Telling.{kind_told, told_as}
use Rattle.follower.specs.declared.heard.Heard.TheVariants as heard
use Rattle.follower.specs.Hearing.{heard as heard_of, heard_in}

-- in the bytes of a message that a follower takes it hears that message
abbrev pub WrittenHeard : Type 0
WrittenHeard =
    (m : Message) → takes Follower (letter_of (kind_of m)) ≡ Some (kind_of m) → Holdable m
    → heard_in (written m) ≡ Ok (heard_of m)

-- a message that tells a report under its number
pub record Tells (p : Partition) (n : ℕ) (r : Report) (m : Message) : Type 0 where
  pub kind : kind_of m ≡ kind_told r
  pub contents : contents_of m ≡ told_as p n r
  pub back : report_in m ≡ Some r

-- in its bytes a follower hears that report, under that number
abbrev pub ReportsHeard : Type 0
ReportsHeard =
    (p : Partition) (n : ℕ) (r : Report) (m : Message) → Tells p n r m → Holdable m
    → heard_in (written m) ≡ Ok (heard.Report p (record { sequence = pos n; told = told_of r }))
