-- A follower takes the message of every report. Assumes nothing.
use Rattle.std.proofs.Common.{◌≡◌, Some, refl}
use Rattle.wire.specs.declared.kinds.Channel.TheVariants.{Follower}
use Rattle.wire.specs.Kinds.{letter_of, takes}
use Rattle.reports.specs.declared.report.Report.{Report}
use Rattle.reports.specs.declared.report.Report.TheVariants as report
use Rattle.report_messages.specs.Telling.{kind_told}

pub follower_takes : (r : Report) → takes Follower (letter_of (kind_told r)) ≡ Some (kind_told r)
follower_takes (report.Execution e) = refl
follower_takes (report.CancelReject e) = refl
follower_takes (report.MassCancel e) = refl
