-- The number of each reason for which a follower refuses a call. Assumes nothing.
use Rattle.std.specs.Prelude.{ℕ}
use Rattle.layout.specs.Faults.{fault_number}
use Rattle.reports.specs.Fold.{fold_number}
use Rattle.follower.specs.declared.fault.FollowerFault.{FollowerFault}
use Rattle.follower.specs.declared.fault.FollowerFault.TheVariants.{Message, Buffer, NotUp, Partition, OutOfTurn, Fold}

abbrev pub follower_number : FollowerFault → ℕ
follower_number (Message e) = fault_number e
follower_number Buffer = 6
follower_number NotUp = 50
follower_number Partition = 51
follower_number OutOfTurn = 52
follower_number (Fold e) = fold_number e
