-- What a follower reads from the bytes that are sent. Assumes nothing.
use Rattle.std.specs.Prelude.{◌≡◌, ℕ, Some, None, Option}
use Rattle.answers.specs.Told.{EndTold}
use Rattle.codes.specs.declared.session.Partition.{Partition}
use Rattle.gateway.specs.Calls.{send_fault}
use Rattle.gateway.specs.State.{State, session}
use Rattle.sessions.specs.Downloads.{recovered}
use Rattle.sessions.specs.Sending.{next_to_send}
use Rattle.sessions.specs.Sessions.{download}
use Rattle.sessions.specs.declared.download.HandedOut.{HandedOut}
use Rattle.sessions.specs.declared.download.HandedOut.TheVariants.{Report, Ended}
use Rattle.sessions.specs.declared.session.Channel.TheVariants.{RealTime, Recovery}
use Rattle.store.specs.Kept.{Kept}
use Rattle.store.specs.Messages.{StoredTold}

-- a stored report that is sent is read from its bytes
abbrev pub SentTold : Kept → Option (Partition × ℕ) → Type 0
SentTold k None = Unit {0}
SentTold k (Some (p, n)) = StoredTold k p n

abbrev pub RecoveredTold : Kept → Option HandedOut → Type 0
RecoveredTold k None = Unit {0}
RecoveredTold k (Some (Report p n)) = StoredTold k p n
RecoveredTold k (Some (Ended r)) = EndTold r

-- so it is with what a call hands out, if it is not refused
abbrev pub SendTold : ℕ → ℕ → State → Type 0
SendTold room line s =
    send_fault RealTime room line s ≡ None
    → SentTold s.venue.kept (next_to_send s.venue.kept line (session s line).sent)

abbrev pub RecoverTold : ℕ → ℕ → State → Type 0
RecoverTold room line s =
    send_fault Recovery room line s ≡ None
    → RecoveredTold s.venue.kept (recovered s.venue.kept line (download (session s line))).0
