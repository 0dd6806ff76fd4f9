-- The session of a line. Assumes nothing.
use Rattle.std.specs.Prelude.{ℕ, ◌+◌, Bool, true, false, Some, None, Ok, Err, Option, Result, is_some, nat_le, if◌then◌else◌}
use Rattle.codes.specs.declared.session.Partition.{Partition}
use Rattle.codes.specs.declared.session.AckResponse.{AckResponse}
use Rattle.codes.specs.declared.session.AckResponse.TheVariants.{Successful, LimitReached, InvalidAppId}
use Rattle.limits.specs.declared.TheConstants.{REQUESTS}
use Rattle.partitions.specs.declared.per_partition.PerPartition.{PerPartition}
use Rattle.partitions.specs.PerPartition.{for_each}
use Rattle.sessions.specs.declared.download.Download.{Download}
use Rattle.sessions.specs.declared.session.Channel.{Channel}
use Rattle.sessions.specs.declared.session.Channel.TheVariants.{RealTime, Recovery}
use Rattle.refusals.specs.declared.LogonRefusal.{LogonRefusal}
use Rattle.refusals.specs.declared.LogonRefusal.TheVariants.{AlreadyOn, RecoveryBeforeRealTime}
use Rattle.refusals.specs.declared.RequestRefusal.{RequestRefusal}
use Rattle.refusals.specs.declared.RequestRefusal.TheVariants.{DownloadRuns}
use Rattle.sessions.specs.declared.session.LoggedOn.{LoggedOn}
use Rattle.sessions.specs.declared.session.LoggedOn.TheVariants.{Off, Live, Recovering}
use Rattle.sessions.specs.declared.session.Session.{Session}
use Rattle.sessions.specs.Downloads.{begun}

-- of a line that nobody has logged on
abbrev pub fresh : Session
fresh = record { on = Off; sent = for_each 0; used = 0 }

-- the recovery channel is on only with the real-time one
abbrev pub is_on : Channel → LoggedOn → Bool
is_on ch Off = false
is_on RealTime Live = true
is_on Recovery Live = false
is_on ch (Recovering d) = true

abbrev pub on : Channel → Session → Bool
on ch s = is_on ch s.on

-- the download that runs: only on the recovery channel there is one
abbrev pub running : LoggedOn → Option Download
running Off = None
running Live = None
running (Recovering d) = d

abbrev pub download : Session → Option Download
download s = running s.on

-- a Logon on the real-time channel fixes each partition's last number for sending
abbrev pub logged_on_from : Channel → LoggedOn → PerPartition ℕ → Session → Result Session LogonRefusal
logged_on_from RealTime Off lasts s = Ok (record s { on = Live; sent = lasts })
logged_on_from Recovery Off lasts s = Err RecoveryBeforeRealTime
logged_on_from Recovery Live lasts s = Ok (record s { on = Recovering None })
logged_on_from ch o lasts s = Err AlreadyOn

abbrev pub logged_on : Channel → PerPartition ℕ → Session → Result Session LogonRefusal
logged_on ch lasts s = logged_on_from ch s.on lasts s

-- after a real-time Logout or a lost line
abbrev pub closed : Session → Session
closed s = record s { on = Off }

-- after a recovery Logout
abbrev pub without_recovery : LoggedOn → LoggedOn
without_recovery (Recovering d) = Live
without_recovery o = o

abbrev pub recovery_closed : Session → Session
recovery_closed s = record s { on = without_recovery s.on }

-- a request on the recovery channel, where no download runs
abbrev pub acknowledged : Option Partition → ℕ → ℕ → Session → Session × AckResponse
acknowledged None above last s = (s, InvalidAppId)
acknowledged (Some p) above last s =
    if nat_le REQUESTS s.used then (s, LimitReached)
    else (record s { on = Recovering (Some (begun p above last)); used = s.used + 1 }, Successful)

abbrev pub requested : Option Partition → ℕ → ℕ → Session → Result (Session × AckResponse) RequestRefusal
requested p above last s = if is_some (download s) then Err DownloadRuns else Ok (acknowledged p above last s)

-- with another download, or none: only on the recovery channel there is one to replace
abbrev pub with_running : LoggedOn → Option Download → LoggedOn
with_running (Recovering old) d = Recovering d
with_running o d = o

abbrev pub with_download : Session → Option Download → Session
with_download s d = record s { on = with_running s.on d }

-- with other marks of how far was sent
abbrev pub with_sent : Session → PerPartition ℕ → Session
with_sent s sent = record s { sent = sent }
