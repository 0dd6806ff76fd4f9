-- What a venue asks of its gateway, of any call in any state. Assumes nothing.
use Rattle.std.specs.Prelude.{◌≡◌, ◌≢◌, ℕ, ◌<◌, Bool, true, is_err, length, Some, None, Option}
use Rattle.codes.specs.declared.session.Partition.{Partition}
use Rattle.gateway.specs.Hearing.{firm}
use Rattle.gateway.specs.State.{State, session}
use Rattle.keyed.specs.Numbers.{under}
use Rattle.gateway_runs.specs.Runs.{Turns}
use Rattle.gateway_runs.specs.declared.call.Done.{Done}
use Rattle.gateway_runs.specs.declared.call.Done.TheVariants as done
use Rattle.orders.specs.declared.row.Row.{Row}
use Rattle.partitions.specs.PerPartition.{at}
use Rattle.reports.specs.declared.report.Entry.{Entry}
use Rattle.sessions.specs.Laws.{Grown}
use Rattle.venue.specs.Ledger.{Ledger}
use Rattle.venue.specs.Acts.{ledger_of}
use Rattle.venue.specs.Books.{Sound}

-- the line that a call is made on
abbrev pub line_of : Done → Option ℕ
line_of (done.RealTime line m t r) = Some line
line_of (done.Recovery line m t r) = Some line
line_of (done.Step t r) = None
line_of (done.CancelTrade n t r) = None
line_of (done.LineLost line t r) = Some line
line_of (done.Send line r) = Some line
line_of (done.SendRecovered line r) = Some line

-- a call on one line leaves the sessions of all others as they were, and one on none all of them
abbrev pub LinesApart : Type 0
LinesApart = (s : State) (d : Done) (w : State) (k : ℕ) → Turns s d w → line_of d ≢ Some k → session w k ≡ session s k

-- whether the caller was refused
abbrev pub is_refused : Done → Bool
is_refused (done.RealTime line m t r) = is_err r.answer
is_refused (done.Recovery line m t r) = is_err r.answer
is_refused (done.Step t r) = is_err r
is_refused (done.CancelTrade n t r) = is_err r
is_refused (done.LineLost line t r) = is_err r
is_refused (done.Send line r) = is_err r.answer
is_refused (done.SendRecovered line r) = is_err r.answer

-- a refused call changes nothing
abbrev pub RefusedStand : Type 0
RefusedStand = (s : State) (d : Done) (w : State) → Turns s d w → is_refused d ≡ true → w ≡ s

-- in each partition reports are only appended: each keeps its number, and the next takes the next
abbrev pub OnlyAppends : Type 0
OnlyAppends =
    (s : State) (d : Done) (w : State) → Turns s d w → (p : Partition) → Grown (at s.venue.kept p) (at w.venue.kept p)

-- each order and each report is of one of so many lines
pub record OfLines (lines : ℕ) (l : Ledger) : Type 0 where
  pub orders : (n : ℕ) (r : Row) → under l.rows n ≡ Some r → r.terms.owner < lines
  pub reports : (p : Partition) (n : ℕ) (e : Entry) → under (at l.kept p) n ≡ Some e → e.owner < lines

-- who owns an order or a report is a configured line, and stays one
abbrev pub Owned : State → Type 0
Owned s = OfLines (length s.lines) (ledger_of s.venue)

abbrev pub StayOwned : Type 0
StayOwned = (s : State) (d : Done) (w : State) → Turns s d w → Owned s → Owned w

-- an order, if there is one, is of the firm of a line's CompID
abbrev pub FirmOf : State → ℕ → Option Row → Type 0
FirmOf s line None = Unit {0}
FirmOf s line (Some r) = firm s r.terms.owner ≡ firm s line

-- a call on a line leaves the orders of all other firms as they were
abbrev pub FirmsApart : Type 0
FirmsApart =
    (s : State) (d : Done) (w : State) (line n : ℕ) (r : Row) → Sound s.venue → Turns s d w → line_of d ≡ Some line
    → under s.venue.rows n ≡ Some r → firm s r.terms.owner ≢ firm s line → under w.venue.rows n ≡ Some r
