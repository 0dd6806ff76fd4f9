-- What happens to a line. Assumes nothing.
use Rattle.std.specs.Prelude.{ℕ, Bool, ◌&&◌, List, [], if◌then◌else◌, length, slice_get, Ok, Err, Option, Result, ◌==◌, true, false}
use Rattle.std.specs.Str.{bytes_eq}
use Rattle.std.specs.Option.{option_map_or}
use Rattle.answers.specs.declared.answer.Admission.TheVariants.{Accepted, Refused}
use Rattle.answers.specs.declared.answer.Answer.{Answer}
use Rattle.answers.specs.declared.answer.Answer.TheVariants.{LogonReply}
use Rattle.configuration.specs.declared.participant.Participant.{Participant}
use Rattle.gateway.specs.State.{State, session, with_session, lasts}
use Rattle.session_messages.specs.declared.logon.Logon.{Logon}
use Rattle.orders.specs.declared.row.Row.{Row}
use Rattle.sessions.specs.Sessions.{logged_on, closed}
use Rattle.sessions.specs.declared.session.Channel.{Channel}
use Rattle.refusals.specs.declared.LogonRefusal.{LogonRefusal}
use Rattle.refusals.specs.declared.LogonRefusal.TheVariants.{BadCredentials}
use Rattle.sessions.specs.declared.session.Session.{Session}
use Rattle.texts.specs.Bytes.{said}
use Rattle.texts.specs.Says.{says}
use Rattle.requests.specs.Selection.{anywhere, meant, of_line, withdrawals}
use Rattle.requests.specs.declared.selection.Cause.TheVariants.{LineLost}
use Rattle.venue.specs.Acts.{Act}

-- CompID and password are the line's, and no other password is asked for
abbrev pub is_known : Participant → Logon → Bool
is_known p m =
    bytes_eq (says m.comp_id) (said p.name.bytes)
    && (bytes_eq (says m.password) (said p.password.bytes) && length (says m.new_password) == 0)

abbrev pub admits : Option Participant → Logon → Bool
admits o m = option_map_or (λ p. is_known p m) o false

-- the answer to a Logon, and the session after it
abbrev pub admitted : Bool → ℕ → State → Result Session LogonRefusal → Answer × State
admitted known line s (Err e) = (LogonReply (Refused e), s)
admitted true line s (Ok x) = (LogonReply Accepted, with_session s line x)
admitted false line s (Ok x) = (LogonReply (Refused BadCredentials), s)

abbrev pub logon : Channel → ℕ → Logon → State → Answer × State
logon ch line m s =
    admitted (admits (slice_get s.participants line) m) line s (logged_on ch (lasts s.venue.kept) (session s line))

-- an open order of a line that is marked to end with it
abbrev pub ends_with : ℕ → Row → Bool
ends_with line = meant (of_line line) anywhere true

-- the CompID's marked orders expire, if it is configured so
abbrev pub ends_orders : Option Participant → Bool
ends_orders o = option_map_or (λ p. p.ends_orders) o false

abbrev pub ends_of : ℕ → State → List Act
ends_of line s =
    if ends_orders (slice_get s.participants line)
    then withdrawals (ends_with line) LineLost s.venue.rows
    else []

-- both channels are closed
abbrev pub line_closed : ℕ → State → State
line_closed line s = with_session s line (closed (session s line))
