-- What the line of a follower's CompID allows, told by the log of a run. Assumes nothing.
use Rattle.std.specs.Prelude.{◌≡◌, ℕ, Bool, true, false, ◌&&◌, List, [], ◌∷◌, ◌++◌, fold, take, slice_index_or, Some, None, Ok, Err, Option, Result, ◌==◌, if◌then◌else◌}
use Rattle.std.specs.List.{list_any}
use Rattle.std.specs.Str.{bytes_eq}
use Rattle.answers.specs.Bytes.{answer_bytes}
use Rattle.answers.specs.declared.answer.Admission.TheVariants.{Accepted}
use Rattle.answers.specs.declared.answer.Answer.TheVariants.{LogonReply}
use Rattle.both_ends.specs.declared.allowed.Breach.{Breach}
use Rattle.both_ends.specs.declared.allowed.Breach.TheVariants.{StillUp, NoLogon, LiveOutOfTurn, RecoveredOutOfTurn, NotAsked, GrantedOverFailure}
use Rattle.both_ends.specs.Connecting.{lost, up_in}
use Rattle.both_ends.specs.declared.connection.Connection.{Connection}
use Rattle.both_ends.specs.declared.connection.Connection.TheVariants as conn
use Rattle.both_ends.specs.declared.opening.Opening.{Opening}
use Rattle.both_ends.specs.declared.opening.Opening.TheVariants.{Awaited, Open, Failed}
use Rattle.both_ends.specs.declared.call.Done.{Done}
use Rattle.both_ends.specs.declared.call.Done.TheVariants as done
use Rattle.follower.specs.Hearing.{heard_in}
use Rattle.follower.specs.declared.fault.FollowerFault.{FollowerFault}
use Rattle.follower.specs.declared.heard.Heard.{Heard}
use Rattle.follower.specs.declared.heard.Heard.TheVariants.{Report, Ack, End, Reject, Nothing}
use Rattle.layout.specs.declared.fault.Fault.{Fault}
use Rattle.gateway_runs.specs.Runs.{bytes_of}
use Rattle.gateway_runs.specs.declared.call.Done.{Done as VenueDone}
use Rattle.gateway_runs.specs.declared.call.Done.TheVariants as venue
use Rattle.gateway_runs.specs.declared.call.Reply.{Reply}
use Rattle.codes.specs.declared.session.AckResponse.TheVariants.{Successful}
use Rattle.gateway.specs.declared.fault.GatewayFault.{GatewayFault}
use Rattle.gateway.specs.declared.fault.GatewayFault.TheVariants.{Session}
use Rattle.gateway.specs.declared.fault.SessionFault.TheVariants.{Wire}
use Rattle.wire.specs.Kinds.{letter_of, total_of}
use Rattle.wire.specs.declared.kinds.Kind.TheVariants as kind

abbrev pub Message : Type 0
Message = List ℕ

-- one line, as the calls so far left it
pub record Line : Type 0 where
  pub connection : Connection
  -- how the recovery channel of the connection began
  pub opening : Opening
  -- the reports under way to it on the real-time channel, oldest first
  pub live : List Message
  -- what is under way to it on the recovery channel
  pub recovered : List Message
  -- the reports that came of a download that has not ended: each may come again
  pub again : List Message
  -- the requests that it wrote, and that the gateway was not given yet
  pub asked : List Message

abbrev pub quiet : Line
quiet = record { connection = conn.Away; opening = Awaited; live = []; recovered = []; again = []; asked = [] }

-- a new connection: of the one before it nothing comes any more
abbrev pub connected : Line
connected = record quiet { connection = conn.Ready }

-- what is behind the first message, if it is this one
abbrev pub next_of : Message → List Message → Option (List Message)
next_of m [] = None
next_of m (x ∷ xs) = if bytes_eq x m then Some xs else None

-- ---- the gateway's calls

-- an accepted Logon ends what was before, and both sides must have ended it
abbrev pub accepted : Message
accepted = answer_bytes (LogonReply Accepted)

abbrev pub after_logon : Bool → Line → Result Line Breach
after_logon true l = if up_in l.connection then Err StillUp else Ok connected
after_logon false l = Ok l

-- what is handed out is under way; where nothing was, nothing is
abbrev pub behind : List Message → Message → List Message
behind ms [] = ms
behind ms (b ∷ bs) = ms ++ (b ∷ bs) ∷ []

-- a request is one that the follower wrote, and its answer is under way
abbrev pub answered : Message → Option (List Message) → Line → Result Line Breach
answered reply None l = Err NotAsked
answered reply (Some rest) l = Ok (record l { asked = rest; recovered = l.recovered ++ reply ∷ [] })

-- what the recovery channel carries to the gateway: requests, told by their answers, and anything that gets no Ack and
-- no Reject, as a Logon
abbrev pub after_recovery : Result Heard Fault → Message → Message → Line → Result Line Breach
after_recovery (Ok (Ack r)) reply m l = answered reply (next_of m l.asked) l
after_recovery (Ok Reject) reply m l = answered reply (next_of m l.asked) l
after_recovery (Ok (Report p h)) reply m l = Ok l
after_recovery (Ok (End r)) reply m l = Ok l
after_recovery (Ok Nothing) reply m l = Ok l
after_recovery (Err e) reply m l = Ok l

-- the gateway found that what it was given is no message
abbrev pub is_no_message : Result ℕ GatewayFault → Bool
is_no_message (Err (Session (Wire f))) = true
is_no_message r = false

-- and that was a Logon by its type
abbrev pub is_failed_logon : Result ℕ GatewayFault → Message → Bool
is_failed_logon r m = is_no_message r && slice_index_or m 3 0 == letter_of kind.Logon

-- the Reject that then stands at the front of the buffer
abbrev pub left_reject : Reply → Message
left_reject r = take (total_of kind.Reject) r.after.items

abbrev pub is_reject : Result Heard Fault → Bool
is_reject (Ok Reject) = true
is_reject h = false

-- it is under way, as an answer is
abbrev pub after_failure : Message → Line → Line
after_failure m l =
    if is_reject (heard_in m) then record l { opening = Failed; recovered = l.recovered ++ m ∷ [] }
    else record l { opening = Open }

abbrev pub is_grant : Result Heard Fault → Bool
is_grant (Ok (Ack Successful)) = true
is_grant h = false

-- a message on the recovery channel, by how the channel began: where that was a Logon that is no message, a Reject is
-- under way that answers no request, so none may be granted
abbrev pub given_recovery : Opening → Message → Reply → Line → Result Line Breach
given_recovery Awaited m r l =
    if is_failed_logon r.answer m then Ok (after_failure (left_reject r) l)
    else after_recovery (heard_in (bytes_of r)) (bytes_of r) m (record l { opening = Open })
given_recovery Open m r l = after_recovery (heard_in (bytes_of r)) (bytes_of r) m l
given_recovery Failed m r l =
    if is_grant (heard_in (bytes_of r)) then Err GrantedOverFailure
    else after_recovery (heard_in (bytes_of r)) (bytes_of r) m l

-- only what happens on the CompID's line counts
abbrev pub after_venue : ℕ → VenueDone → Line → Result Line Breach
after_venue c (venue.RealTime line m t r) l =
    if line == c then after_logon (bytes_eq (bytes_of r) accepted) l else Ok l
after_venue c (venue.Recovery line m t r) l =
    if line == c then given_recovery l.opening m.items r l else Ok l
after_venue c (venue.Step t r) l = Ok l
after_venue c (venue.CancelTrade n t r) l = Ok l
after_venue c (venue.LineLost line t r) l = Ok l
after_venue c (venue.Send line r) l =
    Ok (if line == c then record l { live = behind l.live (bytes_of r) } else l)
after_venue c (venue.SendRecovered line r) l =
    Ok (if line == c then record l { recovered = behind l.recovered (bytes_of r) } else l)

-- ---- the follower's calls

abbrev pub after_up : Connection → Line → Result Line Breach
after_up conn.Ready l = Ok (record l { connection = conn.Up })
after_up conn.Away l = Err NoLogon
after_up conn.Up l = Err NoLogon

-- what is not the next under way is a breach of the one that is up; of one that is not it changes nothing
abbrev pub out_of_turn : Breach → Line → Result Line Breach
out_of_turn b l = if up_in l.connection then Err b else Ok l

-- a report given live is the next under way; all else that may be given live is nothing to a follower
abbrev pub next_live : Option (List Message) → Line → Result Line Breach
next_live None l = out_of_turn LiveOutOfTurn l
next_live (Some rest) l = Ok (record l { live = rest })

abbrev pub given_live : Message → Result Heard Fault → Line → Result Line Breach
given_live m (Ok (Report p h)) l = next_live (next_of m l.live) l
given_live m h l = Ok l

-- what is given on the recovery channel is the next under way, or a report of the download that came before
abbrev pub repeated : Bool → Line → Result Line Breach
repeated true l = Ok l
repeated false l = out_of_turn RecoveredOutOfTurn l

abbrev pub next_report : Message → Option (List Message) → Line → Result Line Breach
next_report m (Some rest) l = Ok (record l { recovered = rest; again = m ∷ l.again })
next_report m None l = repeated (list_any (bytes_eq m) l.again) l

-- once anything else came, no report comes again
abbrev pub next_other : Option (List Message) → Line → Result Line Breach
next_other (Some rest) l = Ok (record l { recovered = rest; again = [] })
next_other None l = out_of_turn RecoveredOutOfTurn l

abbrev pub given_recovered : Message → Result Heard Fault → Line → Result Line Breach
given_recovered m (Ok (Report p h)) l = next_report m (next_of m l.recovered) l
given_recovered m (Ok (Ack r)) l = next_other (next_of m l.recovered) l
given_recovered m (Ok (End r)) l = next_other (next_of m l.recovered) l
given_recovered m (Ok Reject) l = next_other (next_of m l.recovered) l
given_recovered m (Ok Nothing) l = Ok l
given_recovered m (Err e) l = Ok l

abbrev pub after_ask : Result ℕ FollowerFault → Message → Line → Line
after_ask (Ok n) buffer l = record l { asked = l.asked ++ take n buffer ∷ [] }
after_ask (Err e) buffer l = l

-- ---- any call, and any log

abbrev pub after_call : ℕ → Done → Line → Result Line Breach
after_call c (done.Venue d) l = after_venue c d l
after_call c done.Up l = after_up l.connection l
after_call c done.Lost l = Ok (record l { connection = lost l.connection })
after_call c (done.Live m r) l = given_live m.items (heard_in m.items) l
after_call c (done.Recovered m r) l = given_recovered m.items (heard_in m.items) l
after_call c (done.Ask n r) l = Ok (after_ask r.answer r.after.items l)

-- one call more, where all before were allowed
abbrev pub onward : ℕ → Result Line Breach → Done → Result Line Breach
onward c (Ok l) x = after_call c x l
onward c (Err b) x = Err b

-- the line after a log, or the first breach
abbrev pub after_log : ℕ → List Done → Line → Result Line Breach
after_log c xs l = fold (onward c) (Ok l) xs

-- the line of a CompID allows a log
abbrev pub Allowed : ℕ → List Done → Type 0
Allowed c xs = (l : Line) × (after_log c xs quiet ≡ Ok l)
