-- The rule of the line of a follower's CompID, told of what left the gateway on it and what came. Assumes nothing.
use Rattle.std.specs.Prelude.{◌≡◌, ℕ, Bool, true, false, List, [], ◌∷◌, ◌++◌, fold, filter, take, Some, None, Ok, Err, Option, Result, ◌==◌, ◌&&◌, ◌||◌, not, if◌then◌else◌, option_to_list}
use Rattle.std.specs.List.{filter_map, list_any}
use Rattle.std.specs.Str.{bytes_eq}
use Rattle.both_ends.specs.Allowed.{Message, Allowed, accepted, is_failed_logon, is_grant, is_reject, left_reject}
use Rattle.both_ends.specs.declared.call.Done.{Done}
use Rattle.both_ends.specs.declared.call.Done.TheVariants as done
use Rattle.follower.specs.Hearing.{heard_in}
use Rattle.follower.specs.declared.fault.FollowerFault.{FollowerFault}
use Rattle.follower.specs.declared.heard.Heard.{Heard}
use Rattle.follower.specs.declared.heard.Heard.TheVariants.{Report, Ack, Reject, Nothing}
use Rattle.layout.specs.declared.fault.Fault.{Fault}
use Rattle.gateway_runs.specs.Runs.{bytes_of}
use Rattle.gateway_runs.specs.declared.call.Done.TheVariants as venue

-- a list is a front of another
abbrev pub IsFront : {A : Type 0} → List A → List A → Type 0
IsFront {A} xs ys = (rest : List A) × (ys ≡ xs ++ rest)

-- what the calls of a list show, each told with the calls before it
abbrev pub shown : (List Done → Done → List Message) → List Done → List Done → List Message
shown shows before [] = []
shown shows before (x ∷ xs) = shows before x ++ shown shows (before ++ x ∷ []) xs

-- ---- connections

-- whether a call has a Logon accepted on the line
abbrev pub accepts : ℕ → Done → Bool
accepts c (done.Venue (venue.RealTime line m t r)) = (line == c) && bytes_eq (bytes_of r) accepted
accepts c x = false

-- of the calls so far, those since a Logon was last accepted on the line
abbrev pub since : ℕ → List Done → List Done
since c ys = fold (λ zs x. if accepts c x then [] else zs ++ x ∷ []) [] ys

abbrev pub is_up_call : Done → Bool
is_up_call done.Up = true
is_up_call x = false

-- whether the follower is up: up makes it so, lost ends it
abbrev pub up_after : Bool → Done → Bool
up_after b done.Up = true
up_after b done.Lost = false
up_after b x = b

abbrev pub is_up : List Done → Bool
is_up ys = fold up_after false ys

-- ---- what left the gateway on the line

-- what a call hands out, if anything
abbrev pub handed_out : List ℕ → Option Message
handed_out [] = None
handed_out (b ∷ bs) = Some (b ∷ bs)

abbrev pub leaves_live : ℕ → Done → Option Message
leaves_live c (done.Venue (venue.Send line r)) = if line == c then handed_out (bytes_of r) else None
leaves_live c x = None

-- the answer to a request
abbrev pub is_answer : Result Heard Fault → Bool
is_answer (Ok (Ack r)) = true
is_answer (Ok Reject) = true
is_answer h = false

abbrev pub leaves_recovered : ℕ → Done → Option Message
leaves_recovered c (done.Venue (venue.SendRecovered line r)) = if line == c then handed_out (bytes_of r) else None
leaves_recovered c (done.Venue (venue.Recovery line m t r)) =
    if (line == c) && is_answer (heard_in (bytes_of r)) then Some (bytes_of r) else None
leaves_recovered c x = None

-- whether the gateway is given something on the line's recovery channel
abbrev pub is_recovery : ℕ → Done → Bool
is_recovery c (done.Venue (venue.Recovery line m t r)) = line == c
is_recovery c x = false

-- the Reject of a Logon that is no message, where that is the first thing that it is given there
abbrev pub rejects_logon : ℕ → List Done → Done → Option Message
rejects_logon c before (done.Venue (venue.Recovery line m t r)) =
    if (line == c) && is_failed_logon r.answer m.items && is_reject (heard_in (left_reject r))
    && not (list_any (is_recovery c) before) then Some (left_reject r) else None
rejects_logon c before x = None

abbrev pub rejected_logons : ℕ → List Done → List Message
rejected_logons c zs = shown (λ before x. option_to_list (rejects_logon c before x)) [] zs

abbrev pub left_live : ℕ → List Done → List Message
left_live c zs = filter_map (leaves_live c) zs

abbrev pub left_recovered : ℕ → List Done → List Message
left_recovered c zs =
    shown (λ before x. option_to_list (leaves_recovered c x) ++ option_to_list (rejects_logon c before x)) [] zs

-- ---- what came to the follower

-- live, reports alone count
abbrev pub is_report : Result Heard Fault → Bool
is_report (Ok (Report p h)) = true
is_report h = false

abbrev pub gives_live : Done → Option Message
gives_live (done.Live m r) = if is_report (heard_in m.items) then Some m.items else None
gives_live x = None

-- on the recovery channel, whatever it hears something in
abbrev pub is_heard : Result Heard Fault → Bool
is_heard (Ok Nothing) = false
is_heard (Ok h) = true
is_heard (Err e) = false

abbrev pub gives_recovered : Done → Option Message
gives_recovered (done.Recovered m r) = if is_heard (heard_in m.items) then Some m.items else None
gives_recovered x = None

-- What came of a connection on a channel. What is given to a follower that is not up, and did not leave the gateway
-- before, is still of a connection that has ended, and left out.
abbrev pub came : (List Done → List Message) → (Done → Option Message) → List Done → List Message
came left gives zs =
    shown (λ before x. filter (λ m. is_up before || list_any (bytes_eq m) (left before)) (option_to_list (gives x))) []
    zs

abbrev pub came_live : ℕ → List Done → List Message
came_live c zs = came (left_live c) gives_live zs

-- the reports at the end of what came, behind which nothing else did
abbrev pub last_reports : List Message → List Message
last_reports ms = fold (λ rs m. if is_report (heard_in m) then m ∷ rs else []) [] ms

-- each of these may come again, and counts once
abbrev pub once : List Message → List Message
once ms = fold (λ us m. if list_any (bytes_eq m) (last_reports us) then us else us ++ m ∷ []) [] ms

abbrev pub came_recovered : ℕ → List Done → List Message
came_recovered c zs = once (came (left_recovered c) gives_recovered zs)

-- ---- the requests

abbrev pub written_of : Result ℕ FollowerFault → Message → Option Message
written_of (Ok n) buffer = Some (take n buffer)
written_of (Err e) buffer = None

abbrev pub writes : Done → Option Message
writes (done.Ask n r) = written_of r.answer r.after.items
writes x = None

-- a request that the gateway is given on the recovery channel, and answers
abbrev pub answers : ℕ → Done → Option Message
answers c (done.Venue (venue.Recovery line m t r)) =
    if (line == c) && is_answer (heard_in (bytes_of r)) then Some m.items else None
answers c x = None

-- or grants
abbrev pub grants : ℕ → Done → Bool
grants c (done.Venue (venue.Recovery line m t r)) = (line == c) && is_grant (heard_in (bytes_of r))
grants c x = false

abbrev pub written : List Done → List Message
written zs = filter_map writes zs

abbrev pub answered : ℕ → List Done → List Message
answered c zs = filter_map (answers c) zs

-- ---- the rule

pub record KeepsLine (c : ℕ) (log : List Done) : Type 0 where
  -- both sides have ended a connection before the next begins: where a Logon is accepted, the follower is not up
  pub logons : (ys : List Done) (x : Done) → IsFront (ys ++ x ∷ []) log → accepts c x ≡ true → is_up ys ≡ false
  -- it goes up once a connection, behind the accepted Logon
  pub ups : (ys : List Done) → IsFront (ys ++ done.Up ∷ []) log
      → (list_any (accepts c) ys ≡ true) × (list_any is_up_call (since c ys) ≡ false)
  -- at any time what came live since the Logon is a front of what left live since
  pub live : (ys : List Done) → IsFront ys log → IsFront (came_live c (since c ys)) (left_live c (since c ys))
  -- so is what came on the recovery channel of what left there
  pub recovered : (ys : List Done) → IsFront ys log
      → IsFront (came_recovered c (since c ys)) (left_recovered c (since c ys))
  -- and the requests that were answered of those that the follower wrote
  pub requests : (ys : List Done) → IsFront ys log → IsFront (answered c (since c ys)) (written (since c ys))
  -- none is granted behind a Logon of its channel that was no message
  pub granted : (ys : List Done) (x : Done) → IsFront (ys ++ x ∷ []) log → grants c x ≡ true
      → rejected_logons c (since c ys) ≡ []

-- what keeps the rule is allowed
abbrev pub AsTheRule : Type 0
AsTheRule = (c : ℕ) (log : List Done) → KeepsLine c log → Allowed c log
