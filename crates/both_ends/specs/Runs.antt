-- Runs of both ends. Assumes nothing.
use Rattle.std.specs.Prelude.{◌≡◌, ◌≤◌, true, false, List, [], ◌∷◌, length, Some, None, Option, IfOk}
use Rattle.std.specs.List.{filter_map}
use Rattle.both_ends.specs.declared.call.Call.{Call}
use Rattle.both_ends.specs.declared.call.Call.TheVariants as call
use Rattle.both_ends.specs.declared.call.Done.{Done}
use Rattle.both_ends.specs.declared.call.Done.TheVariants as done
use Rattle.follower.specs.Asking.{asks, asking, ReadBack}
use Rattle.follower.specs.Following.{Following, start, turned, live_step, recovered_step}
use Rattle.follower.specs.Hearing.{heard_in}
use Rattle.follower.specs.Owing.{Tied, token_after}
use Rattle.follower.specs.declared.pending.Pending.{Pending}
use Rattle.follower.specs.declared.pending.Pending.TheVariants.{Idle}
use Rattle.gateway.specs.State.{State}
use Rattle.limits.specs.declared.TheConstants.{ORDERS}
use Rattle.gateway_runs.specs.Runs as venue
use Rattle.gateway_runs.specs.declared.call.Done.{Done as VenueDone}
use Rattle.matching.specs.Asked.{Asked}
use Rattle.partitions.specs.PerPartition.{at}
use Rattle.venue.specs.Books.{Over, Sound}

-- the call that was made
abbrev pub call_of : Done → Call
call_of (done.Venue d) = call.Venue (venue.call_of d)
call_of done.Up = call.Up
call_of (done.Live bs r) = call.Live bs
call_of (done.Ask n r) = call.Ask n r.before
call_of (done.Recovered bs r) = call.Recovered bs
call_of done.Lost = call.Lost

-- a desk: its follower, and the token of the download that is owed
pub record Desk : Type 0 where
  pub follower : Following
  pub token : Pending

-- a desk that begins
abbrev pub fresh : Desk
fresh = record { follower = start; token = Idle }

-- a desk after one of its follower's calls
abbrev pub moved : Desk → Following → Desk
moved d f = record { follower = f; token = token_after d.follower f d.token }

-- one call: its end moves as its contract has it, and the other stays
abbrev pub Does : State → Desk → Done → State → Desk → Type 0
Does s d (done.Venue v) w e = venue.Turns s v w × (e ≡ d)
Does s d done.Up w e = (w ≡ s) × (e ≡ moved d (turned true d.follower))
Does s d done.Lost w e = (w ≡ s) × (e ≡ moved d (turned false d.follower))
Does s d (done.Live bs r) w e =
    let step = live_step d.follower (heard_in bs.items) in
    (w ≡ s) × (r ≡ step.answer) × (e ≡ moved d step.after)
Does s d (done.Recovered bs r) w e =
    let step = recovered_step d.follower (heard_in bs.items) in
    (w ≡ s) × (r ≡ step.answer) × (e ≡ moved d step.after)
Does s d (done.Ask n r) w e =
    let step = asks d.follower d.token n r.before.items in
    (w ≡ s) × (r.answer ≡ step.answer) × (r.after.items ≡ step.out) × (e ≡ moved d step.after)

-- the gateway as it is: a call of its own is done to it, and every other leaves it as it was
abbrev pub Sided : {M : Type 0} → (M → Asked → M → Type 0) → Over State M → Done → Over State M → Type 0
Sided did x (done.Venue v) y = venue.Does did x v y
Sided did x d y = y ≡ x

-- what is read at the other end: by a follower from what a gateway's call hands out, and by a gateway from a request
abbrev pub Tells : State → Desk → Done → Type 0
Tells s d (done.Venue v) = venue.Tells s v
Tells s d (done.Ask n r) =
    IfOk (asking d.follower d.token n (length r.before.items)) (λ p. ReadBack p (at d.follower.sides p).place)
Tells s d x = Unit {0}

-- calls made in turn; after each both ends keep what they are to keep
abbrev pub Runs : State → Desk → List Done → State → Desk → Type 0
Runs s d [] w e = (w ≡ s) × (e ≡ d)
Runs s d (x ∷ xs) w e =
    (u : State) × (f : Desk) × Does s d x u f × Tells s d x × Sound u.venue × (length u.venue.rows ≤ ORDERS)
    × Tied f.token f.follower × Runs u f xs w e

-- the gateway's call, if it was one
abbrev pub venue_call : Done → Option VenueDone
venue_call (done.Venue v) = Some v
venue_call x = None

-- the gateway's calls among them
abbrev pub venue_log : List Done → List VenueDone
venue_log xs = filter_map venue_call xs
