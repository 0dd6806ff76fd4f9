-- Runs: calls made one after the other. Assumes nothing.
use Rattle.std.specs.Prelude.{◌≡◌, ℕ, List, [], ◌∷◌, length, take, Ok, Err, Result}
use Rattle.gateway.specs.Calls.{Steps, Undoes, Loses, Sends, Recovers}
use Rattle.gateway.specs.Doing.{Comes, Stays, acted}
use Rattle.gateway.specs.Hearing.{Given, Hears}
use Rattle.gateway.specs.State.{State, venue_of}
use Rattle.gateway.specs.Telling.{SendTold, RecoverTold}
use Rattle.gateway.specs.declared.fault.GatewayFault.{GatewayFault}
use Rattle.gateway_runs.specs.declared.call.Call.{Call}
use Rattle.gateway_runs.specs.declared.call.Call.TheVariants as call
use Rattle.gateway_runs.specs.declared.call.Done.{Done}
use Rattle.gateway_runs.specs.declared.call.Done.TheVariants as done
use Rattle.gateway_runs.specs.declared.call.Reply.{Reply}
use Rattle.matching.specs.Asked.{Asked}
use Rattle.requests.specs.Deciding.{spare}
use Rattle.sessions.specs.declared.session.Channel.{Channel}
use Rattle.sessions.specs.declared.session.Channel.TheVariants.{RealTime, Recovery}
use Rattle.texts.specs.declared.values.Time.{Time}
use Rattle.venue.specs.Acts.{Act}
use Rattle.venue.specs.Books.{Over, Sound}

-- the call that was made
abbrev pub call_of : Done → Call
call_of (done.RealTime line m t r) = call.RealTime line m t r.before
call_of (done.Recovery line m t r) = call.Recovery line m t r.before
call_of (done.Step t r) = call.Step t
call_of (done.CancelTrade n t r) = call.CancelTrade n t
call_of (done.LineLost line t r) = call.LineLost line t
call_of (done.Send line r) = call.Send line r.before
call_of (done.SendRecovered line r) = call.SendRecovered line r.before

-- the bytes that a call that writes left; a refused one none
abbrev pub left : Result ℕ GatewayFault → List ℕ → List ℕ
left (Ok n) buffer = take n buffer
left (Err e) buffer = []

abbrev pub bytes_of : Reply → List ℕ
bytes_of r = left r.answer r.after.items

-- a message given on a channel, with a buffer for the answer, where so many places are spare
abbrev pub giving : Channel → ℕ → List ℕ → Time → List ℕ → ℕ → Given
giving ch line m t buffer spare =
    record { channel = ch; line = line; bytes = m; time = t; buffer = buffer; spare = spare }

-- what came back of a call, as its contract has it, where `goes t u acts` says that the state is u and that these acts
-- are then done at t, and `stays u` that it is u and that nothing is done
abbrev pub Makes : (Time → State → List Act → Type 0) → (State → List Act → Type 0) → ℕ → State → Done → Type 0
Makes goes stays spare s (done.RealTime line m t r) =
    Hears (goes t) (giving RealTime line m.items t r.before.items spare) s r.answer r.after.items
Makes goes stays spare s (done.Recovery line m t r) =
    Hears (goes t) (giving Recovery line m.items t r.before.items spare) s r.answer r.after.items
Makes goes stays spare s (done.Step t r) = Steps (goes t) spare s r
Makes goes stays spare s (done.CancelTrade n t r) = Undoes (goes t) n spare s r
Makes goes stays spare s (done.LineLost line t r) = Loses (goes t) line s r
Makes goes stays spare s (done.Send line r) = Sends stays line s r.before.items r.answer r.after.items
Makes goes stays spare s (done.SendRecovered line r) = Recovers stays line s r.before.items r.answer r.after.items

-- one call: the matcher is asked exactly what its acts ask
abbrev pub Does : {M : Type 0} → (M → Asked → M → Type 0) → Over State M → Done → Over State M → Type 0
Does did x d y = Makes (λ t. Comes did t x y) (Stays x y) (spare (venue_of x)) x.state d

-- and what it makes of the state alone
abbrev pub Turns : State → Done → State → Type 0
Turns s d w = (spare : ℕ) × Makes (λ t u acts. w ≡ acted t acts u) (λ u acts. w ≡ u) spare s d

-- what a follower reads from the bytes of a call that hands out
abbrev pub Tells : State → Done → Type 0
Tells s (done.Send line r) = SendTold (length r.before.items) line s
Tells s (done.SendRecovered line r) = RecoverTold (length r.before.items) line s
Tells s x = Unit {0}

-- calls made in turn; after each the gateway keeps what it is to keep
abbrev pub Runs : {M : Type 0} → (M → Asked → M → Type 0) → Over State M → List Done → Over State M → Type 0
Runs did x [] y = y ≡ x
Runs {M} did x (d ∷ ds) y = (z : Over State M) × Does did x d z × Sound z.state.venue × Runs did z ds y
