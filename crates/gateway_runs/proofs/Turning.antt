-- What a call does to a gateway, seen by its state alone. Assumes nothing.
use Rattle.std.proofs.Common.{◌≡◌, ℕ, List, [], Some, None, Option, Ok, Err, Result, length, refl, ap}
use Rattle.gateway.specs.Calls.{Hands, Handed, Steps, Undoes, Loses, send_fault, live_handed, recovery_handed}
use Rattle.gateway.specs.Doing.{Comes, Outcome, Stays, acted}
use Rattle.gateway.specs.Hearing.{Settled, Read, Checked, Given, Hears, call_fault, outcome_of, reader_of}
use Rattle.gateway.specs.State.{State, venue_of}
use Rattle.gateway.specs.declared.fault.GatewayFault.{GatewayFault}
use Rattle.layout.specs.declared.fault.Fault.{Fault}
use Rattle.gateway_runs.specs.Conservation.{Moves}
use Rattle.gateway_runs.specs.Moves.{Move, of_acts}
use Rattle.gateway_runs.specs.Runs.{Does, Makes, Turns, giving}
use Rattle.gateway_runs.specs.declared.call.Done.{Done}
use Rattle.gateway_runs.specs.declared.call.Done.TheVariants as done
use Rattle.matching.specs.Asked.{Asked}
use Rattle.requests.specs.Deciding.{spare}
use Rattle.sessions.specs.declared.session.Channel.TheVariants.{RealTime, Recovery}
use Rattle.texts.specs.declared.values.Time.{Time}
use Rattle.venue.specs.Acts.{Act}
use Rattle.venue.specs.Books.{Over}
use Rattle.venue.specs.declared.step.Step.{Step}
use Rattle.wire.specs.Messages.{verdict}

-- where for each ending by G there is one by H of some a, for each call that ends by G there is one that ends by H of some a
module _ {A : Type 0} (G : State → List Act → Type 0) (H : A → State → List Act → Type 0)
    (by : (u : State) (acts : List Act) → G u acts → (a : A) × H a u acts) where
  settled : (o : Outcome) (buffer : List ℕ) (r : Result ℕ GatewayFault) (out : List ℕ)
      → Settled G o buffer r out → (a : A) × Settled (H a) o buffer r out
  settled o buffer r out (x, k, y) = let (a, h) = by o.changed o.acts k in (a, (x, h, y))

  read : (o : Option Fault) (g : Given) (s : State) (r : Result ℕ GatewayFault) (out : List ℕ)
      → Read G o g s r out → (a : A) × Read (H a) o g s r out
  read (Some f) g s r out (x, k, y) = let (a, h) = by s _ k in (a, (x, h, y))
  read None g s r out (m, reads, k) =
      let (a, h) = settled (outcome_of g.channel g.line m g.time g.spare s) g.buffer r out k in (a, (m, reads, h))

  checked : (o : Option GatewayFault) (g : Given) (s : State) (r : Result ℕ GatewayFault) (out : List ℕ)
      → Checked G o g s r out → (a : A) × Checked (H a) o g s r out
  checked (Some f) g s r out (x, k, y) = let (a, h) = by s _ k in (a, (x, h, y))
  checked None g s r out k = read (verdict (reader_of g.channel) g.bytes) g s r out k

  hears : (g : Given) (s : State) (r : Result ℕ GatewayFault) (out : List ℕ) → Hears G g s r out
      → (a : A) × Hears (H a) g s r out
  hears g s r out k = checked (call_fault (length g.buffer) g.line s) g s r out k

  steps : (n : ℕ) (s : State) (r : Result Step GatewayFault) → Steps G n s r → (a : A) × Steps (H a) n s r
  steps n s (Ok x) (f, e, may, is, k) = let (a, h) = by s _ k in (a, (f, e, may, is, h))
  steps n s (Err f) (e, k) = let (a, h) = by s _ k in (a, (e, h))

  undoes : (t n : ℕ) (s : State) (r : Result (Unit {0}) GatewayFault) → Undoes G t n s r
      → (a : A) × Undoes (H a) t n s r
  undoes t n s (Ok u) (e, k) = let (a, h) = by s _ k in (a, (e, h))
  undoes t n s (Err f) (e, k) = let (a, h) = by s _ k in (a, (e, h))

  loses : (line : ℕ) (s : State) (r : Result (Unit {0}) GatewayFault) → Loses G line s r → (a : A) × Loses (H a) line s r
  loses line s (Ok u) (e, k) = let (a, h) = by _ _ k in (a, (e, h))
  loses line s (Err f) (e, k) = let (a, h) = by s _ k in (a, (e, h))

  hands : (o : Option GatewayFault) (p : Handed) (s : State) (buffer : List ℕ) (r : Result ℕ GatewayFault)
      (out : List ℕ) → Hands G o p s buffer r out → (a : A) × Hands (H a) o p s buffer r out
  hands (Some f) p s buffer r out (x, k, y) = let (a, h) = by s _ k in (a, (x, h, y))
  hands None p s buffer r out (x, k, y) = let (a, h) = by p.after _ k in (a, (x, h, y))

module _ {A : Type 0} (G : Time → State → List Act → Type 0) (H : A → Time → State → List Act → Type 0)
    (I : State → List Act → Type 0) (J : A → State → List Act → Type 0)
    (by : (t : Time) (u : State) (acts : List Act) → G t u acts → (a : A) × H a t u acts)
    (or : (u : State) (acts : List Act) → I u acts → (a : A) × J a u acts) where
  pub makes_by : (n : ℕ) (s : State) (d : Done) → Makes G I n s d → (a : A) × Makes (H a) (J a) n s d
  makes_by n s (done.RealTime line m t r) k =
      hears (G t) (λ a. H a t) (by t) (giving RealTime line m.items t r.before.items n) s r.answer r.after.items k
  makes_by n s (done.Recovery line m t r) k =
      hears (G t) (λ a. H a t) (by t) (giving Recovery line m.items t r.before.items n) s r.answer r.after.items k
  makes_by n s (done.Step t r) k = steps (G t) (λ a. H a t) (by t) n s r k
  makes_by n s (done.CancelTrade x t r) k = undoes (G t) (λ a. H a t) (by t) x n s r k
  makes_by n s (done.LineLost line t r) k = loses (G t) (λ a. H a t) (by t) line s r k
  makes_by n s (done.Send line r) k =
      hands I J or (send_fault RealTime (length r.before.items) line s) (live_handed line s) s r.before.items r.answer r.after.items k
  makes_by n s (done.SendRecovered line r) k =
      hands I J or (send_fault Recovery (length r.before.items) line s) (recovery_handed line s) s r.before.items r.answer r.after.items k

-- what is done to a gateway ends in what is done to its state
pub turns : {M : Type 0} (did : M → Asked → M → Type 0) (x : Over State M) (d : Done) (y : Over State M)
    → Does did x d y → Turns x.state d y.state
turns {M} did x d y k =
    let comes : (t : Time) (u : State) (acts : List Act) → Comes did t x y u acts
    → (a : Unit {0}) × (y.state ≡ acted t acts u) = λ t u acts c. (tt, c.state) in
    let stays : (u : State) (acts : List Act) → Stays x y u acts → (a : Unit {0}) × (y.state ≡ u)
    = λ u acts e. (tt, ap (λ (z : Over State M). z.state) e) in (
      spare (venue_of x),
      (makes_by (λ t. Comes did t x y) (λ a t u acts. y.state ≡ acted t acts u) (Stays x y)
          (λ a u acts. y.state ≡ u) comes stays (spare (venue_of x)) x.state d k).1,
    )

-- and in changes of the orders
pub moves : (s : State) (d : Done) (w : State) → Turns s d w → (ms : List Move) × Moves s d ms w
moves s d w (n, k) =
    let (ms, h) = makes_by {A = List Move} (λ t u acts. w ≡ acted t acts u)
    (λ ms t u acts. (w ≡ acted t acts u) × (ms ≡ of_acts t acts u.venue)) (λ u acts. w ≡ u)
    (λ ms u acts. (w ≡ u) × (ms ≡ []))
    (λ t u acts e. (of_acts t acts u.venue, (e, refl))) (λ u acts e. ([], (e, refl))) n s d k in (ms, (n, h))
