-- What is kept of each order over a run. Assumes nothing.
use Rattle.std.proofs.Common.{◌≡◌, List, [], ◌∷◌, ◌++◌, refl, sym, ap, subst}
use Rattle.gateway_runs.specs.declared.call.Done.{Done}
use Rattle.changes.proofs.Conserving.{conserves}
use Rattle.changes.specs.Laws.{Makes}
use Rattle.gateway.specs.State.{State}
use Rattle.gateway_runs.proofs.Calls.{call_moves}
use Rattle.gateway_runs.proofs.Moving.{Moved, moved_on, order_made}
use Rattle.gateway_runs.proofs.Turning.{moves, turns}
use Rattle.gateway_runs.specs.Conservation.{Made, Conserves}
use Rattle.gateway_runs.specs.Moves.{Move, of_order}
use Rattle.gateway_runs.specs.Runs.{Runs, Turns}
use Rattle.matching.specs.Asked.{Asked}
use Rattle.venue.specs.Books.{Over}

-- a run, of the states alone
abbrev pub Turned : State → List Done → State → Type 0
Turned s [] w = w ≡ s
Turned s (d ∷ ds) w = (x : State) × Turns s d x × Turned x ds w

pub runs_turned : {M : Type 0} (did : M → Asked → M → Type 0) (x : Over State M) (ds : List Done) (y : Over State M)
    → Runs did x ds y → Turned x.state ds y.state
runs_turned {M} did x [] y e = ap (λ (z : Over State M). z.state) e
runs_turned did x (d ∷ ds) y (z, h, k, r) = (z.state, turns did x d z h, runs_turned did z ds y r)

-- it made changes of the orders
turned_made : (s : State) (ds : List Done) (w : State) → Turned s ds w → (ms : List Move) × Made s ds ms w
turned_made s [] w e = ([], (e, refl))
turned_made s (d ∷ ds) w (x, h, r) =
    let (now, k) = moves s d x h in
    let (later, made) = turned_made x ds w r in (later ++ now, (x, now, later, k, made, refl))

-- and the rows are what these make of those before
made_moved : (s : State) (ds : List Done) (ms : List Move) (w : State) → Made s ds ms w
    → Moved s.venue.rows ms w.venue.rows
made_moved s [] ms w (e, n) =
    subst (λ (l : List Move). Moved s.venue.rows l w.venue.rows) (sym n) (ap (λ (z : State). z.venue.rows) e)
made_moved s (d ∷ ds) ms w (x, now, later, h, made, e) =
    subst (λ (l : List Move). Moved s.venue.rows l w.venue.rows) (sym e)
    (moved_on s.venue.rows x.venue.rows now w.venue.rows later (call_moves s now d x h) (made_moved x ds later w made))

pub conserved : (s : State) (ds : List Done) (w : State) → s.venue.rows ≡ [] → Turned s ds w → Conserves s ds w
conserved s ds w e r = record {
  made = turned_made s ds w r;
  conserved = λ ms made n row h.
      let f : Moved [] ms w.venue.rows
      = subst (λ rows. Moved rows ms w.venue.rows) e (made_moved s ds ms w made) in
      conserves n (of_order n ms) row
      (subst (Makes n (of_order n ms)) h (order_made n ms w.venue.rows f));
}
