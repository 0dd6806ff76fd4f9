-- What a run makes of the orders, and what is kept of each. Assumes nothing.
use Rattle.std.specs.Prelude.{◌≡◌, ℕ, List, [], ◌∷◌, ◌++◌, Some}
use Rattle.gateway_runs.specs.declared.call.Done.{Done}
use Rattle.changes.specs.Laws.{Conserved}
use Rattle.gateway.specs.Doing.{acted}
use Rattle.gateway.specs.State.{State}
use Rattle.keyed.specs.Numbers.{under}
use Rattle.gateway_runs.specs.Moves.{Move, of_acts, of_order}
use Rattle.gateway_runs.specs.Runs.{Makes}
use Rattle.orders.specs.declared.row.Row.{Row}

-- a call made of the orders exactly what its acts do: a message those of its outcome, a step the event that is answered,
-- a trade cancellation that of the trade, a lost line the expiries; what is refused does none
abbrev pub Moves : State → Done → List Move → State → Type 0
Moves s d ms w =
    (spare : ℕ)
    × Makes (λ t u acts. (w ≡ acted t acts u) × (ms ≡ of_acts t acts u.venue)) (λ u acts. (w ≡ u) × (ms ≡ [])) spare s d

-- and the calls of a run in turn, the newest first
abbrev pub Made : State → List Done → List Move → State → Type 0
Made s [] ms w = (w ≡ s) × (ms ≡ [])
Made s (d ∷ ds) ms w =
    (x : State) × (now : List Move) × (later : List Move)
    × Moves s d now x × Made x ds later w × (ms ≡ later ++ now)

-- for every order: the quantity last accepted, which its New Order or its last Replace that was taken put in force, is
-- what is executed, open and withdrawn of it, and what was undone since
abbrev pub EachConserved : List Move → State → Type 0
EachConserved ms w = (n : ℕ) (r : Row) → under w.venue.rows n ≡ Some r → Conserved (of_order n ms) r

-- the calls of a run made changes of the orders; and whatever changes they made, each order is conserved over them
pub record Conserves (s : State) (ds : List Done) (w : State) : Type 0 where
  pub made : (ms : List Move) × Made s ds ms w
  pub conserved : (ms : List Move) → Made s ds ms w → EachConserved ms w
