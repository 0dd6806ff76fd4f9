-- What a day shows, whichever engine and store it has. Assumes nothing.
use Rattle.std.specs.Prelude.{◌≡◌, ℕ, List, [], ◌∷◌, ◌++◌, Option, Result}
use Rattle.both_ends.specs.Asking.{made, step_of}
use Rattle.both_ends.specs.Runs.{Desk}
use Rattle.both_ends.specs.declared.entry.Entry.{Entry}
use Rattle.both_ends.specs.declared.entry.Entry.TheVariants.{Midpoint, Asked}
use Rattle.both_ends.specs.declared.entry.Step.{Step}
use Rattle.bench_play.specs.Tables.{answer}
use Rattle.bench_play.specs.declared.day.Day.{Day}
use Rattle.bench_play.specs.declared.day.Day.TheVariants.{LitRecords, LitWire, DarkRecords, DarkWire, PairRecords, PairWire, TapeRecords, TapeWire}
use Rattle.bench_play.specs.declared.tables.Look.{Look}
use Rattle.bench_play.specs.declared.tables.Shown.{Shown}
use Rattle.gateway.specs.State.{State}
use Rattle.matching.specs.declared.midpoint.MidpointRefusal.{MidpointRefusal}
use Rattle.texts.specs.declared.values.Price.{Price}

abbrev pub log_of : Day → List (Entry Look Shown)
log_of (LitRecords b) = b.log
log_of (LitWire b) = b.log
log_of (DarkRecords b) = b.log
log_of (DarkWire b) = b.log
log_of (PairRecords b) = b.log
log_of (PairWire b) = b.log
log_of (TapeRecords b) = b.log
log_of (TapeWire b) = b.log

abbrev pub state_of : Day → State
state_of (LitRecords b) = b.gateway.state
state_of (LitWire b) = b.gateway.state
state_of (DarkRecords b) = b.gateway.state
state_of (DarkWire b) = b.gateway.state
state_of (PairRecords b) = b.gateway.state
state_of (PairWire b) = b.gateway.state
state_of (TapeRecords b) = b.gateway.state
state_of (TapeWire b) = b.gateway.state

-- how many places its store has free
abbrev pub free_of : Day → ℕ
free_of (LitRecords b) = b.gateway.free
free_of (LitWire b) = b.gateway.free
free_of (DarkRecords b) = b.gateway.free
free_of (DarkWire b) = b.gateway.free
free_of (PairRecords b) = b.gateway.free
free_of (PairWire b) = b.gateway.free
free_of (TapeRecords b) = b.gateway.free
free_of (TapeWire b) = b.gateway.free

abbrev pub desk_of : Day → Desk
desk_of (LitRecords b) = b.desk
desk_of (LitWire b) = b.desk
desk_of (DarkRecords b) = b.desk
desk_of (DarkWire b) = b.desk
desk_of (PairRecords b) = b.desk
desk_of (PairWire b) = b.desk
desk_of (TapeRecords b) = b.desk
desk_of (TapeWire b) = b.desk

-- a question was kept with its answer, as both ends show it, and they stay
pub record Answers (q : Look) (a : Shown) (b e : Day) : Type 0 where
  pub answer_is : a ≡ answer q (state_of b) (free_of b) (desk_of b).follower
  pub log : log_of e ≡ log_of b ++ Asked q a ∷ []
  pub gateway : state_of e ≡ state_of b
  pub free : free_of e ≡ free_of b
  pub desk : desk_of e ≡ desk_of b

-- a midpoint was kept with what the matcher answered, and both ends show what they did
pub record Guides (i : ℕ) (p : Option Price) (r : Result (Unit {0}) MidpointRefusal) (b e : Day) : Type 0 where
  pub log : log_of e ≡ log_of b ++ Midpoint i p r ∷ []
  pub gateway : state_of e ≡ state_of b
  pub desk : desk_of e ≡ desk_of b

-- a step was taken, and kept with what came back
pub record Keeps (step : Step Look) (b e : Day) : Type 0 where
  pub entry : Entry Look Shown
  pub same : step_of entry ≡ step
  pub log : log_of e ≡ log_of b ++ entry ∷ []
