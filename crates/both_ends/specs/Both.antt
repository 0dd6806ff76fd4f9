-- Both ends as one value: what it shows, how it begins, and what holds of every value of it. Assumes nothing.
use Rattle.std.specs.Prelude.{◌≡◌, ℕ, Bool, List, [], ◌∷◌, ◌++◌, Some, None, Option, Result, map}
use Rattle.std.specs.Borrow.{Bor}
use Rattle.std.specs.FinMap.{len}
use Rattle.configuration.specs.declared.instrument.Instrument.{Instrument}
use Rattle.configuration.specs.declared.participant.Participant.{Participant}
use Rattle.both_ends.specs.Agreement.{EndsAgree}
use Rattle.both_ends.specs.Asking.{Answer, Goes, Takes, made, step_of}
use Rattle.both_ends.specs.Guiding.{Guides, turns}
use Rattle.both_ends.specs.Runs.{Desk, fresh, venue_log}
use Rattle.both_ends.specs.declared.entry.Entry.{Entry}
use Rattle.both_ends.specs.declared.entry.Entry.TheVariants.{Midpoint, Asked as Kept}
use Rattle.both_ends.specs.declared.entry.Step.{Step}
use Rattle.follower.specs.Owing.{Tied}
use Rattle.gateway.specs.State.{State, fresh as fresh_state}
use Rattle.gateway_runs.specs.Conservation.{Conserves}
use Rattle.matching.specs.Asked.{Asked}
use Rattle.matching.specs.Meaning.{Meaning}
use Rattle.matching.specs.declared.midpoint.MidpointRefusal.{MidpointRefusal}
use Rattle.texts.specs.declared.values.Price.{Price}
use Rattle.venue.specs.Books.{Over, fresh as fresh_books}
use Rattle.venue.specs.Telling.{Told}

-- the log; the gateway, with its matcher as it is; the desk
pub record Ends (M Q A : Type 0) : Type 0 where
  pub log : List (Entry Q A)
  pub gateway : Over State M
  pub desk : Desk

-- a gateway of a new day, over a matcher that holds no order
pub record Begins {M : Type 0} (meaning : M → Meaning) (x : Over State M) : Type 0 where
  pub participants : List Participant
  pub instruments : List Instrument
  pub is : x.state ≡ fresh_state participants (fresh_books instruments (meaning x.engine))
  pub empty : len (meaning x.engine).orders ≡ 0

module _ {M Q A : Type 0} (meaning : M → Meaning) (did : M → Asked → M → Type 0) (guided : Bool)
    (learns : M → ℕ → Option Price → Bool → M → Type 0) (answer : Answer Q A) where
  -- from a start the log leads to both ends as they are
  pub record Ran (b : Ends M Q A) : Type 0 where
    pub first : Over State M
    pub begins : Begins meaning first
    pub goes : Goes did guided learns answer first fresh b.log b.gateway b.desk
    pub tied : Tied b.desk.token b.desk.follower

  -- what holds of both ends, whatever they were given to do: the matcher was asked what the acts of the calls ask and was
  -- told the midpoints, in their order, and nothing else; of every order the quantity last accepted is accounted for; and whichever line allows
  -- the calls, the ends of that line agree
  pub record Holds (b : Ends M Q A) : Type 0 where
    pub first : Over State M
    pub begins : Begins meaning first
    pub asked : Guides did guided learns first (turns b.log) b.gateway
    pub conserves : Conserves first.state (venue_log (made b.log)) b.gateway.state
    pub agrees : EndsAgree (made b.log) b.gateway.state b.desk

-- a question is kept with its answer, which is its definition's, and both ends stay
pub record Answers {M Q A : Type 0} (answer : Answer Q A) (q : Q) (a : A) (b e : Ends M Q A) : Type 0 where
  pub answer_is : a ≡ answer q b.gateway.state b.gateway.free b.desk.follower
  pub log : e.log ≡ b.log ++ Kept q a ∷ []
  pub gateway : e.gateway ≡ b.gateway
  pub desk : e.desk ≡ b.desk

-- a midpoint is kept with what the matcher answered, and all that both ends show stays
pub record Guided {M Q A : Type 0} (guided : Bool) (learns : M → ℕ → Option Price → Bool → M → Type 0) (i : ℕ)
    (p : Option Price) (r : Result (Unit {0}) MidpointRefusal) (b e : Ends M Q A) : Type 0 where
  pub told : Told guided learns i p r b.gateway e.gateway
  pub log : e.log ≡ b.log ++ Midpoint i p r ∷ []
  pub desk : e.desk ≡ b.desk

module _ {M Q A : Type 0} (did : M → Asked → M → Type 0) (guided : Bool)
    (learns : M → ℕ → Option Price → Bool → M → Type 0) (answer : Answer Q A) where
  -- a step is taken, and kept with what came back
  pub record Steps (step : Step Q) (b e : Ends M Q A) : Type 0 where
    pub entry : Entry Q A
    pub same : step_of entry ≡ step
    pub log : e.log ≡ b.log ++ entry ∷ []
    pub takes : Takes did guided learns answer b.gateway b.desk entry e.gateway e.desk

  -- steps are taken in turn, each kept
  pub record StepsAll (steps : List (Step Q)) (b e : Ends M Q A) : Type 0 where
    pub entries : List (Entry Q A)
    pub same : map step_of entries ≡ steps
    pub log : e.log ≡ b.log ++ entries
    pub goes : Goes did guided learns answer b.gateway b.desk entries e.gateway e.desk

  -- some of the steps, from the first on
  pub record StepsFront (steps : List (Step Q)) (b e : Ends M Q A) : Type 0 where
    pub front : List (Step Q)
    pub rest : List (Step Q)
    pub is : steps ≡ front ++ rest
    pub taken : StepsAll front b e

-- the last of a log
abbrev pub IsLast : {X : Type 0} → List X → Option (Bor X) → Type 0
IsLast xs None = xs ≡ []
IsLast {X} xs (Some x) = (before : List X) × (xs ≡ before ++ x.now ∷ [])
