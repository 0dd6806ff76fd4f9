-- Calls with midpoints and questions among them. Assumes nothing.
use Rattle.std.specs.Prelude.{◌≡◌, ℕ, ◌≤◌, Bool, List, [], ◌∷◌, length, map, Option}
use Rattle.both_ends.specs.declared.call.Done.{Done}
use Rattle.both_ends.specs.Runs.{Desk, Does, Sided, Tells, call_of}
use Rattle.both_ends.specs.declared.entry.Entry.{Entry}
use Rattle.both_ends.specs.declared.entry.Entry.TheVariants.{Made, Midpoint, Asked as Answered}
use Rattle.both_ends.specs.declared.entry.Step.{Step}
use Rattle.both_ends.specs.declared.entry.Step.TheVariants.{Make, Ask, Midpoint as Tell}
use Rattle.follower.specs.Following.{Following}
use Rattle.follower.specs.Owing.{Tied}
use Rattle.gateway.specs.State.{State}
use Rattle.limits.specs.declared.TheConstants.{ORDERS}
use Rattle.matching.specs.Asked.{Asked}
use Rattle.texts.specs.declared.values.Price.{Price}
use Rattle.venue.specs.Books.{Over, Sound}
use Rattle.venue.specs.Telling.{Told}

-- a question's answer, as a function of what both ends show: the gateway's state, the free places, the follower
abbrev pub Answer : Type 0 → Type 0 → Type 0
Answer Q A = Q → State → ℕ → Following → A

-- one call: its end moves as its contract has it, the other stays, and both keep what they are to keep
pub record Moves {M : Type 0} (did : M → Asked → M → Type 0) (x : Over State M) (d : Desk) (a : Done)
    (y : Over State M) (e : Desk) : Type 0 where
  pub does : Does x.state d a y.state e
  pub sided : Sided did x a y
  pub told : Tells x.state d a
  pub sound : Sound y.state.venue
  pub few : length y.state.venue.rows ≤ ORDERS
  pub tied : Tied e.token e.follower

module _ {Q : Type 0} where
  -- a list of steps without its questions
  abbrev pub without_questions : List (Step Q) → List (Step Q)
  without_questions [] = []
  without_questions (Make c ∷ cs) = Make c ∷ without_questions cs
  without_questions (Tell i p ∷ cs) = Tell i p ∷ without_questions cs
  without_questions (Ask q ∷ cs) = without_questions cs

module _ {Q A : Type 0} where
  -- what both ends were given to do
  abbrev pub step_of : Entry Q A → Step Q
  step_of (Made a) = Make (call_of a)
  step_of (Midpoint i p r) = Tell i p
  step_of (Answered q a) = Ask q

  -- the calls of a log
  abbrev pub made : List (Entry Q A) → List Done
  made [] = []
  made (Made a ∷ xs) = a ∷ made xs
  made (Midpoint i p r ∷ xs) = made xs
  made (Answered q a ∷ xs) = made xs

  -- a log without its questions
  abbrev pub unasked : List (Entry Q A) → List (Entry Q A)
  unasked [] = []
  unasked (Made a ∷ xs) = Made a ∷ unasked xs
  unasked (Midpoint i p r ∷ xs) = Midpoint i p r ∷ unasked xs
  unasked (Answered q a ∷ xs) = unasked xs

module _ {M Q A : Type 0} (did : M → Asked → M → Type 0) (guided : Bool)
    (learns : M → ℕ → Option Price → Bool → M → Type 0) (answer : Answer Q A) where
  -- one step: a call moves its end; a midpoint is told to the matcher, and all that both ends show stays; to a question both
  -- ends stay, and the answer is its definition's
  abbrev pub Takes : Over State M → Desk → Entry Q A → Over State M → Desk → Type 0
  Takes x d (Made a) y e = Moves did x d a y e
  Takes x d (Midpoint i p r) y e = Told guided learns i p r x y × (e ≡ d)
  Takes x d (Answered q a) y e = (y ≡ x) × (e ≡ d) × (a ≡ answer q x.state x.free d.follower)

  -- calls, midpoints and questions, one after the other
  abbrev pub Goes : Over State M → Desk → List (Entry Q A) → Over State M → Desk → Type 0
  Goes x d [] y e = (y ≡ x) × (e ≡ d)
  Goes x d (a ∷ xs) y e = (z : Over State M) × (f : Desk) × Takes x d a z f × Goes z f xs y e

  -- leaving the questions out of a list of steps changes nothing else: a run of it is, without its questions, a run of the
  -- calls and midpoints alone, with the same answers and the same ends; and every run of these alone is that of a run with
  -- the questions, wherever they stand
  pub record Erases : Type 0 where
    pub drops : (x : Over State M) (d : Desk) (xs : List (Entry Q A)) (y : Over State M) (e : Desk)
        → Goes x d xs y e
        → Goes x d (unasked xs) y e × (map step_of (unasked xs) ≡ without_questions (map step_of xs))
    pub fills : (x : Over State M) (d : Desk) (cs : List (Step Q)) (ys : List (Entry Q A)) (y : Over State M) (e : Desk)
        → Goes x d ys y e → map step_of ys ≡ without_questions cs
        → (xs : List (Entry Q A)) × Goes x d xs y e × (map step_of xs ≡ cs) × (unasked xs ≡ ys)
