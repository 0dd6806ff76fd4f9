-- Calls with midpoints and questions among them, and without the questions. Assumes nothing.
use Rattle.std.proofs.Common.{◌≡◌, ℕ, Bool, List, [], ◌∷◌, ◌++◌, map, refl, ap, ◌∙◌, subst, Option}
use Rattle.both_ends.specs.declared.call.Done.{Done}
use Rattle.both_ends.specs.declared.call.Done.TheVariants as done
use Rattle.both_ends.specs.Asking.{Answer, Goes, Takes, Erases, made, step_of, unasked, without_questions}
use Rattle.both_ends.specs.Guiding.{Call, Guide, Guides, turns}
use Rattle.both_ends.specs.Runs.{Desk, Runs, Sided, call_of, venue_log}
use Rattle.gateway_runs.proofs.Conserving.{Turned}
use Rattle.both_ends.specs.declared.entry.Entry.{Entry}
use Rattle.both_ends.specs.declared.entry.Entry.TheVariants.{Made, Midpoint, Asked as Answered}
use Rattle.both_ends.specs.declared.entry.Step.{Step}
use Rattle.both_ends.specs.declared.entry.Step.TheVariants.{Make, Ask, Midpoint as Tell}
use Rattle.gateway.specs.State.{State}
use Rattle.matching.specs.Asked.{Asked}
use Rattle.texts.specs.declared.values.Price.{Price}
use Rattle.venue.specs.Books.{Over, Sound}

-- the gateway's calls of a run, of the states alone
pub runs_turned : (s : State) (d : Desk) (xs : List Done) (w : State) (e : Desk) → Runs s d xs w e
    → Turned s (venue_log xs) w
runs_turned s d [] w e (a, b) = a
runs_turned s d (done.Venue v ∷ xs) w e (u, f, h, _, _, _, _, r) = (u, h.0, runs_turned u f xs w e r)
runs_turned s d (done.Up ∷ xs) w e (u, f, h, _, _, _, _, r) =
    subst (λ z. Turned z (venue_log xs) w) h.0 (runs_turned u f xs w e r)
runs_turned s d (done.Lost ∷ xs) w e (u, f, h, _, _, _, _, r) =
    subst (λ z. Turned z (venue_log xs) w) h.0 (runs_turned u f xs w e r)
runs_turned s d (done.Live m a ∷ xs) w e (u, f, h, _, _, _, _, r) =
    subst (λ z. Turned z (venue_log xs) w) h.0 (runs_turned u f xs w e r)
runs_turned s d (done.Ask n a ∷ xs) w e (u, f, h, _, _, _, _, r) =
    subst (λ z. Turned z (venue_log xs) w) h.0 (runs_turned u f xs w e r)
runs_turned s d (done.Recovered m a ∷ xs) w e (u, f, h, _, _, _, _, r) =
    subst (λ z. Turned z (venue_log xs) w) h.0 (runs_turned u f xs w e r)

module _ {M Q A : Type 0} (did : M → Asked → M → Type 0) (guided : Bool)
    (learns : M → ℕ → Option Price → Bool → M → Type 0) (answer : Answer Q A) where
  -- the calls of both ends
  pub run_of : (x : Over State M) (d : Desk) (xs : List (Entry Q A)) (y : Over State M) (e : Desk)
      → Goes did guided learns answer x d xs y e → Runs x.state d (made xs) y.state e
  run_of x d [] y e (a, b) = (ap (λ (z : Over State M). z.state) a, b)
  run_of x d (Made a ∷ xs) y e (z, f, m, r) =
      (z.state, f, m.does, m.told, m.sound, m.few, m.tied, run_of z f xs y e r)
  run_of x d (Midpoint i p a ∷ xs) y e (z, f, (t, j), r) =
      subst (λ s. Runs s d (made xs) y.state e) t.state
      (subst (λ g. Runs z.state g (made xs) y.state e) j (run_of z f xs y e r))
  run_of x d (Answered q a ∷ xs) y e (z, f, (h, i, j), r) =
      subst (λ (u : Over State M). Runs u.state d (made xs) y.state e) h
      (subst (λ g. Runs z.state g (made xs) y.state e) i (run_of z f xs y e r))

  -- the calls of the gateway, and the midpoints
  asked_one : (x z y : Over State M) (a : Done) (xs : List (Entry Q A)) → Sided did x a z → Sound z.state.venue
      → Guides did guided learns z (turns xs) y → Guides did guided learns x (turns (Made a ∷ xs)) y
  asked_one x z y (done.Venue v) xs k s r = (z, k, s, r)
  asked_one x z y done.Up xs k s r = subst (λ u. Guides did guided learns u (turns xs) y) k r
  asked_one x z y done.Lost xs k s r = subst (λ u. Guides did guided learns u (turns xs) y) k r
  asked_one x z y (done.Live m a) xs k s r = subst (λ u. Guides did guided learns u (turns xs) y) k r
  asked_one x z y (done.Ask n a) xs k s r = subst (λ u. Guides did guided learns u (turns xs) y) k r
  asked_one x z y (done.Recovered m a) xs k s r = subst (λ u. Guides did guided learns u (turns xs) y) k r

  pub asked_of : (x : Over State M) (d : Desk) (xs : List (Entry Q A)) (y : Over State M) (e : Desk)
      → Goes did guided learns answer x d xs y e → Guides did guided learns x (turns xs) y
  asked_of x d [] y e (a, b) = a
  asked_of x d (Made a ∷ xs) y e (z, f, m, r) = asked_one x z y a xs m.sided m.sound (asked_of z f xs y e r)
  asked_of x d (Midpoint i p a ∷ xs) y e (z, f, (t, j), r) = (z, t, asked_of z f xs y e r)
  asked_of x d (Answered q a ∷ xs) y e (z, f, (h, i, j), r) =
      subst (λ u. Guides did guided learns u (turns xs) y) h (asked_of z f xs y e r)

  -- without the questions
  drop_goes : (x : Over State M) (d : Desk) (xs : List (Entry Q A)) (y : Over State M) (e : Desk)
      → Goes did guided learns answer x d xs y e → Goes did guided learns answer x d (unasked xs) y e
  drop_goes x d [] y e r = r
  drop_goes x d (Made a ∷ xs) y e (z, f, m, r) = (z, f, m, drop_goes z f xs y e r)
  drop_goes x d (Midpoint i p a ∷ xs) y e (z, f, m, r) = (z, f, m, drop_goes z f xs y e r)
  drop_goes x d (Answered q a ∷ xs) y e (z, f, (h, i, j), r) =
      subst (λ u. Goes did guided learns answer u d (unasked xs) y e) h
      (subst (λ g. Goes did guided learns answer z g (unasked xs) y e) i (drop_goes z f xs y e r))

  drop_calls : (xs : List (Entry Q A)) → map step_of (unasked xs) ≡ without_questions (map step_of xs)
  drop_calls [] = refl
  drop_calls (Made a ∷ xs) = ap (λ cs. Make (call_of a) ∷ cs) (drop_calls xs)
  drop_calls (Midpoint i p a ∷ xs) = ap (λ cs. Tell i p ∷ cs) (drop_calls xs)
  drop_calls (Answered q a ∷ xs) = drop_calls xs

  -- with questions among them
  fill : (x : Over State M) (d : Desk) (cs : List (Step Q)) (ys : List (Entry Q A)) (y : Over State M) (e : Desk)
      → Goes did guided learns answer x d ys y e → map step_of ys ≡ without_questions cs
      → (xs : List (Entry Q A)) × Goes did guided learns answer x d xs y e × (map step_of xs ≡ cs) × (unasked xs ≡ ys)
  fill x d [] [] y e r h = ([], r, refl, refl)
  fill x d [] (a ∷ ys) y e r h = cc h
  fill x d (Ask q ∷ cs) ys y e r h =
      let (xs, g, c, m) = fill x d cs ys y e r h in (
        Answered q (answer q x.state x.free d.follower) ∷ xs,
        (x, d, (refl, refl, refl), g),
        ap (λ t. Ask q ∷ t) c,
        m,
      )
  fill x d (Make c ∷ cs) [] y e r h = cc h
  fill x d (Make c ∷ cs) (Made a ∷ ys) y e (z, f, m, r) h =
      let same : call_of a ≡ c = cc in
      let rest : map step_of ys ≡ without_questions cs = cc in
      let (xs, g, k, n) = fill z f cs ys y e r rest in (
        Made a ∷ xs,
        (z, f, m, g),
        ap (λ t. Make (call_of a) ∷ t) k ∙ ap (λ t. Make t ∷ cs) same,
        ap (λ t. Made a ∷ t) n,
      )
  fill x d (Make c ∷ cs) (Midpoint i p a ∷ ys) y e r h = cc h
  fill x d (Make c ∷ cs) (Answered q a ∷ ys) y e r h = cc h
  fill x d (Tell i p ∷ cs) [] y e r h = cc h
  fill x d (Tell i p ∷ cs) (Midpoint j q a ∷ ys) y e (z, f, m, r) h =
      let one : j ≡ i = cc in
      let two : q ≡ p = cc in
      let rest : map step_of ys ≡ without_questions cs = cc in
      let (xs, g, k, n) = fill z f cs ys y e r rest in (
        Midpoint j q a ∷ xs,
        (z, f, m, g),
        ap (λ t. Tell j q ∷ t) k ∙ ap (λ t. Tell t q ∷ cs) one ∙ ap (λ t. Tell i t ∷ cs) two,
        ap (λ t. Midpoint j q a ∷ t) n,
      )
  fill x d (Tell i p ∷ cs) (Made a ∷ ys) y e r h = cc h
  fill x d (Tell i p ∷ cs) (Answered q a ∷ ys) y e r h = cc h

  pub erases : Erases did guided learns answer
  erases = record { drops = λ x d xs y e r. (drop_goes x d xs y e r, drop_calls xs); fills = fill }

  -- one step more
  pub one_more : (x : Over State M) (d : Desk) (xs : List (Entry Q A)) (z : Over State M) (f : Desk) (a : Entry Q A)
      (y : Over State M) (e : Desk) → Goes did guided learns answer x d xs z f → Takes did guided learns answer z f a y e
      → Goes did guided learns answer x d (xs ++ a ∷ []) y e
  one_more x d [] z f a y e (h, i) t = (
    y,
    e,
    subst (λ (u : Over State M). Takes did guided learns answer u d a y e) h (subst (λ g. Takes did guided learns answer z g a y e) i t),
    (refl, refl),
  )
  one_more x d (b ∷ xs) z f a y e (u, g, k, r) t = (u, g, k, one_more u g xs z f a y e r t)
