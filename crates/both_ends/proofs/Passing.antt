-- Calls of downloads, made and kept. Assumes nothing.
use Rattle.std.proofs.Common.{◌≡◌, ◌≢◌, ◌⊎◌, inl, inr, ℕ, Bool, true, false, List, [], ◌∷◌, ◌++◌, map, Some, None, Ok, Err, Option, Result, append_assoc, append-nil, refl, sym, ap, ◌∙◌, subst, Vec, Global}
use Rattle.std.proofs.lemmas.List.{map-append}
use Rattle.std.proofs.lemmas.List.Elements.{All-nil, All-cons, All-append}
use Rattle.std.specs.Borrow.{Bor}
use Rattle.std.specs.List.{All}
use Rattle.both_ends.proofs.Erasing.{one_more, run_of}
use Rattle.both_ends.specs.Allowed.{Message}
use Rattle.both_ends.specs.Asking.{Answer, Goes, Moves, Takes, made, step_of}
use Rattle.both_ends.specs.Both.{Ends, IsLast, Steps}
use Rattle.both_ends.specs.Catching.{Downloads, IsOfDownload}
use Rattle.both_ends.specs.Downloading.{Adds, Exchanges, IsGiven, Passes, left_by, left_in, entry_left}
use Rattle.both_ends.specs.Runs.{Desk, call_of}
use Rattle.both_ends.specs.declared.call.Call.{Call}
use Rattle.both_ends.specs.declared.call.Call.TheVariants as call
use Rattle.both_ends.specs.declared.call.Done.{Done}
use Rattle.both_ends.specs.declared.call.Done.TheVariants as done
use Rattle.both_ends.specs.declared.entry.Entry.{Entry}
use Rattle.both_ends.specs.declared.entry.Entry.TheVariants.{Made, Midpoint, Asked as Answered}
use Rattle.both_ends.specs.declared.entry.Step.{Step}
use Rattle.both_ends.specs.declared.entry.Step.TheVariants.{Make, Ask}
use Rattle.gateway.specs.State.{State}
use Rattle.gateway_runs.specs.declared.call.Call.{Call as VenueCall}
use Rattle.matching.specs.Asked.{Asked}
use Rattle.texts.specs.declared.values.Price.{Price}
use Rattle.venue.specs.Books.{Over}

-- ---- lists with one thing more

-- the last of a list is one
last_same : {X : Type 0} (xs ys : List X) (x y : X) → xs ++ x ∷ [] ≡ ys ++ y ∷ [] → x ≡ y
last_same [] [] x y e = cc
last_same [] (b ∷ ys) x y e = absurd (none_behind ys y (cc))
  where
    none_behind : {X : Type 0} (ys : List X) (y : X) → ys ++ y ∷ [] ≡ [] → ⊥
    none_behind [] y e = cc e
    none_behind (b ∷ ys) y e = cc e
last_same (a ∷ xs) [] x y e = absurd (none_behind xs x (cc))
  where
    none_behind : {X : Type 0} (ys : List X) (y : X) → ys ++ y ∷ [] ≡ [] → ⊥
    none_behind [] y e = cc e
    none_behind (b ∷ ys) y e = cc e
last_same (a ∷ xs) (b ∷ ys) x y e = last_same xs ys x y (let z : xs ++ x ∷ [] ≡ ys ++ y ∷ [] = cc in z)

pub made_push : {Q A : Type 0} (xs : List (Entry Q A)) (z : Done) → made (xs ++ Made z ∷ []) ≡ made xs ++ z ∷ []
made_push [] z = refl
made_push (Made a ∷ xs) z = ap (λ ys. a ∷ ys) (made_push xs z)
made_push (Midpoint i p r ∷ xs) z = made_push xs z
made_push (Answered q a ∷ xs) z = made_push xs z

pub made_more : {Q A : Type 0} (xs : List (Entry Q A)) (zs : List Done) → made (xs ++ map Made zs) ≡ made xs ++ zs
made_more [] [] = refl
made_more [] (z ∷ zs) = ap (λ ys. z ∷ ys) (made_more [] zs)
made_more (Made a ∷ xs) zs = ap (λ ys. a ∷ ys) (made_more xs zs)
made_more (Midpoint i p r ∷ xs) zs = made_more xs zs
made_more (Answered q a ∷ xs) zs = made_more xs zs

module _ {M Q A : Type 0} (did : M → Asked → M → Type 0) (guided : Bool)
    (learns : M → ℕ → Option Price → Bool → M → Type 0) (answer : Answer Q A) where
  -- ---- one call

  made_is : (x : Call) (a : Entry Q A) → step_of a ≡ Make x → (z : Done) × (a ≡ Made z) × (call_of z ≡ x)
  made_is x (Made z) e = (z, refl, cc)
  made_is x (Midpoint i p r) e = absurd cc
  made_is x (Answered q a) e = absurd cc

  -- what was made is what stands last
  pub passes : (x : Call) (b e : Ends M Q A) (o : Option (Bor (Entry Q A))) (bytes : Message)
      → Steps did guided learns answer (Make x) b e → IsLast e.log o → bytes ≡ left_in o → Passes did x bytes b e
  passes x b e None bytes s last is = absurd (no_last b.log s.entry (sym s.log ∙ last))
    where
      no_last : (xs : List (Entry Q A)) (y : Entry Q A) → xs ++ y ∷ [] ≡ [] → ⊥
      no_last [] y e = cc e
      no_last (a ∷ xs) y e = cc e
  passes x b e (Some l) bytes s (before, last) is =
      let (z, h, k) = made_is x s.entry s.same in
      let same : l.now ≡ Made z = last_same before b.log l.now s.entry (sym last ∙ s.log) ∙ h in
      record {
        made = z;
        is = k;
        left = is ∙ ap entry_left same;
        adds = record {
          log = s.log ∙ ap (λ y. b.log ++ y ∷ []) h;
          moves = subst (λ y. Takes did guided learns answer b.gateway b.desk y e.gateway e.desk) h s.takes;
        };
      }

  -- a message was given to the follower on the recovery channel
  pub gave : (v : Vec ℕ Global) (b e : Ends M Q A) → Steps did guided learns answer (Make (call.Recovered v)) b e
      → (z : Done) × IsGiven v.items z × Adds did z b e
  gave v b e s =
      let (z, h, k) = made_is (call.Recovered v) s.entry s.same in (
        z,
        given z k,
        record {
          log = s.log ∙ ap (λ y. b.log ++ y ∷ []) h;
          moves = subst (λ y. Takes did guided learns answer b.gateway b.desk y e.gateway e.desk) h s.takes;
        },
      )
    where
      given : (z : Done) → call_of z ≡ call.Recovered v → IsGiven v.items z
      given (done.Recovered i r) e = ap (λ (j : Vec ℕ Global). j.items) (let same : i ≡ v = cc in same)
      given (done.Venue y) e = absurd cc
      given done.Up e = absurd cc
      given done.Lost e = absurd cc
      given (done.Live i r) e = absurd cc
      given (done.Ask n r) e = absurd cc

  -- ---- more calls

  abbrev goes_one : (b e : Ends M Q A) (z : Done) → Adds did z b e
      → Goes did guided learns answer b.gateway b.desk (map Made (z ∷ [])) e.gateway e.desk
  goes_one b e z a = (e.gateway, e.desk, a.moves, (refl, refl))

  goes_both : (x : Over State M) (d : Desk) (xs : List (Entry Q A)) (y : Over State M) (f : Desk) (ys : List (Entry Q A))
      (z : Over State M) (e : Desk) → Goes did guided learns answer x d xs y f → Goes did guided learns answer y f ys z e
      → Goes did guided learns answer x d (xs ++ ys) z e
  goes_both x d [] y f ys z e (h, i) g =
      subst (λ (u : Over State M). Goes did guided learns answer u d ys z e) h (subst (λ j. Goes did guided learns answer y j ys z e) i g)
  goes_both x d (a ∷ xs) y f ys z e (u, j, k, r) g = (u, j, k, goes_both u j xs y f ys z e r g)

  pub no_downloads : (c : ℕ) (b e : Ends M Q A) → e ≡ b → Downloads did guided learns answer c b e
  no_downloads c b e h = record {
    calls = [];
    only = All-nil (IsOfDownload c);
    log = ap (λ (x : Ends M Q A). x.log) h ∙ sym (append-nil b.log);
    goes = (ap (λ (x : Ends M Q A). x.gateway) h, ap (λ (x : Ends M Q A). x.desk) h);
  }

  pub one_download : (c : ℕ) (b e : Ends M Q A) (z : Done) → IsOfDownload c z → Adds did z b e
      → Downloads did guided learns answer c b e
  one_download c b e z o a = record { calls = z ∷ []; only = All-cons (IsOfDownload c) z [] o (All-nil (IsOfDownload c)); log = a.log; goes = goes_one b e z a }

  pub more_downloads : (c : ℕ) (b m e : Ends M Q A) → Downloads did guided learns answer c b m → Downloads did guided learns answer c m e
      → Downloads did guided learns answer c b e
  more_downloads c b m e h g = record {
    calls = h.calls ++ g.calls;
    only = All-append (IsOfDownload c) h.calls g.calls h.only g.only;
    log = g.log ∙ (ap (λ xs. xs ++ map Made g.calls) h.log ∙ (append_assoc b.log (map Made h.calls) (map Made g.calls)
        ∙ ap (λ xs. b.log ++ xs) (sym (map-append Made h.calls g.calls))));
    goes = subst (λ xs. Goes did guided learns answer b.gateway b.desk xs e.gateway e.desk) (sym (map-append Made h.calls g.calls))
        (goes_both b.gateway b.desk (map Made h.calls) m.gateway m.desk (map Made g.calls) e.gateway e.desk h.goes
        g.goes);
  }

  given_of_download : (c : ℕ) (h : Message) (z : Done) → IsGiven h z → IsOfDownload c z
  given_of_download c h (done.Recovered m r) g = tt
  given_of_download c h (done.Venue v) g = absurd g
  given_of_download c h done.Up g = absurd g
  given_of_download c h done.Lost g = absurd g
  given_of_download c h (done.Live m r) g = absurd g
  given_of_download c h (done.Ask n r) g = absurd g

  -- a call that was passed, or none
  pub passed_downloads : (c : ℕ) (x : Call) (h : Message) (b e : Ends M Q A) → ((z : Done) → call_of z ≡ x → IsOfDownload c z)
      → Passes did x h b e → Downloads did guided learns answer c b e
  passed_downloads c x h b e of p = one_download c b e p.made (of p.made p.is) p.adds

  pub exchanged_downloads : (c : ℕ) (x : VenueCall) (came : Bool) (b e : Ends M Q A)
      → ((z : Done) → call_of z ≡ call.Venue x → IsOfDownload c z) → Exchanges did x came b e
      → Downloads did guided learns answer c b e
  exchanged_downloads c x false b e of p = passed_downloads c (call.Venue x) [] b e of p
  exchanged_downloads c x true b e of (m, h, n, p, z, g, a) =
      more_downloads c b m e (passed_downloads c (call.Venue x) h b m of p)
      (one_download c m e z (given_of_download c h z g) a)

  pub tried_downloads : (c : ℕ) (x : VenueCall) (b e : Ends M Q A)
      → ((z : Done) → call_of z ≡ call.Venue x → IsOfDownload c z)
      → (e ≡ b) ⊎ ((h : Message) × Passes did (call.Venue x) h b e) → Downloads did guided learns answer c b e
  tried_downloads c x b e of (inl h) = no_downloads c b e h
  tried_downloads c x b e of (inr (h, p)) = passed_downloads c (call.Venue x) h b e of p
