-- From a desk that can catch up to one whose every partition is level. Assumes nothing.
use Rattle.std.specs.Prelude.{nat_lt}
use Rattle.std.specs.Int.{div_ceil}
use Rattle.std.proofs.Common.{◌≡◌, ◌≢◌, ◌⊎◌, inl, inr, ℕ, ◌+◌, ◌<◌, ◌≤◌, max, Bool, true, false, cond, Option, List, [], ◌∷◌, ◌++◌, map, Ok, Err, Result, length, refl, sym, ap, ◌∙◌, subst, arith, Vec, Global}
use Rattle.std.proofs.lemmas.Bool.{true≢false}
use Rattle.codes.specs.Session.{partition_code}
use Rattle.codes.specs.declared.session.Partition.{Partition}
use Rattle.codes.specs.declared.session.Partition.TheVariants.{One, Two, Three}
use Rattle.both_ends.proofs.Downloading.{Unmoved, missed_same, request_some, waits}
use Rattle.both_ends.proofs.Erasing.{run_of}
use Rattle.both_ends.proofs.Passing.{made_more, more_downloads, no_downloads, passed_downloads}
use Rattle.both_ends.proofs.Waiting.{ask_left, runs_both}
use Rattle.both_ends.proofs.Whole.{Loaded, asked_open}
use Rattle.both_ends.specs.Agreement.{place}
use Rattle.both_ends.specs.Allowed.{Allowed, Line, Message, after_log, quiet}
use Rattle.both_ends.specs.Asking.{Answer, made}
use Rattle.both_ends.specs.Both.{Begins, Ends, Ran}
use Rattle.both_ends.specs.Catching.{CanCatchUp, CatchesUp, Downloads, IsOfDownload, IsOpen, downloads_for, granted, missed, needed}
use Rattle.both_ends.specs.Deciding.{failed_in, is_failed}
use Rattle.both_ends.specs.Downloading.{Adds, Downloaded, IsAsked, Levelled, Passes, Reached, Ready, Stays, Waiting, left_by}
use Rattle.both_ends.specs.Laws.{state_of}
use Rattle.both_ends.specs.Runs.{Desk, Runs, call_of, fresh}
use Rattle.both_ends.specs.declared.call.Asked.{Asked as AskedOf}
use Rattle.both_ends.specs.declared.call.Call.TheVariants as call
use Rattle.both_ends.specs.declared.call.Done.{Done}
use Rattle.both_ends.specs.declared.call.Done.TheVariants as done
use Rattle.both_ends.specs.declared.entry.Entry.{Entry}
use Rattle.both_ends.specs.declared.entry.Entry.TheVariants.{Made}
use Rattle.both_ends.specs.declared.opening.Opening.{Opening}
use Rattle.both_ends.specs.declared.opening.Opening.TheVariants.{Awaited, Open, Failed}
use Rattle.follower.specs.Sides.{is_level}
use Rattle.follower.specs.declared.side.Side.{Side}
use Rattle.follower.specs.declared.side.State.{State as Standing}
use Rattle.follower.specs.declared.side.State.TheVariants.{Level, Behind, Overrun}
use Rattle.gateway.specs.State.{State, session, fresh as fresh_state}
use Rattle.matching.specs.Asked.{Asked}
use Rattle.matching.specs.Meaning.{Meaning}
use Rattle.partitions.specs.PerPartition.{at}
use Rattle.partitions.specs.declared.per_partition.PerPartition.{PerPartition}
use Rattle.sessions.specs.Laws.{owned}
use Rattle.store.specs.Kept.{Kept}
use Rattle.wire.specs.declared.message.TheConstants.{BUFFER}
use Rattle.texts.specs.declared.values.Price.{Price}

-- ---- how many downloads

-- 64 reports more want one download more, where some are left
one_more_for : (n : ℕ) → 1 ≤ n → downloads_for (n + 64) ≡ downloads_for n + 1
one_more_for n h = omega arith

-- up to 64 want one
one_for : (n : ℕ) → n ≤ 64 → downloads_for n ≡ 1
one_for n h = omega arith

some_for : (n : ℕ) → 1 ≤ downloads_for n
some_for n = omega arith

level_is : (z : Standing) → z ≡ Level → is_level z ≡ true
level_is z e = ap is_level e

is_level_level : (z : Standing) → is_level z ≡ true → z ≡ Level
is_level_level Level h = refl
is_level_level (Behind hs) h = absurd cc
is_level_level (Overrun n) h = absurd cc

not_none : (xs : List ℕ) → xs ≢ [] → 1 ≤ length xs
not_none [] h = absurd (h refl)
not_none (x ∷ xs) h = omega arith

ask_of_download : (c n : ℕ) (buf : Vec ℕ Global) (z : Done) → call_of z ≡ call.Ask n buf → IsOfDownload c z
ask_of_download c n buf (done.Ask i r) e = tt
ask_of_download c n buf (done.Venue v) e = absurd cc
ask_of_download c n buf done.Up e = absurd cc
ask_of_download c n buf done.Lost e = absurd cc
ask_of_download c n buf (done.Live m r) e = absurd cc
ask_of_download c n buf (done.Recovered m r) e = absurd cc

module _ {M Q A : Type 0} (did : M → Asked → M → Type 0) (guided : Bool)
    (learns : M → ℕ → Option Price → Bool → M → Type 0) (answer : Answer Q A) (c : ℕ) where
  abbrev At : Ends M Q A → Type 0
  At b = Reached (made b.log) b.gateway.state b.desk

  -- what is reached stays so
  pub reached_by : (b e : Ends M Q A) → Downloads did guided learns answer c b e → At b → At e
  reached_by b e d (ps, v, r) =
      let more = run_of did guided learns answer b.gateway b.desk (map Made d.calls) e.gateway e.desk d.goes in (
        ps,
        v,
        subst (λ xs. Runs (fresh_state ps v) fresh xs e.gateway.state e.desk)
            (sym (ap made d.log ∙ made_more b.log d.calls))
            (runs_both (fresh_state ps v) fresh (made b.log) b.gateway.state b.desk d.calls e.gateway.state e.desk r
            (subst (λ xs. Runs b.gateway.state b.desk xs e.gateway.state e.desk)
            (made_more {Q = Q} {A = A} [] d.calls) more)),
      )

  -- ---- one download

  -- asked, or refused
  ask_leaves : (n : ℕ) (buf : Vec ℕ Global) (h : Message) (b a : Ends M Q A) → Passes did (call.Ask n buf) h b a → At b
      → IsOpen c (made b.log)
      → ((h ≡ []) × IsOpen c (made a.log)) ⊎ IsAsked c h (made a.log)
  ask_leaves n buf h b a x at was = by x.made x.is x.left x.adds
    where
      by : (z : Done) → call_of z ≡ call.Ask n buf → h ≡ left_by z → Adds did z b a
          → ((h ≡ []) × IsOpen c (made a.log)) ⊎ IsAsked c h (made a.log)
      by (done.Ask i r) e l adds = subst (λ j. ((j ≡ []) × IsOpen c (made a.log)) ⊎ IsAsked c j (made a.log)) (sym l)
          (ask_left did c i r b a adds at was)
      by z e l adds = absurd cc

  -- what a download of a partition says of both ends, whether it was one
  pub record Tried (p : Partition) (brought : Bool) (b e : Ends M Q A) : Type 0 where
    pub calls : Downloads did guided learns answer c b e
    pub line : At b → IsOpen c (made b.log) → IsOpen c (made e.log)
    pub whole : Ready c b → granted c b.gateway.state < 48 → (brought ≡ true) × Downloaded c p b e

  -- where memory was short nothing was asked, or the answer was not copied
  pub ask_tried : (n : ℕ) (buf : Vec ℕ Global) (b e : Ends M Q A)
      → (e ≡ b) ⊎ ((h : Message) × Passes did (call.Ask n buf) h b e) → Downloads did guided learns answer c b e
  ask_tried n buf b e (inl h) = no_downloads did guided learns answer c b e h
  ask_tried n buf b e (inr (h, x)) = passed_downloads did guided learns answer c (call.Ask n buf) h b e (ask_of_download c n buf) x

  pub ask_tried_line : (n : ℕ) (buf : Vec ℕ Global) (b e : Ends M Q A)
      → (e ≡ b) ⊎ ((h : Message) × Passes did (call.Ask n buf) h b e) → At b → IsOpen c (made b.log)
      → IsOpen c (made e.log)
  ask_tried_line n buf b e (inl h) at was = subst (λ (i : Ends M Q A). IsOpen c (made i.log)) (sym h) was
  ask_tried_line n buf b e (inr (h, x)) at was = by (ask_leaves n buf h b e x at was)
    where
      by : ((h ≡ []) × IsOpen c (made e.log)) ⊎ IsAsked c h (made e.log) → IsOpen c (made e.log)
      by (inl (n, o)) = o
      by (inr i) = asked_open did guided learns answer c h e i

  -- what stays where asking moved nothing
  from_asked : (p : Partition) (b a e : Ends M Q A) → Unmoved did c b a → Downloaded c p a e → Downloaded c p b e
  from_asked p b a e u d =
      let kept : a.gateway.state.venue.kept ≡ b.gateway.state.venue.kept = ap (λ (i : State). i.venue.kept) u.state in
      let here : place a.desk p ≡ place b.desk p = ap (λ (i : PerPartition Side). (at i p).place) u.sides in
      let same = missed_same did c p b a kept here in
      record {
        ready = d.ready;
        stays = record {
          kept = d.stays.kept ∙ kept;
          others = λ q n. d.stays.others q n ∙ ap (λ i. at i q) u.sides;
          granted = d.stays.granted ∙ ap (λ (i : State). granted c i + 1) u.state;
        };
        brought = elim d.brought [
          | inl (l, n) ↦ inl (l, subst (λ xs. length xs ≤ 64) same n)
          | inr (st, some, n) ↦ inr (
            st ∙ ap (λ (i : PerPartition Side). (at i p).state) u.sides,
            some,
            subst (λ xs. length (missed c e.gateway.state e.desk p) + 64 ≡ length xs) same n,
          )
        ];
      }

  -- the partition is level behind it, or its place is another
  moved_on : (p : Partition) (b e : Ends M Q A) (d : Downloaded c p b e) (further : Bool)
      → (state_of e.desk p ≡ Level → further ≡ true) → (place e.desk p ≢ place b.desk p → further ≡ true)
      → further ≡ true
  moved_on p b e d further level moved = by d.brought
    where
      by : ((state_of e.desk p ≡ Level) × (length (missed c b.gateway.state b.desk p) ≤ 64))
          ⊎ ((state_of e.desk p ≡ state_of b.desk p) × (missed c e.gateway.state e.desk p ≢ [])
          × (length (missed c e.gateway.state e.desk p) + 64 ≡ length (missed c b.gateway.state b.desk p)))
          → further ≡ true
      by (inl (l, n)) = level l
      by (inr (st, some, n)) = moved (λ h. (
          let same : length (missed c e.gateway.state e.desk p) ≡ length (missed c b.gateway.state b.desk p) =
          ap length (missed_same did c p b e d.stays.kept h) in
          omega arith))

  module _ (p : Partition) (buf : Vec ℕ Global) (wide : nat_lt (length buf.items) BUFFER ≡ false) (h : Message)
      (b a : Ends M Q A) (x : Passes did (call.Ask (partition_code p) buf) h b a) where
    pub asks : Downloads did guided learns answer c b a
    asks = passed_downloads did guided learns answer c (call.Ask (partition_code p) buf) h b a
        (ask_of_download c (partition_code p) buf) x

    pub asks_line : At b → IsOpen c (made b.log) → IsOpen c (made a.log)
    asks_line at was = by (ask_leaves (partition_code p) buf h b a x at was)
      where
        by : ((h ≡ []) × IsOpen c (made a.log)) ⊎ IsAsked c h (made a.log) → IsOpen c (made a.log)
        by (inl (n, o)) = o
        by (inr i) = asked_open did guided learns answer c h a i

    pub not_asked : h ≡ [] → Tried p false b a
    not_asked n = record {
      calls = asks;
      line = asks_line;
      whole = λ r some.
          let w = (waits did c p buf h b a r wide x).0 in
          absurd (request_some p (place a.desk p) w.back (sym w.request ∙ n));
    }

    pub was_asked : h ≢ [] → At b → IsOpen c (made b.log) → IsAsked c h (made a.log)
    was_asked ne at was = by (ask_leaves (partition_code p) buf h b a x at was)
      where
        by : ((h ≡ []) × IsOpen c (made a.log)) ⊎ IsAsked c h (made a.log) → IsAsked c h (made a.log)
        by (inl (n, o)) = absurd (ne n)
        by (inr i) = i

    pub loads_line : (e : Ends M Q A) → h ≢ [] → (At a → IsAsked c h (made a.log) → IsOpen c (made e.log)) → At b
        → IsOpen c (made b.log) → IsOpen c (made e.log)
    loads_line e ne line at was = line (reached_by b a asks at) (was_asked ne at was)

    pub loads : (further : Bool) (e : Ends M Q A) → h ≢ [] → Downloads did guided learns answer c a e
        → (At a → IsAsked c h (made a.log) → IsOpen c (made e.log))
        → ((i : Partition) → Waiting c i h a → granted c a.gateway.state < 48 → Downloaded c i a e)
        → (state_of e.desk p ≡ Level → further ≡ true) → (place e.desk p ≢ place b.desk p → further ≡ true)
        → Tried p further b e
    loads further e ne calls line whole level moved = record {
      calls = more_downloads did guided learns answer c b a e asks calls;
      line = loads_line e ne line;
      whole = λ r some.
          let (w, u) = waits did c p buf h b a r wide x in
          let few : granted c a.gateway.state < 48 =
          subst (λ (i : State). granted c i < 48) (sym u.state) some in
          let d = from_asked p b a e u (whole p w few) in
          (moved_on p b e d further level moved, d);
    }

  -- ---- one after the other

  abbrev pub need : Ends M Q A → Partition → ℕ
  need b p = needed c b.gateway.state b.desk p

  abbrev pub used : Ends M Q A → ℕ
  used b = granted c b.gateway.state

  level_needs : (b : Ends M Q A) (p : Partition) → is_level (state_of b.desk p) ≡ true → need b p ≡ 0
  level_needs b p h = ap (λ i. cond i 0 (downloads_for (length (missed c b.gateway.state b.desk p)))) h

  behind_needs : (b : Ends M Q A) (p : Partition) → is_level (state_of b.desk p) ≡ false
      → need b p ≡ downloads_for (length (missed c b.gateway.state b.desk p))
  behind_needs b p h = ap (λ i. cond i 0 (downloads_for (length (missed c b.gateway.state b.desk p)))) h

  -- a download takes one from what a partition needs
  one_less : (p : Partition) (b e : Ends M Q A) → is_level (state_of b.desk p) ≡ false → Downloaded c p b e
      → need b p ≡ need e p + 1
  one_less p b e behind d = by d.brought
    where
      by : ((state_of e.desk p ≡ Level) × (length (missed c b.gateway.state b.desk p) ≤ 64))
          ⊎ ((state_of e.desk p ≡ state_of b.desk p) × (missed c e.gateway.state e.desk p ≢ [])
          × (length (missed c e.gateway.state e.desk p) + 64 ≡ length (missed c b.gateway.state b.desk p)))
          → need b p ≡ need e p + 1
      by (inl (l, n)) =
          let i = behind_needs b p behind in
          let j = level_needs e p (level_is (state_of e.desk p) l) in
          let k = one_for (length (missed c b.gateway.state b.desk p)) n in
          i ∙ (k ∙ sym (ap (λ z. z + 1) j))
      by (inr (st, some, n)) =
          let i = behind_needs b p behind in
          let j = behind_needs e p (ap is_level st ∙ behind) in
          let k = one_more_for (length (missed c e.gateway.state e.desk p)) (not_none (missed c e.gateway.state e.desk p) some) in
          i ∙ (ap downloads_for (sym n) ∙ (k ∙ sym (ap (λ z. z + 1) j)))

  -- behind so many downloads of a partition
  pub record Levelling (p : Partition) (b : Ends M Q A) (k : ℕ) (e : Ends M Q A) : Type 0 where
    pub calls : Downloads did guided learns answer c b e
    pub line : At b → IsOpen c (made b.log) → IsOpen c (made e.log)
    pub whole : Ready c b → used b + need b p ≤ 48
        → Ready c e × Stays c p k b e × (used e + need e p ≡ used b + need b p)

  -- behind all of them
  pub record Reaches (p : Partition) (b e : Ends M Q A) : Type 0 where
    pub calls : Downloads did guided learns answer c b e
    pub line : At b → IsOpen c (made b.log) → IsOpen c (made e.log)
    pub whole : Ready c b → used b + need b p ≤ 48 → Levelled c p b e

  pub none_yet : (p : Partition) (b : Ends M Q A) → Levelling p b 0 b
  none_yet p b = record {
    calls = no_downloads did guided learns answer c b b refl;
    line = λ at was. was;
    whole = λ r n. (r, record { kept = refl; others = λ q ne. refl; granted = omega arith }, refl);
  }

  module _ (p : Partition) (b : Ends M Q A) (k : ℕ) (e : Ends M Q A) (l : Levelling p b k e) where
    -- it is level
    pub is_there : is_level (state_of e.desk p) ≡ true → Reaches p b e
    is_there level = record {
      calls = l.calls;
      line = l.line;
      whole = λ r n.
          let (ready, stays, sum) = l.whole r n in
          let none = level_needs e p level in
          let spent = stays.granted in
          let all : k ≡ need b p = omega arith in
          record {
            ready = ready;
            stays = subst (λ i. Stays c p i b e) all stays;
            level = is_level_level (state_of e.desk p) level;
          };
    }

    -- as many as a day grants
    pub spent_all : 48 ≤ k → Reaches p b e
    spent_all many = record {
      calls = l.calls;
      line = l.line;
      whole = λ r n. by (is_level (state_of e.desk p)) refl r n;
    }
      where
        by : (i : Bool) → is_level (state_of e.desk p) ≡ i → Ready c b → used b + need b p ≤ 48 → Levelled c p b e
        by true h r n = (is_there h).whole r n
        by false h r n =
            let (ready, stays, sum) = l.whole r n in
            let i = behind_needs e p h in
            let j = some_for (length (missed c e.gateway.state e.desk p)) in
            let spent = stays.granted in
            absurd (omega arith)

    module _ (g : Ends M Q A) (behind : is_level (state_of e.desk p) ≡ false) (calls : Downloads did guided learns answer c e g)
        (line : At e → IsOpen c (made e.log) → IsOpen c (made g.log)) where
      both : Downloads did guided learns answer c b g
      both = more_downloads did guided learns answer c b e g l.calls calls

      pub both_line : At b → IsOpen c (made b.log) → IsOpen c (made g.log)
      both_line at was = line (reached_by b e l.calls at) (l.line at was)

      pub both_calls : Downloads did guided learns answer c b g
      both_calls = both

      few : Ready c b → used b + need b p ≤ 48 → used e < 48
      few r n =
          let (ready, stays, sum) = l.whole r n in
          let i = behind_needs e p behind in
          let j = some_for (length (missed c e.gateway.state e.desk p)) in
          omega arith

      -- one more was made
      pub one_made : (Ready c e → used e < 48 → (true ≡ true) × Downloaded c p e g) → Levelling p b (k + 1) g
      one_made whole = record {
        calls = both;
        line = both_line;
        whole = λ r n.
            let (ready, stays, sum) = l.whole r n in
            let d = (whole ready (few r n)).1 in
            let less = one_less p e g behind d in
            let more = d.stays.granted in
            let spent = stays.granted in (
              d.ready,
              record {
                kept = d.stays.kept ∙ stays.kept;
                others = λ q ne. d.stays.others q ne ∙ stays.others q ne;
                granted = omega arith;
              },
              omega arith,
            );
      }

      -- it brought nothing more
      pub none_made : (Ready c e → used e < 48 → (false ≡ true) × Downloaded c p e g) → Reaches p b g
      none_made whole = record {
        calls = both;
        line = both_line;
        whole = λ r n.
            let (ready, stays, sum) = l.whole r n in
            absurd (true≢false (sym (whole ready (few r n)).0));
      }

  -- ---- one partition after the other

  -- the downloads of one leave what another needs
  others_need : (p q : Partition) (n : ℕ) (b e : Ends M Q A) → Stays c p n b e → p ≢ q → need e q ≡ need b q
  others_need p q n b e s ne =
      let side = s.others q ne in
      let missed_as : missed c e.gateway.state e.desk q ≡ missed c b.gateway.state b.desk q =
      missed_same did c q b e s.kept (ap (λ (i : Side). i.place) side) in
      ap (λ (i : Side). cond (is_level i.state) 0 (downloads_for (length (missed c e.gateway.state e.desk q)))) side
      ∙ ap (λ xs. cond (is_level (state_of b.desk q)) 0 (downloads_for (length xs))) missed_as

  others_level : (p q : Partition) (n : ℕ) (b e : Ends M Q A) → Stays c p n b e → p ≢ q → state_of b.desk q ≡ Level
      → state_of e.desk q ≡ Level
  others_level p q n b e s ne l = ap (λ (i : Side). i.state) (s.others q ne) ∙ l

  -- where each partition was made level in turn, all are
  pub all_level : (b m n e : Ends M Q A) → At b → CanCatchUp c (made b.log) b.gateway.state b.desk
      → (Ready c b → used b + need b One ≤ 48 → Levelled c One b m)
      → (Ready c m → used m + need m Two ≤ 48 → Levelled c Two m n)
      → (Ready c n → used n + need n Three ≤ 48 → Levelled c Three n e)
      → CatchesUp c b e
  all_level b m n e at can first second third =
      let enough = can.enough in
      let one = first (record { reached = at; asks = can.asks }) (omega arith) in
      let a = one.stays.granted in
      let two_needs = others_need One Two (need b One) b m one.stays (λ z. cc) in
      let three_needs = others_need One Three (need b One) b m one.stays (λ z. cc) in
      let two = second one.ready (omega arith) in
      let d = two.stays.granted in
      let three_needs' = others_need Two Three (need m Two) m n two.stays (λ z. cc) in
      let three = third two.ready (omega arith) in
      let f = three.stays.granted in
      record {
        level = by one two three;
        granted = omega arith;
      }
    where
      by : Levelled c One b m → Levelled c Two m n → Levelled c Three n e → (p : Partition) → state_of e.desk p ≡ Level
      by one two three One =
          others_level Three One (need n Three) n e three.stays (λ z. cc)
          (others_level Two One (need m Two) m n two.stays (λ z. cc) one.level)
      by one two three Two = others_level Three Two (need n Three) n e three.stays (λ z. cc) two.level
      by one two three Three = three.level

  -- the line goes on, from one partition to the next
  pub lines_on : (b m e : Ends M Q A) → Downloads did guided learns answer c b m
      → (At b → IsOpen c (made b.log) → IsOpen c (made m.log)) → (At m → IsOpen c (made m.log) → IsOpen c (made e.log))
      → At b → IsOpen c (made b.log) → IsOpen c (made e.log)
  lines_on b m e d first second at was = second (reached_by b m d at) (first at was)

  -- a line that allows the log, and whose recovery channel did not fail, is open
  pub opened : (xs : List Done) → failed_in (after_log c xs quiet) ≡ false → Allowed c xs → IsOpen c xs
  opened xs h (x, ok) = (
    x,
    ok,
    λ e. true≢false (sym (ap is_failed e)
        ∙ (sym (ap failed_in ok) ∙ h)),
  )

  pub allows : (b e : Ends M Q A) → failed_in (after_log c (made b.log) quiet) ≡ false → At b
      → (At b → IsOpen c (made b.log) → IsOpen c (made e.log)) → Allowed c (made b.log) → Allowed c (made e.log)
  allows b e fine at line allowed = let (x, ok, n) = line at (opened (made b.log) fine allowed) in (x, ok)

  -- nothing can be asked where it did fail
  pub cannot : (b e : Ends M Q A) → failed_in (after_log c (made b.log) quiet) ≡ true
      → CanCatchUp c (made b.log) b.gateway.state b.desk → CatchesUp c b e
  cannot b e h can =
      let (x, ok, began) = can.asks.line in
      absurd (began (by x.opening (sym (ap failed_in ok) ∙ h)))
    where
      by : (o : Opening) → is_failed o ≡ true → o ≡ Failed
      by Awaited h = absurd cc
      by Open h = absurd cc
      by Failed h = refl

-- the calls of any value of both ends lead there from the start of a day
pub reached_of : {M Q A : Type 0} (meaning : M → Meaning) (did : M → Asked → M → Type 0) (guided : Bool)
    (learns : M → ℕ → Option Price → Bool → M → Type 0) (answer : Answer Q A)
    (b : Ends M Q A) → Ran meaning did guided learns answer b → Reached (made b.log) b.gateway.state b.desk
reached_of meaning did guided learns answer b r = (
  r.begins.participants,
  _,
  subst (λ s. Runs s fresh (made b.log) b.gateway.state b.desk) r.begins.is
      (run_of did guided learns answer r.first fresh b.log b.gateway b.desk r.goes),
)

pub reached_as : {M Q A : Type 0} (meaning : M → Meaning) (did : M → Asked → M → Type 0) (guided : Bool)
    (learns : M → ℕ → Option Price → Bool → M → Type 0) (answer : Answer Q A)
    (i b : Ends M Q A) → Ran meaning did guided learns answer i → i ≡ b → Reached (made b.log) b.gateway.state b.desk
reached_as {M} {Q} {A} meaning did guided learns answer i b r e =
    subst (λ (j : Ends M Q A). Reached (made j.log) j.gateway.state j.desk) e (reached_of meaning did guided learns answer i r)

-- what was answered of a log is so of the log
pub not_failed : {Q A : Type 0} (c : ℕ) (read log : List (Entry Q A)) (r : Bool) → read ≡ log
    → r ≡ failed_in (after_log c (made read) quiet) → r ≡ false → failed_in (after_log c (made log) quiet) ≡ false
not_failed c read log r e is fine = sym (ap (λ l. failed_in (after_log c (made l) quiet)) e) ∙ (sym is ∙ fine)
