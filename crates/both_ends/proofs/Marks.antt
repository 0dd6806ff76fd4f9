-- One partition of one owner, in numbers alone: its marks, and the moves on them. Assumes nothing.
use Rattle.std.proofs.Common.{◌≡◌, ℕ, ◌<◌, ◌≤◌, max, Bool, true, false, cond, leb, List, [], ◌∷◌, ◌++◌, length, refl, sym, subst, arith}
use Rattle.std.proofs.lemmas.Bool.{leb-true}
use Rattle.both_ends.proofs.Carrying.{Tells, Run, tells_grown, run_grown, run_up, run_past, run_on, run_more, run_last}
use Rattle.both_ends.proofs.Flights.{Passed, Next, next_within, there_within, hers_grown, passed_grown, passed_less, longer, same}
use Rattle.keyed.specs.Numbers.{under}
use Rattle.reports.specs.Tally.{is_of}
use Rattle.follower.specs.Numbers.{number_of}
use Rattle.follower.specs.Sides.{fallen, completed_state}
use Rattle.follower.specs.declared.heard.NumberedReport.{NumberedReport}
use Rattle.follower.specs.declared.side.Side.{Side}
use Rattle.follower.specs.declared.side.State.{State as Standing}
use Rattle.follower.specs.declared.side.State.TheVariants.{Level, Behind, Overrun}
use Rattle.reports.specs.declared.report.Entry.{Entry}
use Rattle.sessions.specs.Laws.{Grown}

-- a download of it: the number that it was asked from; what is under way of it, and how far that comes; how far it is to
-- go; and what came of it and may come again
pub record Load : Type 0 where
  pub from : ℕ
  pub loaded : List NumberedReport
  pub to : ℕ
  pub aim : ℕ
  pub again : List NumberedReport

-- none
abbrev pub unloaded : ℕ → Load
unloaded b = record { from = 0; loaded = []; to = 0; aim = b; again = [] }

-- one that was asked from a place
abbrev pub asked_from : ℕ → ℕ → Load
asked_from k b = record { from = k; loaded = []; to = 0; aim = b; again = [] }

-- what is stored of the partition; the follower's place and state there; how far was sent, and what is under way; how
-- far the line brought, and had brought at the up
pub record Marks : Type 0 where
  pub stored : List Entry
  pub side : Side
  pub sent : ℕ
  pub live : List NumberedReport
  pub brought : ℕ
  pub base : ℕ
  pub load : Load

-- numbers that rise from above one, up to another
abbrev pub Rising : ℕ → List NumberedReport → ℕ → Type 0
Rising a [] z = a ≤ z
Rising a (h ∷ hs) z = (a < number_of h) × Rising (number_of h) hs z

-- level: no report of the owner's is between the place and what was brought; behind: what is held is what was brought
-- since the up, but for what the place has reached; overrun: a report of the owner's passed, and none is between that, or
-- the place, and what was brought
abbrev pub SidedBy : Standing → ℕ → List Entry → ℕ → ℕ → ℕ → Type 0
SidedBy Level c l place y b = Passed c l place y
SidedBy (Behind hs) c l place y b = Run c l (max place b) hs y
SidedBy (Overrun n) c l place y b = (is_of c (under l n) ≡ true) × Passed c l (max place n) y

-- how far the hold goes behind a complete download, from the place: of what is overrun nothing is held
abbrev pub held_to : Standing → ℕ → ℕ → ℕ
held_to Level place y = y
held_to (Behind hs) place y = y
held_to (Overrun n) place y = place

-- a report of the owner's, at or below a place
pub record Known (c : ℕ) (l : List Entry) (place : ℕ) (h : NumberedReport) : Type 0 where
  pub tells : Tells c l h
  pub hers : is_of c (under l (number_of h)) ≡ true
  pub passed : number_of h ≤ place

abbrev pub AllKnown : ℕ → List Entry → ℕ → List NumberedReport → Type 0
AllKnown c l place [] = Unit {0}
AllKnown c l place (h ∷ hs) = Known c l place h × AllKnown c l place hs

-- what is under way of a download is a run from a number that the place has reached; it goes as far as covers the base
pub record Loaded (c : ℕ) (l : List Entry) (place base : ℕ) (d : Load) : Type 0 where
  pub starts : d.from ≤ place
  pub within : d.to ≤ length l
  pub covers : base ≤ d.aim
  pub aims : d.aim ≤ length l
  pub run : Run c l d.from d.loaded d.to
  pub known : AllKnown c l place d.again

-- what holds of the marks: what is under way is the run from what was brought to what was sent, and its numbers rise
pub record Whole (c : ℕ) (m : Marks) : Type 0 where
  pub within : m.brought ≤ length m.stored
  pub ahead : m.sent ≤ length m.stored
  pub based : m.base ≤ length m.stored
  pub run : Run c m.stored m.brought m.live m.sent
  pub rising : Rising m.brought m.live m.sent
  pub sided : SidedBy m.side.state c m.stored m.side.place m.brought m.base
  pub loaded : Loaded c m.stored m.side.place m.base m.load

rising_on : (a s n : ℕ) (hs : List NumberedReport) → s ≤ n → Rising a hs s → Rising a hs n
rising_on a s n [] le h = omega (arith, le, h)
rising_on a s n (x ∷ hs) le (lt, h) = (lt, rising_on (number_of x) s n hs le h)

rising_last : (a s : ℕ) (hs : List NumberedReport) (r : NumberedReport) → s < number_of r → Rising a hs s
    → Rising a (hs ++ r ∷ []) (number_of r)
rising_last a s [] r lt h = (omega (arith, h, lt), omega arith)
rising_last a s (x ∷ hs) r lt (above, h) = (above, rising_last (number_of x) s hs r lt h)

rising_down : (a b z : ℕ) (hs : List NumberedReport) → b ≤ a → Rising a hs z → Rising b hs z
rising_down a b z [] le h = omega (arith, le, h)
rising_down a b z (x ∷ hs) le (lt, h) = (omega (arith, le, lt), h)

module _ (c : ℕ) where
  known_on : (l l' : List Entry) (k k' : ℕ) (hs : List NumberedReport) → Grown l l' → k ≤ k' → AllKnown c l k hs
      → AllKnown c l' k' hs
  known_on l l' k k' [] g q h = tt
  known_on l l' k k' (x ∷ hs) g q (u, h) = (
    record {
      tells = tells_grown c l l' x g (there_within c l (number_of x) u.hers) u.tells;
      hers = hers_grown c l l' (number_of x) g u.hers;
      passed = (let w = u.passed in omega (arith, w, q));
    },
    known_on l l' k k' hs g q h,
  )

  -- more is stored, and the place moves on
  pub loaded_on : (l l' : List Entry) (k k' b : ℕ) (d : Load) → Grown l l' → k ≤ k' → Loaded c l k b d → Loaded c l' k' b d
  loaded_on l l' k k' b d g q h =
      let more = longer l l' g in
      record {
        starts = (let a = h.starts in omega (arith, a, q));
        within = (let a = h.within in omega (arith, a, more));
        covers = h.covers;
        aims = (let a = h.aims in omega (arith, a, more));
        run = run_grown c l l' d.from d.loaded d.to g h.within h.run;
        known = known_on l l' k k' d.again g q h.known;
      }

  pub none_loaded : (l : List Entry) (k b : ℕ) → b ≤ length l → Loaded c l k b (unloaded b)
  none_loaded l k b w = record {
    starts = omega arith;
    within = omega arith;
    covers = omega arith;
    aims = w;
    run = λ j lt le. absurd (omega (arith, lt, le));
    known = tt;
  }

  -- another download
  pub reloaded : (m : Marks) (d : Load) → Loaded c m.stored m.side.place m.base d → Whole c m → Whole c (record m { load = d })
  reloaded m d l h = record {
    within = h.within;
    ahead = h.ahead;
    based = h.based;
    run = h.run;
    rising = h.rising;
    sided = h.sided;
    loaded = l;
  }

  -- ---- the gateway's

  sided_grown : (z : Standing) (l l' : List Entry) (place y b : ℕ) → Grown l l' → y ≤ length l → SidedBy z c l place y b
      → SidedBy z c l' place y b
  sided_grown Level l l' place y b g w h = passed_grown c l l' place y g w h
  sided_grown (Behind hs) l l' place y b g w h = run_grown c l l' (max place b) hs y g w h
  sided_grown (Overrun n) l l' place y b g w h =
      (hers_grown c l l' n g h.0, passed_grown c l l' (max place n) y g w h.1)

  -- more is stored
  pub stored_more : (m : Marks) (l : List Entry) → Grown m.stored l → Whole c m → Whole c (record m { stored = l })
  stored_more m l g h =
      let more = longer m.stored l g in
      record {
        within = (let a = h.within in omega (arith, a, more));
        ahead = (let a = h.ahead in omega (arith, a, more));
        based = (let a = h.based in omega (arith, a, more));
        run = run_grown c m.stored l m.brought m.live m.sent g h.ahead h.run;
        rising = h.rising;
        sided = sided_grown m.side.state m.stored l m.side.place m.brought m.base g h.within h.sided;
        loaded = loaded_on m.stored l m.side.place m.side.place m.base m.load g (omega arith) h.loaded;
      }

  -- how far was sent moves past reports of others
  pub sent_past : (m : Marks) (n : ℕ) → n ≤ length m.stored → m.sent ≤ n → Passed c m.stored m.sent n → Whole c m
      → Whole c (record m { sent = n })
  sent_past m n w up p h = record {
    within = h.within;
    ahead = w;
    based = h.based;
    run = run_on c m.stored m.brought m.live m.sent n p h.run;
    rising = rising_on m.brought m.sent n m.live up h.rising;
    sided = h.sided;
    loaded = h.loaded;
  }

  -- a report is sent
  pub sent_more : (m : Marks) (r : NumberedReport) → Tells c m.stored r → m.sent < number_of r
      → Next c m.stored m.sent (number_of r) → Whole c m
      → Whole c (record m { live = m.live ++ r ∷ []; sent = number_of r })
  sent_more m r t lt x h = record {
    within = h.within;
    ahead = next_within c m.stored m.sent (number_of r) x;
    based = h.based;
    run = run_last c m.stored m.brought m.live m.sent r t x h.run;
    rising = rising_last m.brought m.sent m.live r lt h.rising;
    sided = h.sided;
    loaded = h.loaded;
  }

  -- ---- the follower's

  -- the line is up, or lost: behind, with nothing held
  pub fallen_back : (m : Marks) → Whole c m → Whole c (record m { side = fallen m.side; base = m.brought; load = unloaded m.brought })
  fallen_back m h = record {
    within = h.within;
    ahead = h.ahead;
    based = h.within;
    run = h.run;
    rising = h.rising;
    sided = λ j lt le. absurd (omega (arith, lt, le));
    loaded = none_loaded m.stored m.side.place m.brought h.within;
  }

  -- a report is folded, of the line or of a download
  pub folded_to : (m : Marks) (n : ℕ) → m.side.place ≤ n → Whole c m
      → Whole c (record m { side = record m.side { place = n } })
  folded_to m n le h = record {
    within = h.within;
    ahead = h.ahead;
    based = h.based;
    run = h.run;
    rising = h.rising;
    sided = by m.side.state h.sided;
    loaded = loaded_on m.stored m.stored m.side.place n m.base m.load (same m.stored) le h.loaded;
  }
    where
      by : (z : Standing) → SidedBy z c m.stored m.side.place m.brought m.base
          → SidedBy z c m.stored n m.brought m.base
      by Level p = passed_less c m.stored m.side.place n m.brought m.brought le (omega arith) p
      by (Behind hs) r =
          run_up c m.stored (max m.side.place m.base) (max n m.base) hs m.brought (omega (arith, le)) r
      by (Overrun k) (hers, p) = (
        hers,
        passed_less c m.stored (max m.side.place k) (max n k) m.brought m.brought (omega (arith, le)) (omega arith) p,
      )

  -- the hold is folded, and the partition level, or overrun where what passed is above the place
  pub completed_to : (m : Marks) (n : ℕ) → m.side.place ≤ n
      → Passed c m.stored n (held_to m.side.state m.side.place m.brought) → Whole c m
      → Whole c (record m { side = record { place = n; state = completed_state m.side.state n } })
  completed_to m n le p h = record {
    within = h.within;
    ahead = h.ahead;
    based = h.based;
    run = h.run;
    rising = h.rising;
    sided = by m.side.state p h.sided;
    loaded = loaded_on m.stored m.stored m.side.place n m.base m.load (same m.stored) le h.loaded;
  }
    where
      over : (k : ℕ) (b : Bool) → leb k n ≡ b → SidedBy (Overrun k) c m.stored m.side.place m.brought m.base
          → SidedBy (cond b Level (Overrun k)) c m.stored n m.brought m.base
      over k true e (hers, p) =
          let q = leb-true k n e in
          passed_less c m.stored (max m.side.place k) n m.brought m.brought (omega (arith, le, q)) (omega arith) p
      over k false e (hers, p) = (
        hers,
        passed_less c m.stored (max m.side.place k) (max n k) m.brought m.brought (omega (arith, le)) (omega arith) p,
      )

      by : (z : Standing) → Passed c m.stored n (held_to z m.side.place m.brought)
          → SidedBy z c m.stored m.side.place m.brought m.base
          → SidedBy (completed_state z n) c m.stored n m.brought m.base
      by Level p s = p
      by (Behind hs) p s = p
      by (Overrun k) p s = over k (leb k n) refl s

  -- what is under way comes: it is the next
  module _ (m : Marks) (r : NumberedReport) (rs : List NumberedReport) (h : Whole c (record m { live = r ∷ rs })) where
    abbrev pub mark : ℕ
    mark = max m.brought (number_of r)

    pub comes_next : Tells c m.stored r × Next c m.stored m.brought (number_of r)
    comes_next = (h.run.0, h.run.1)

    come_to : (side : Side) (base : ℕ) (d : Load) → base ≤ length m.stored → Loaded c m.stored side.place base d
        → SidedBy side.state c m.stored side.place mark base
        → Whole c (record m { side = side; live = rs; brought = mark; base = base; load = d })
    come_to side base d w ld s = record {
      within = (let a = next_within c m.stored m.brought (number_of r) comes_next.1 in let b = h.within in omega (arith, a, b));
      ahead = h.ahead;
      based = w;
      run = h.run.2;
      rising = (let lt = h.rising.0 in rising_down (number_of r) mark m.sent rs (omega (arith, lt)) h.rising.1);
      sided = s;
      loaded = ld;
    }

    -- the place has reached it
    pub passed_by : number_of r ≤ m.side.place → Whole c (record m { live = rs; brought = mark })
    passed_by le = come_to m.side m.base m.load h.based h.loaded (by m.side.state h.sided)
      where
        by : (z : Standing) → SidedBy z c m.stored m.side.place m.brought m.base
            → SidedBy z c m.stored m.side.place mark m.base
        by Level p = λ j lt q. p j lt (omega (arith, lt, q, le))
        by (Behind hs) s =
            run_past c m.stored (max m.side.place m.base) hs m.brought (number_of r) (omega (arith, le)) s
        by (Overrun n) (hers, p) = (hers, λ j lt q. p j lt (omega (arith, lt, q, le)))

    -- it is held
    pub held_back : (hs : List NumberedReport) → m.side.state ≡ Behind hs
        → Whole c (record m { side = record m.side { state = Behind (hs ++ r ∷ []) }; live = rs; brought = mark })
    held_back hs e = come_to (record m.side { state = Behind (hs ++ r ∷ []) }) m.base m.load h.based h.loaded
        (run_more c m.stored (max m.side.place m.base) hs m.brought r comes_next.0 comes_next.1
        (subst (λ z. SidedBy z c m.stored m.side.place m.brought m.base) e h.sided))

    -- it passes: what passed is no lower
    pub passes : (n : ℕ) → is_of c (under m.stored n) ≡ true → number_of r ≤ n
        → Whole c (record m { side = record m.side { state = Overrun n }; live = rs; brought = mark })
    passes n hers le = come_to (record m.side { state = Overrun n }) m.base m.load h.based h.loaded
        (hers, λ j lt q. absurd (let above = h.rising.0 in omega (arith, lt, q, above, le)))

    -- nobody is there to take it
    pub missed : m.side.state ≡ Behind [] → Whole c (record m { live = rs; brought = mark; base = mark; load = unloaded mark })
    missed e =
        let w : mark ≤ length m.stored =
        (let a = next_within c m.stored m.brought (number_of r) comes_next.1 in let b = h.within in omega (arith, a, b)) in
        come_to m.side mark (unloaded mark) w (none_loaded m.stored m.side.place mark w) (subst (λ z. SidedBy z c m.stored m.side.place mark mark) (sym e)
        (λ j lt le. absurd (omega (arith, lt, le))))

  -- where nothing is held, the base may move on
  pub based_anew : (m : Marks) → m.side.state ≡ Behind [] → Whole c m → Whole c (record m { base = m.brought; load = unloaded m.brought })
  based_anew m e h = record {
    within = h.within;
    ahead = h.ahead;
    based = h.within;
    run = h.run;
    rising = h.rising;
    sided = subst (λ z. SidedBy z c m.stored m.side.place m.brought m.brought) (sym e)
        (λ j lt le. absurd (omega (arith, lt, le)));
    loaded = none_loaded m.stored m.side.place m.brought h.within;
  }

  -- ---- a download

  -- it is asked from the place
  pub asked : (l : List Entry) (k b : ℕ) → b ≤ length l → Loaded c l k b (asked_from k b)
  asked l k b w = record {
    starts = omega arith;
    within = omega arith;
    covers = omega arith;
    aims = w;
    run = λ j lt le. absurd (omega (arith, lt, le));
    known = tt;
  }

  module _ (l : List Entry) (k b : ℕ) (d : Load) (h : Loaded c l k b d) where
    -- it has begun, and is to go up to a number
    pub begun : (n : ℕ) → k ≤ length l → b ≤ n → n ≤ length l
        → Loaded c l k b (record d { loaded = []; to = d.from; aim = n })
    begun n w q v = record {
      starts = h.starts;
      within = (let a = h.starts in omega (arith, a, w));
      covers = q;
      aims = v;
      run = λ j lt le. absurd (omega (arith, lt, le));
      known = h.known;
    }

    -- it hands out the owner's next report
    pub handed_out : (r : NumberedReport) → Tells c l r → Next c l d.to (number_of r)
        → Loaded c l k b (record d { loaded = d.loaded ++ r ∷ []; to = number_of r })
    handed_out r t x = record {
      starts = h.starts;
      within = next_within c l d.to (number_of r) x;
      covers = h.covers;
      aims = h.aims;
      run = run_last c l d.from d.loaded d.to r t x h.run;
      known = h.known;
    }

    -- it has gone as far as it is to
    pub completed : Passed c l d.to d.aim → Loaded c l k b (record d { to = d.aim })
    completed p = record {
      starts = h.starts;
      within = h.aims;
      covers = h.covers;
      aims = h.aims;
      run = run_on c l d.from d.loaded d.to d.aim p h.run;
      known = h.known;
    }

    -- what is under way of it comes: it is the next, and may come again
    pub load_next : (r : NumberedReport) (rs : List NumberedReport) → d.loaded ≡ r ∷ rs
        → Tells c l r × Next c l d.from (number_of r)
    load_next r rs e = let z = subst (λ hs. Run c l d.from hs d.to) e h.run in (z.0, z.1)

    pub load_came : (r : NumberedReport) (rs : List NumberedReport) → d.loaded ≡ r ∷ rs → number_of r ≤ k
        → Loaded c l k b (record d { from = max d.from (number_of r); loaded = rs; again = r ∷ d.again })
    load_came r rs e le =
        let z = subst (λ hs. Run c l d.from hs d.to) e h.run in
        record {
          starts = (let a = h.starts in omega (arith, a, le));
          within = h.within;
          covers = h.covers;
          aims = h.aims;
          run = z.2;
          known = (record { tells = z.0; hers = z.1.hers; passed = le }, h.known);
        }
