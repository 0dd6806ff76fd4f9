-- What a report that came makes of both ends. Assumes nothing.
use Rattle.std.specs.List.{fold as fold_each}
use Rattle.std.proofs.Common.{◌≡◌, ◌≢◌, ◌⊎◌, inl, inr, ℕ, ◌<◌, ◌≤◌, max, true, cond, List, [], ◌∷◌, ◌++◌, Ok, Result, length, refl, sym, ap, ◌∙◌, subst, arith}
use Rattle.std.proofs.lemmas.Bool.{cases_lt, le-leb, lt-leb}
use Rattle.codes.specs.declared.session.Partition.{Partition}
use Rattle.codes.specs.declared.session.Partition.TheVariants.{One, Two, Three}
use Rattle.codes.specs.Session.{same_partition}
use Rattle.both_ends.proofs.Carrying.{Tells, Run, Front, reports_of, run_up, run_down, same_or_not}
use Rattle.both_ends.proofs.Marks.{Whole, folded_to, comes_next, passed_by, held_back, passes}
use Rattle.both_ends.proofs.Caught.{Folded, folds}
use Rattle.both_ends.proofs.Flights.{Passed, Next}
use Rattle.follower.specs.Numbers.{number_of}
use Rattle.both_ends.proofs.Keeping.{Taking, Only, or_one, Joined, marks_of, place_in, channelled_live}
use Rattle.both_ends.specs.Allowed.{Line}
use Rattle.both_ends.specs.Tallied.{there, Tallied}
use Rattle.follower.specs.Folding.{Reached, reached, moved, caught_one, caught_next}
use Rattle.follower.specs.Following.{Following, download_of}
use Rattle.follower.specs.declared.heard.NumberedReport.{NumberedReport}
use Rattle.follower.specs.declared.side.Side.{Side}
use Rattle.follower.specs.declared.side.State.{State as Standing}
use Rattle.follower.specs.declared.side.State.TheVariants.{Behind, Overrun}
use Rattle.keyed.specs.Numbers.{under}
use Rattle.limits.specs.declared.TheConstants.{ORDERS}
use Rattle.partitions.proofs.Written.{at_written, by_partition, or_as_it_was}
use Rattle.partitions.specs.PerPartition.{at, with_at}
use Rattle.partitions.specs.declared.per_partition.PerPartition.{PerPartition}
use Rattle.reports.specs.Fold.{Knowledge, fold}
use Rattle.reports.specs.Tally.{is_of, tally_to}
use Rattle.reports.specs.declared.report.Entry.{Entry}
use Rattle.reports.specs.declared.standings.FoldRefusal.{FoldRefusal}
use Rattle.sessions.specs.Sessions.{download}
use Rattle.sessions.specs.declared.session.Session.{Session}
use Rattle.std.specs.FinMap.{get}
use Rattle.store.specs.Kept.{Kept}
use Rattle.venue.specs.Books.{Books, Sound}

-- a place is 0 or the number of a report of the owner's
abbrev pub Placed : ℕ → Kept → (Partition → ℕ) → Type 0
Placed c k place = (p : Partition) → (place p ≡ 0) ⊎ (is_of c (under (at k p) (place p)) ≡ true)

abbrev to_place : Following → Partition → ℕ → Side
to_place f p n = record (at f.sides p) { place = n }

-- after a report was folded
abbrev pub after_fold : Following → Partition → ℕ → Knowledge → Following
after_fold f p n k = record f { standings = k; sides = with_at f.sides p (to_place f p n) }

module _ (c : ℕ) (v : Books) (sound : Sound v) (few : length v.rows ≤ ORDERS) where
  -- the owner's next report of a partition is folded, and the place moves to it
  tallied_on : (k : Knowledge) (place place' : Partition → ℕ) (p : Partition) (n : ℕ) (e : Entry)
      (h : Folded c v.kept k place p n e) → place' p ≡ n → ((q : Partition) → p ≢ q → place' q ≡ place q)
      → Tallied c v.kept k place → Tallied c v.kept h.after place'
  tallied_on k place place' p n e h here others t q m = by (same_or_not p q)
    where
      by : (p ≡ q) ⊎ (p ≢ q) → there q (get h.after m) ≡ get (tally_to q c (at v.kept q) (place' q)) m
      by (inl s) =
          subst (λ u. there u (get h.after m) ≡ get (tally_to u c (at v.kept u) (place' u)) m) s
          (h.here m ∙ ap (λ z. get (tally_to p c (at v.kept p) z) m) (sym here))
      by (inr s) =
          h.others q (λ z. s (sym z)) m ∙ t q m ∙ ap (λ z. get (tally_to q c (at v.kept q) z) m) (sym (others q s))

  -- what folding the owner's next report leaves of what is known, and of the places
  pub record Moved (f : Following) (p : Partition) (h : NumberedReport) : Type 0 where
    pub after : Knowledge
    pub taken : fold p h.told f.standings ≡ Ok after
    pub known : Tallied c v.kept after (place_in (after_fold f p (number_of h) after))
    pub placed : Placed c v.kept (place_in (after_fold f p (number_of h) after))

  pub moves : (f : Following) (p : Partition) (h : NumberedReport) → Tallied c v.kept f.standings (place_in f)
      → Placed c v.kept (place_in f) → place_in f p < number_of h → Next c (at v.kept p) (place_in f p) (number_of h)
      → Tells c (at v.kept p) h → Moved f p h
  moves f p h t pl lt x tl =
      let n = number_of h in
      let r = folds v.instruments v.rows v.kept c f.standings
      (place_in f) p n tl.entry sound.recorded few t lt x.between tl.stands tl.owner in
      let P : Partition → Side → Type 0 = λ q y. (y.place ≡ 0) ⊎ (is_of c (under (at v.kept q) y.place) ≡ true) in
      record {
        after = r.after;
        taken = ap (λ (i : NumberedReport). fold p i.told f.standings) tl.told ∙ r.taken;
        known = tallied_on f.standings (place_in f) (place_in (after_fold f p n r.after)) p n tl.entry r
            (ap (λ (y : Side). y.place) (at_written f.sides p (to_place f p n)))
            (by_partition (λ q y. p ≢ q → y.place ≡ place_in f q) f.sides p (to_place f p n) (λ ne. absurd (ne refl))
            (λ q ne z. refl))
            t;
        placed = or_as_it_was P f.sides p (to_place f p n) (inr x.hers) pl;
      }

-- ---- a report comes: the marks and the hold that it moves

-- what the line brought of its partition moves to it
abbrev pub popped : PerPartition ℕ → Partition → NumberedReport → PerPartition ℕ
popped y p h = with_at y p (max (at y p) (number_of h))

pub taken_popped : (place : Partition → ℕ) (t u : Taking) (y : PerPartition ℕ) (p : Partition) (h : NumberedReport)
    → Only p (number_of h) u → ((q : Partition) (i : ℕ) → t q i → i ≤ max (place q) (at y q)) → (q : Partition) (i : ℕ)
    → or_one t u q i → i ≤ max (place q) (at (popped y p h) q)
taken_popped place t u y p h only was q i (inl a) =
    let v = was q i a in
    let g = or_as_it_was (λ r z. at y r ≤ z) y p (max (at y p) (number_of h)) (omega arith) (λ r. omega arith) q in
    omega (arith, v, g)
taken_popped place t u y p h only was q i (inr a) =
    let (e, z) = only q i a in
    subst (λ r. i ≤ max (place r) (at (popped y p h) r)) e
    (let v : at (popped y p h) p ≡ max (at y p) (number_of h) = at_written y p (max (at y p) (number_of h)) in omega
    (arith, v, z))

-- its state is another
abbrev pub with_state : Following → Partition → Standing → Following
with_state f p z = record f { sides = with_at f.sides p (record (at f.sides p) { state = z }) }

pub state_places : (f : Following) (p : Partition) (z : Standing) (q : Partition) → place_in (with_state f p z) q
    ≡ place_in f q
state_places f p z =
    or_as_it_was (λ q y. y.place ≡ place_in f q) f.sides p (record (at f.sides p) { state = z }) refl (λ q. refl)

-- ---- a fold moves nothing else

module _ (c : ℕ) (k : Kept) (s : Session) where
  pub places_up : (f : Following) (p : Partition) (n : ℕ) (w : Knowledge) → place_in f p ≤ n → (q : Partition)
      → place_in f q ≤ place_in (after_fold f p n w) q
  places_up f p n w le = or_as_it_was (λ q y. place_in f q ≤ y.place) f.sides p (to_place f p n) le (λ q. omega arith)

  abbrev pub joined_folded : (f : Following) (p : Partition) (n : ℕ) (w : Knowledge) (x : Line) (t : Taking)
      → place_in f p ≤ n → Joined c k s f x t → Joined c k s (after_fold f p n w) x t
  joined_folded f p n w x t le u =
      let up = places_up f p n w le in
      record {
        y = u.y;
        b = u.b;
        ds = u.ds;
        parts = or_as_it_was (λ q z. Whole c (record (marks_of k s f x u.y u.b u.ds q) { side = z })) f.sides p (to_place f p n)
            (folded_to c (marks_of k s f x u.y u.b u.ds p) n le (u.parts p)) u.parts;
        taken = λ q i h. let a = u.taken q i h in let z = up q in omega (arith, a, z);
        staged = u.staged;
      }

  -- ---- the next report under way comes

  module _ (f : Following) (x : Line) (rest : List (List ℕ)) (t : Taking) (p : Partition) (h : NumberedReport)
      (a : Joined c k s f x t) (fr : Front p h x.live rest) where
    -- the marks of a partition, but for what is under way
    pub with_live : (q : Partition) (hs : List NumberedReport) → reports_of q x.live ≡ hs
        → Whole c (record (marks_of k s f x a.y a.b a.ds q) { live = hs })
    with_live q hs e = subst (λ z. Whole c (record (marks_of k s f x a.y a.b a.ds q) { live = z })) e (a.parts q)

    pub in_front : Whole c (record (marks_of k s f x a.y a.b a.ds p) { live = h ∷ reports_of p rest })
    in_front = with_live p (h ∷ reports_of p rest) fr.here

    -- it is the owner's next
    pub is_next : Tells c (at k p) h × Next c (at k p) (at a.y p) (number_of h)
    is_next = comes_next c (marks_of k s f x a.y a.b a.ds p) h (reports_of p rest) in_front

    -- the place has reached it
    pub joined_passed : (u : Taking) → Only p (number_of h) u → number_of h ≤ place_in f p
        → Joined c k s f (record x { live = rest }) (or_one t u)
    joined_passed u only le = record {
      y = popped a.y p h;
      b = a.b;
      ds = a.ds;
      parts = by_partition (λ q z. Whole c (record (marks_of k s f (record x { live = rest }) a.y a.b a.ds q) { brought = z }))
          a.y p (max (at a.y p) (number_of h))
          (passed_by c (marks_of k s f x a.y a.b a.ds p) h (reports_of p rest) in_front le)
          (λ q ne. with_live q (reports_of q rest) (fr.others q ne));
      taken = taken_popped (place_in f) t u a.y p h only a.taken;
      staged = channelled_live x.opening (download_of f) a.ds (download s) x rest a.staged;
    }

    other_mark : (n : ℕ) (q : Partition) → p ≢ q → at (with_at a.y p n) q ≡ at a.y q
    other_mark n = by_partition (λ q z. p ≢ q → z ≡ at a.y q) a.y p n (λ ne. absurd (ne refl)) (λ q ne z. refl)

    -- it is held, or passes: the state is another
    joined_stated : (u : Taking) → Only p (number_of h) u → (z : Standing)
        → Whole c (record (marks_of k s f x a.y a.b a.ds p) {
          side = record (at f.sides p) { state = z };
          live = reports_of p rest;
          brought = max (at a.y p) (number_of h);
        }) → Joined c k s (with_state f p z) (record x { live = rest }) (or_one t u)
    joined_stated u only z whole =
        let g = with_state f p z in
        let same = state_places f p z in
        let mark = max (at a.y p) (number_of h) in
        let x' : Line = record x { live = rest } in
        record {
          y = popped a.y p h;
          b = a.b;
          ds = a.ds;
          parts = by_partition (λ q z. Whole c (record (marks_of k s f x' (popped a.y p h) a.b a.ds q) { side = z })) f.sides p
              (record (at f.sides p) { state = z })
              (subst (λ i. Whole c (record (marks_of k s f x' a.y a.b a.ds p) {
                side = record (at f.sides p) { state = z };
                brought = i;
              })) (sym (at_written a.y p mark)) whole)
              (λ q ne. subst (λ i. Whole c (record (marks_of k s f x' a.y a.b a.ds q) { brought = i }))
              (sym (other_mark mark q ne)) (with_live q (reports_of q rest) (fr.others q ne)));
          taken = λ q i w. let v = taken_popped (place_in f) t u a.y p h only a.taken q i w in let e : place_in g q
              ≡ place_in f q = same q in omega (arith, v, e);
          staged = channelled_live x.opening (download_of f) a.ds (download s) x rest a.staged;
        }

    -- it is held
    pub joined_held : (u : Taking) → Only p (number_of h) u → (hs : List NumberedReport) → (at f.sides p).state ≡ Behind hs
        → Joined c k s (with_state f p (Behind (hs ++ h ∷ []))) (record x { live = rest }) (or_one t u)
    joined_held u only hs e = joined_stated u only (Behind (hs ++ h ∷ []))
        (held_back c (marks_of k s f x a.y a.b a.ds p) h (reports_of p rest) in_front hs e)

    -- it passes
    pub joined_overrun : (u : Taking) → Only p (number_of h) u → (n : ℕ) → is_of c (under (at k p) n) ≡ true
        → number_of h ≤ n → Joined c k s (with_state f p (Overrun n)) (record x { live = rest }) (or_one t u)
    joined_overrun u only n hers le = joined_stated u only (Overrun n)
        (passes c (marks_of k s f x a.y a.b a.ds p) h (reports_of p rest) in_front n hers le)

-- ---- the hold is folded

pub tallied_as : (c : ℕ) (k : Kept) (w : Knowledge) (pl pl' : Partition → ℕ) → ((q : Partition) → pl' q ≡ pl q)
    → Tallied c k w pl → Tallied c k w pl'
tallied_as c k w pl pl' e t q m = t q m ∙ ap (λ z. get (tally_to q c (at k q) z) m) (sym (e q))

abbrev moved_to : (Partition → ℕ) → Partition → ℕ → Partition → ℕ
moved_to pl p n q = cond (same_partition p q) n (pl q)

moved_here : (pl : Partition → ℕ) (p : Partition) (n : ℕ) → moved_to pl p n p ≡ n
moved_here pl One n = refl
moved_here pl Two n = refl
moved_here pl Three n = refl

moved_other : (pl : Partition → ℕ) (p : Partition) (n : ℕ) (q : Partition) → p ≢ q → moved_to pl p n q ≡ pl q
moved_other pl One n One ne = absurd (ne refl)
moved_other pl One n Two ne = refl
moved_other pl One n Three ne = refl
moved_other pl Two n One ne = refl
moved_other pl Two n Two ne = absurd (ne refl)
moved_other pl Two n Three ne = refl
moved_other pl Three n One ne = refl
moved_other pl Three n Two ne = refl
moved_other pl Three n Three ne = absurd (ne refl)

module _ (c : ℕ) (v : Books) (sound : Sound v) (few : length v.rows ≤ ORDERS) where
  -- what is known and the place once held reports are folded in their order: none is refused
  pub record Reaches (w : Knowledge) (pl : Partition → ℕ) (p : Partition) (hs : List NumberedReport) (y : ℕ) : Type 0 where
    pub after : Reached
    pub done : fold_each (caught_next p) (Ok (reached w (pl p))) hs ≡ Ok after
    pub known : (pl' : Partition → ℕ) → pl' p ≡ after.place → ((q : Partition) → p ≢ q → pl' q ≡ pl q)
        → Tallied c v.kept after.known pl'
    pub placed : (after.place ≡ 0) ⊎ (is_of c (under (at v.kept p) after.place) ≡ true)
    pub up : pl p ≤ after.place
    pub passed : Passed c (at v.kept p) after.place y

  or_else : (p q : Partition) (pl pl' : Partition → ℕ) → pl' p ≡ pl p → ((u : Partition) → p ≢ u → pl' u ≡ pl u)
      → (u : Partition) → pl' u ≡ pl u
  or_else p q pl pl' here others u = by p u here others
    where
      by : (p u : Partition) → pl' p ≡ pl p → ((u : Partition) → p ≢ u → pl' u ≡ pl u) → pl' u ≡ pl u
      by One One h o = h
      by One Two h o = o Two (λ e. cc)
      by One Three h o = o Three (λ e. cc)
      by Two One h o = o One (λ e. cc)
      by Two Two h o = h
      by Two Three h o = o Three (λ e. cc)
      by Three One h o = o One (λ e. cc)
      by Three Two h o = o Two (λ e. cc)
      by Three Three h o = h

  -- the first is at or below the place
  skipped : (w : Knowledge) (k : ℕ) (p : Partition) (g : NumberedReport) → number_of g ≤ k
      → caught_one p (reached w k) g ≡ Ok (reached w k)
  skipped w k p g le =
      ap (λ b. cond b (Ok (reached w k)) (moved (number_of g) (fold p g.told w))) (le-leb (number_of g) k le)

  -- or it is the next
  folded_next : (w : Knowledge) (k : ℕ) (p : Partition) (g : NumberedReport) (w' : Knowledge) → k < number_of g
      → fold p g.told w ≡ Ok w' → caught_one p (reached w k) g ≡ Ok (reached w' (number_of g))
  folded_next w k p g w' lt q =
      ap (λ b. cond b (Ok (reached w k)) (moved (number_of g) (fold p g.told w))) (lt-leb (number_of g) k lt)
      ∙ ap (moved (number_of g)) q

  pub reaches : (w : Knowledge) (pl : Partition → ℕ) (p : Partition) (hs : List NumberedReport) (y : ℕ) → Tallied c v.kept w pl
      → (pl p ≡ 0) ⊎ (is_of c (under (at v.kept p) (pl p)) ≡ true) → Run c (at v.kept p) (pl p) hs y
      → Reaches w pl p hs y
  reaches w pl p [] y t z h = record {
    after = reached w (pl p);
    done = refl;
    known = λ pl' here others. tallied_as c v.kept w pl pl' (or_else p p pl pl' here others) t;
    placed = z;
    up = omega arith;
    passed = h;
  }
  reaches w pl p (g ∷ hs) y t z (tl, x, r) = elim (cases_lt (pl p) (number_of g)) [
    | inr le ↦
        let on = reaches w pl p hs y t z (run_down c (at v.kept p) (pl p) (max (pl p) (number_of g)) hs y
        (λ j lt q. absurd (omega (arith, lt, q, le))) r) in
        record {
          after = on.after;
          done = ap (λ (a : Result Reached FoldRefusal). fold_each (caught_next p) a hs) (skipped w (pl p) p g le) ∙ on.done;
          known = on.known;
          placed = on.placed;
          up = on.up;
          passed = on.passed;
        }
    | inl lt ↦
        let n = number_of g in
        let f = folds v.instruments v.rows v.kept c w pl p n tl.entry sound.recorded few t lt x.between tl.stands tl.owner in
        let here = moved_here pl p n in
        let apart = moved_other pl p n in
        let now = tallied_on c v sound few w pl (moved_to pl p n) p n tl.entry f here apart t in
        let on = reaches f.after (moved_to pl p n) p hs y now
        (inr (subst (λ u. is_of c (under (at v.kept p) u) ≡ true) (sym here) x.hers))
        (subst (λ u. Run c (at v.kept p) u hs y) (sym here)
        (run_up c (at v.kept p) (max (pl p) n) n hs y (omega (arith, lt)) r)) in
        record {
          after = on.after;
          done =
              ap (λ (a : Result Reached FoldRefusal). fold_each (caught_next p) a hs)
              (folded_next w (pl p) p g f.after lt (ap (λ (i : NumberedReport). fold p i.told w) tl.told ∙ f.taken))
              ∙ ap (λ u. fold_each (caught_next p) (Ok (reached f.after u)) hs) (sym here) ∙ on.done;
          known = λ pl' there others. on.known pl' there (λ q ne. others q ne ∙ sym (apart q ne));
          placed = on.placed;
          up = (let a = on.up in let e' : moved_to pl p n p ≡ n = here in omega (arith, a, lt, e'));
          passed = on.passed;
        }
  ]
