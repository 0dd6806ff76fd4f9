-- What a follower that is up makes of what the line brings. Assumes nothing.
use Rattle.std.specs.Prelude.{nat_lt}
use Rattle.std.specs.List.{list_any}
use Rattle.std.specs.Str.{bytes_eq}
use Rattle.std.proofs.Common.{◌≡◌, ◌≢◌, ◌⊎◌, inl, inr, ℕ, ◌<◌, ◌≤◌, max, Bool, true, false, cond, ◌||◌, leb, List, [], ◌∷◌, ◌++◌, None, Ok, length, refl, sym, ap, ◌∙◌, subst, arith}
use Rattle.std.proofs.lemmas.Bool.{cases_lt, leb-true, leb-false, le-leb}
use Rattle.std.proofs.lemmas.Slice.Eq.{bytes_eq-Decides}
use Rattle.codes.specs.declared.session.AckResponse.{AckResponse}
use Rattle.codes.specs.declared.session.AckResponse.TheVariants.{Successful, LimitReached, InvalidAppId, ServiceUnavailable}
use Rattle.codes.specs.declared.session.Partition.{Partition}
use Rattle.codes.specs.declared.session.ReportResponse.{ReportResponse}
use Rattle.codes.specs.declared.session.ReportResponse.TheVariants as ending
use Rattle.both_ends.proofs.Carrying.{Run, Front, reports_of, Delivery, OfPart, Over, same_heard, heard_apart, run_down, delivery_part, delivery_next, delivery_over, delivery_other}
use Rattle.both_ends.proofs.Marks.{Whole, SidedBy, Load, Loaded, Known, AllKnown, held_to, reloaded, load_next, load_came, completed_to}
use Rattle.both_ends.proofs.Flights.{Passed, next_up, next_down}
use Rattle.both_ends.proofs.Keeping.{Only, or_one, Staged, Channelled, NoneRuns, Refusing, Refuses, Taking, Joined, marks_of, place_in, opened, line_is}
use Rattle.both_ends.proofs.Living.{Placed, after_fold, moves, joined_folded, is_next, joined_passed, with_state, state_places, joined_held, joined_overrun, tallied_as, reaches}
use Rattle.both_ends.specs.Agreement.{is_unfit}
use Rattle.both_ends.specs.Allowed.{Line}
use Rattle.both_ends.specs.declared.opening.Opening.TheVariants.{Open, Failed}
use Rattle.both_ends.specs.Tallied.{Tallied}
use Rattle.follower.specs.Following.{Following, is_up, download_of, Step, answered, refused, folded, folded_to, held as held_step, overrun, live_by, lived, no_download, acked, acked_of, recovered_of, reported, levelled, completed, ended, ended_of, rejected}
use Rattle.follower.specs.Hearing.{heard_in}
use Rattle.follower.specs.Numbers.{number_of}
use Rattle.follower.specs.Sides.{held_in, completed_state}
use Rattle.follower.specs.declared.answer.Live.{Live}
use Rattle.follower.specs.declared.answer.Live.TheVariants as live
use Rattle.follower.specs.declared.answer.Recovered.{Recovered}
use Rattle.follower.specs.declared.answer.Recovered.TheVariants as recovered
use Rattle.follower.specs.declared.fault.FollowerFault.TheVariants as fault
use Rattle.follower.specs.declared.heard.Heard.{Heard}
use Rattle.follower.specs.declared.heard.Heard.TheVariants.{Report, Ack, End, Reject}
use Rattle.follower.specs.declared.heard.NumberedReport.{NumberedReport}
use Rattle.follower.specs.declared.hold.TheConstants.{HOLD}
use Rattle.follower.specs.declared.side.Side.{Side}
use Rattle.follower.specs.declared.side.State.{State as Standing}
use Rattle.follower.specs.declared.side.State.TheVariants.{Level, Behind, Overrun}
use Rattle.follower.specs.declared.line.Line.TheVariants.{Up}
use Rattle.follower.specs.declared.stage.Stage.{Stage}
use Rattle.follower.specs.declared.stage.Stage.TheVariants.{Idle, Asked, Running}
use Rattle.keyed.specs.Numbers.{under}
use Rattle.limits.specs.declared.TheConstants.{ORDERS}
use Rattle.partitions.proofs.Written.{at_written, by_partition, or_as_it_was}
use Rattle.partitions.specs.PerPartition.{at, with_at}
use Rattle.partitions.specs.declared.per_partition.PerPartition.{PerPartition}
use Rattle.reports.specs.Tally.{is_of}
use Rattle.reports.specs.declared.report.Entry.{Entry}
use Rattle.sessions.specs.Sessions.{download}
use Rattle.sessions.specs.declared.session.Session.{Session}
use Rattle.venue.specs.Books.{Books, Sound}
use Rattle.venue.proofs.Recording.{same_self}

pub same_bytes : (a b : List ℕ) → bytes_eq a b ≡ true → a ≡ b
same_bytes a b h = (bytes_eq-Decides a b).0 h

-- both ends, as far as one connection goes
pub record Stands (c : ℕ) (v : Books) (s : Session) (f : Following) (x : Line) (t : Taking) : Type 0 where
  pub on : is_up f ≡ true
  pub known : Tallied c v.kept f.standings (place_in f)
  pub placed : Placed c v.kept (place_in f)
  pub up : Joined c v.kept s f x t

-- the higher of two numbers of an owner's reports is one
hers_higher : (c : ℕ) (l : List Entry) (a b : ℕ) → is_of c (under l a) ≡ true → is_of c (under l b) ≡ true
    → is_of c (under l (max a b)) ≡ true
hers_higher c l a b ha hb = elim (cases_lt a b) [
  | inl lt ↦ subst (λ n. is_of c (under l n) ≡ true) (let e : b ≡ max a b = omega (arith, lt) in e) hb
  | inr le ↦ subst (λ n. is_of c (under l n) ≡ true) (let e : a ≡ max a b = omega (arith, le) in e) ha
]

module _ (c : ℕ) (v : Books) (s : Session) (sound : Sound v) (few : length v.rows ≤ ORDERS) where
  -- what a message that the line brings answers and leaves
  abbrev pub Leaves : {A : Type 0} → Step A → Line → Taking → Type 0
  Leaves a x t = (is_unfit a.answer ≡ false) × Stands c v s a.after x t

  -- ---- the real-time channel

  module _ (f : Following) (x : Line) (rest : List (List ℕ)) (t u : Taking) (p : Partition) (h : NumberedReport)
      (a : Stands c v s f x t) (fr : Front p h x.live rest) (only : Only p (number_of h) u) where
    abbrev pub after_line : Line
    after_line = record x { live = rest }

    live_folded : (at f.sides p).state ≡ Level → place_in f p < number_of h
        → Leaves (folded live.Folded f p h) after_line (or_one t u)
    live_folded st lt =
        let n = number_of h in
        let level : Passed c (at v.kept p) (place_in f p) (at a.up.y p) =
        subst (λ z. SidedBy z c (at v.kept p) (place_in f p) (at a.up.y p) (at a.up.b p)) st (a.up.parts p).sided in
        let (tells, next) = is_next c v.kept s f x rest t p h a.up fr in
        let mv = moves c v sound few f p h a.known a.placed lt
        (next_down c (at v.kept p) (place_in f p) (at a.up.y p) n level next) tells in
        let moved = joined_folded c v.kept s f p n mv.after x t (omega (arith, lt)) a.up in
        let here : place_in (after_fold f p n mv.after) p
        ≡ n = ap (λ (z : Side). z.place) (at_written f.sides p (record (at f.sides p) { place = n })) in
        subst (λ r. Leaves (folded_to live.Folded f p n r) after_line (or_one t u)) (sym mv.taken) (
          refl,
          record {
            on = a.on;
            known = mv.known;
            placed = mv.placed;
            up = joined_passed c v.kept s (after_fold f p n mv.after) x rest t p h moved fr u only (omega (arith, here));
          },
        )

    -- the partition's state alone is another
    live_as : (z : Standing) → Joined c v.kept s (with_state f p z) after_line (or_one t u)
        → Stands c v s (with_state f p z) after_line (or_one t u)
    live_as z up =
        let g = with_state f p z in
        let eq = state_places f p z in
        record {
          on = a.on;
          known = tallied_as c v.kept f.standings (place_in f) (place_in g) eq a.known;
          placed = λ q. subst (λ i. (i ≡ 0) ⊎ (is_of c (under (at v.kept q) i) ≡ true)) (sym (eq q)) (a.placed q);
          up = up;
        }

    is_hers : is_of c (under (at v.kept p) (number_of h)) ≡ true
    is_hers = (is_next c v.kept s f x rest t p h a.up fr).1.hers

    live_passed : (n : ℕ) → is_of c (under (at v.kept p) n) ≡ true → number_of h ≤ n
        → Leaves (overrun f p n) after_line (or_one t u)
    live_passed n hers le =
        (refl, live_as (Overrun n) (joined_overrun c v.kept s f x rest t p h a.up fr u only n hers le))

    live_held : (hs : List NumberedReport) → (at f.sides p).state ≡ Behind hs → (b : Bool)
        → Leaves (cond b (held_step f p hs h) (overrun f p (number_of h))) after_line (or_one t u)
    live_held hs st false = live_passed (number_of h) is_hers (omega arith)
    live_held hs st true =
        (refl, live_as (Behind (hs ++ h ∷ [])) (joined_held c v.kept s f x rest t p h a.up fr u only hs st))

    live_stated : (z : Standing) → (at f.sides p).state ≡ z → place_in f p < number_of h
        → Leaves (live_by z f p h) after_line (or_one t u)
    live_stated Level st lt = live_folded st lt
    live_stated (Behind hs) st lt = live_held hs st (nat_lt (length hs) HOLD)
    live_stated (Overrun n) st lt =
        let passed = subst (λ z. SidedBy z c (at v.kept p) (place_in f p) (at a.up.y p) (at a.up.b p)) st (a.up.parts p).sided in
        live_passed (max n (number_of h)) (hers_higher c (at v.kept p) n (number_of h) passed.0 is_hers) (omega arith)

    live_there : (b : Bool) → leb (number_of h) (place_in f p) ≡ b
        → Leaves (cond b (answered live.Already f) (live_by (at f.sides p).state f p h)) after_line
        (or_one t u)
    live_there true q = (
      refl,
      record {
        on = a.on;
        known = a.known;
        placed = a.placed;
        up = joined_passed c v.kept s f x rest t p h a.up fr u only (leb-true (number_of h) (place_in f p) q);
      },
    )
    live_there false q = live_stated (at f.sides p).state refl (leb-false (number_of h) (place_in f p) q)

    pub lives : Leaves (lived f (Report p h)) after_line (or_one t u)
    lives = live_there (leb (number_of h) (place_in f p)) refl

  -- ---- the recovery channel

  -- all stands but for the download, what is asked, under way, and may come again
  with_stage : (f : Following) (x x' : Line) (t u : Taking) (g : Stage) (ds : PerPartition Load) (a : Stands c v s f x t)
      → x'.live ≡ x.live → ((q : Partition) (i : ℕ) → u q i → i ≤ max (place_in f q) (at a.up.y q))
      → ((p : Partition) → Loaded c (at v.kept p) (place_in f p) (at a.up.b p) (at ds p))
      → Channelled x'.opening g ds (download s) x' → Stands c v s (record f { line = Up g }) x' (or_one t u)
  with_stage f x x' t u g ds a l took lds st =
      record {
        on = refl;
        known = a.known;
        placed = a.placed;
        up = record {
          y = a.up.y;
          b = a.up.b;
          ds = ds;
          parts = λ p. subst (λ z. Whole c (record (marks_of v.kept s f x a.up.y a.up.b ds p) { live = reports_of p z }))
              (sym l) (reloaded c (marks_of v.kept s f x a.up.y a.up.b a.up.ds p) (at ds p) (lds p) (a.up.parts p));
          taken = λ q i h. taken q i h;
          staged = st;
        };
      }
    where
      taken : (q : Partition) (i : ℕ) → or_one t u q i → i ≤ max (place_in f q) (at a.up.y q)
      taken q i (inl h) = a.up.taken q i h
      taken q i (inr h) = took q i h

  -- the download too
  with_same : (f : Following) (x x' : Line) (t u : Taking) (ds : PerPartition Load) (a : Stands c v s f x t)
      → x'.live ≡ x.live → ((q : Partition) (i : ℕ) → u q i → i ≤ max (place_in f q) (at a.up.y q))
      → ((p : Partition) → Loaded c (at v.kept p) (place_in f p) (at a.up.b p) (at ds p))
      → Channelled x'.opening (download_of f) ds (download s) x' → Stands c v s f x' (or_one t u)
  with_same f x x' t u ds a l took lds st =
      subst (λ i. Stands c v s (record f { line = i }) x' (or_one t u)) (sym (line_is f.line a.on))
      (with_stage f x x' t u (download_of f) ds a l took lds st)

  -- a report of the download that runs comes
  module _ (f : Following) (x : Line) (m : List ℕ) (rest : List (List ℕ)) (t u : Taking) (p : Partition)
      (h : NumberedReport) (hd : heard_in m ≡ Ok (Report p h)) (only : Only p (number_of h) u) (began : x.opening ≡ Open)
    where
      abbrev pub taken_line : Line
      taken_line = record x { recovered = rest; again = m ∷ x.again }

      -- the place has reached it
      loaded_of : (a : Stands c v s f x t) (is : List NumberedReport) → download_of f ≡ Running p → x.asked ≡ []
          → OfPart p x.again (at a.up.ds p).again → (at a.up.ds p).loaded ≡ h ∷ is
          → Delivery p (download s) rest is (at a.up.ds p).to (at a.up.ds p).aim → number_of h ≤ place_in f p
          → Stands c v s f taken_line (or_one t u)
      loaded_of a is st k r e l le =
          let d = at a.up.ds p in
          let now : Load = record d { from = max d.from (number_of h); loaded = is; again = h ∷ d.again } in
          let (came, left) = subst (λ z. OfPart p (m ∷ x.again) z.again × Delivery p (download s) rest z.loaded z.to z.aim)
          (sym (at_written a.up.ds p now)) ((h, d.again, hd, refl, r), l) in
          with_same f x taken_line t u (with_at a.up.ds p now) a refl taken_at
          (or_as_it_was (λ q z. Loaded c (at v.kept q) (place_in f q) (at a.up.b q) z) a.up.ds p now
          (load_came c (at v.kept p) (place_in f p) (at a.up.b p) d (a.up.parts p).loaded h is e le)
          (λ q. (a.up.parts q).loaded))
          (opened x.opening (download_of f) (with_at a.up.ds p now) (download s) taken_line began (subst
          (λ g. Staged g (with_at a.up.ds p now) (download s) taken_line) (sym st) (k, came, left)))
        where
          taken_at : (q : Partition) (i : ℕ) → u q i → i ≤ max (place_in f q) (at a.up.y q)
          taken_at q i w =
              let (e, z) = only q i w in
              subst (λ r. i ≤ max (place_in f r) (at a.up.y r)) e (omega (arith, le, z))

  module _ (f : Following) (x : Line) (m : List ℕ) (rest : List (List ℕ)) (t u : Taking) (p : Partition)
      (h : NumberedReport) (hd : heard_in m ≡ Ok (Report p h)) (only : Only p (number_of h) u) (began : x.opening ≡ Open)
    where
      -- or not yet
      recovered_there : (a : Stands c v s f x t) (is : List NumberedReport) → download_of f ≡ Running p → x.asked ≡ []
          → OfPart p x.again (at a.up.ds p).again → (at a.up.ds p).loaded ≡ h ∷ is
          → Delivery p (download s) rest is (at a.up.ds p).to (at a.up.ds p).aim
          → (w : Bool) → leb (number_of h) (place_in f p) ≡ w
          → Leaves (cond w (answered recovered.Already f) (folded recovered.Folded f p h))
          (record x { recovered = rest; again = m ∷ x.again }) (or_one t u)
      recovered_there a is st k r e l true q =
          (refl, loaded_of f x m rest t u p h hd only began a is st k r e l (leb-true (number_of h) (place_in f p) q))
      recovered_there a is st k r e l false q =
          let n = number_of h in
          let d = at a.up.ds p in
          let ld = (a.up.parts p).loaded in
          let starts : d.from ≤ place_in f p = ld.starts in
          let (tl, nx) = load_next c (at v.kept p) (place_in f p) (at a.up.b p) d ld h is e in
          let lt : place_in f p < n = leb-false n (place_in f p) q in
          let mv = moves c v sound few f p h a.known a.placed lt (next_up c (at v.kept p) d.from (place_in f p) n starts nx)
          tl in
          let g = after_fold f p n mv.after in
          let here : place_in g p ≡ n = ap (λ (y : Side). y.place)
          (at_written f.sides p (record (at f.sides p) { place = n })) in
          let moved : Stands c v s g x t = record {
            on = a.on;
            known = mv.known;
            placed = mv.placed;
            up = joined_folded c v.kept s f p n
                mv.after x t (omega (arith, lt)) a.up;
          } in
          subst (λ y. Leaves (folded_to recovered.Folded f p n y) (record x { recovered = rest; again = m ∷ x.again })
          (or_one t u)) (sym mv.taken)
          (refl, loaded_of g x m rest t u p h hd only began moved is st k r e l (omega (arith, here)))

  -- ---- by what is heard at the front of what is under way

  no_front : {X : Type 0} (x : Line) (m : List ℕ) (rest : List (List ℕ)) → x.recovered ≡ m ∷ rest → x.recovered ≡ [] → X
  no_front x m rest e f = absurd (let z : m ∷ rest ≡ [] = sym e ∙ f in cc)

  -- what is no report, at the front of what is under way
  module _ (f : Following) (x : Line) (m : List ℕ) (rest : List (List ℕ)) (t u : Taking) (a : Stands c v s f x t)
      (front : x.recovered ≡ m ∷ rest) (none : (q : Partition) (i : ℕ) → u q i → ⊥) (began : x.opening ≡ Open) where
    abbrev pub other_line : Line
    other_line = record x { recovered = rest; again = [] }

    nothing_taken : (q : Partition) (i : ℕ) → u q i → i ≤ max (place_in f q) (at a.up.y q)
    nothing_taken q i h = absurd (none q i h)

    -- the download is over, with nothing behind its end
    over : x.asked ≡ [] → rest ≡ [] → download s ≡ None
        → Stands c v s (no_download f) other_line (or_one t u)
    over k e o = with_stage f x other_line t u Idle a.up.ds a refl nothing_taken (λ p. (a.up.parts p).loaded)
        (opened x.opening Idle a.up.ds (download s) other_line began (k, e, refl, o))

    tail_is : (m' : List ℕ) (ms : List (List ℕ)) → x.recovered ≡ m' ∷ ms → ms ≡ rest
    tail_is m' ms e = by (sym e ∙ front)
      where
        by : m' ∷ ms ≡ m ∷ rest → ms ≡ rest
        by q = cc

    head_is : (m' : List ℕ) (ms : List (List ℕ)) → x.recovered ≡ m' ∷ ms → m' ≡ m
    head_is m' ms e = by (sym e ∙ front)
      where
        by : m' ∷ ms ≡ m ∷ rest → m' ≡ m
        by q = cc

    -- an Ack
    ack_refused : (p : Partition) (r : AckResponse) → Refuses (Ok (Ack r)) → x.asked ≡ [] → rest ≡ [] → download s
        ≡ None → Leaves (acked_of f p r) other_line (or_one t u)
    ack_refused p Successful w k e o = absurd w
    ack_refused p LimitReached w k e o = (refl, over k e o)
    ack_refused p InvalidAppId w k e o = (refl, over k e o)
    ack_refused p ServiceUnavailable w k e o = (refl, over k e o)

    ack_granted : (p : Partition) (r : AckResponse) → r ≡ Successful → x.asked ≡ [] → (at a.up.ds p).again ≡ []
        → Delivery p (download s) rest (at a.up.ds p).loaded (at a.up.ds p).to (at a.up.ds p).aim
        → Leaves (acked_of f p r) other_line (or_one t u)
    ack_granted p Successful e k g l = (
      refl,
      with_stage f x other_line t u (Running p) a.up.ds a refl nothing_taken (λ q. (a.up.parts q).loaded)
          (opened x.opening (Running p) a.up.ds (download s) other_line began (k, g, l)),
    )
    ack_granted p LimitReached e k g l = absurd cc
    ack_granted p InvalidAppId e k g l = absurd cc
    ack_granted p ServiceUnavailable e k g l = absurd cc

    abbrev DeliveryOf : Partition → List (List ℕ) → Type 0
    DeliveryOf p ms = Delivery p (download s) ms (at a.up.ds p).loaded (at a.up.ds p).to (at a.up.ds p).aim

    front_of : (p : Partition) → DeliveryOf p x.recovered → DeliveryOf p (m ∷ rest)
    front_of p l = subst (DeliveryOf p) front l

    nothing_else : {X : Type 0} (p : Partition) (i : Heard) → DeliveryOf p x.recovered → heard_in m ≡ Ok i
        → ((r : ReportResponse) → i ≡ End r → ⊥) → ((h : NumberedReport) → i ≡ Report p h → ⊥) → X
    nothing_else p i l h n1 n2 = delivery_other p (download s) m rest (at a.up.ds p).loaded (at a.up.ds p).to
        (at a.up.ds p).aim (front_of p l) i h n1 n2

    pub acks : (g : Stage) → Staged g a.up.ds (download s) x → (r : AckResponse) → heard_in m ≡ Ok (Ack r)
        → Leaves (acked f g r) other_line (or_one t u)
    acks Idle (k, e, ag, o) r h = no_front x m rest front e
    acks (Asked p) (ag, ga, inl (k, rb, e, o)) r h = no_front x m rest front e
    acks (Asked p) (ag, ga, inr (inl (k, o, inl e))) r h = no_front x m rest front e
    acks (Asked p) (ag, ga, inr (inl (k, o, inr (m', e, w)))) r h =
        ack_refused p r (subst Refuses (ap heard_in (head_is m' [] e) ∙ h) w) k (sym (tail_is m' [] e)) o
    acks (Asked p) (ag, ga, inr (inr (k, m', ms, e, h', l))) r h =
        ack_granted p r (inside (same_heard (Ack r) (Ack Successful) (heard_in m) h
        (ap heard_in (sym (head_is m' ms e)) ∙ h'))) k ga (subst (DeliveryOf p) (tail_is m' ms e) l)
      where
        inside : {i j : AckResponse} → Ack i ≡ Ack j → i ≡ j
        inside q = cc
    acks (Running p) (k, r', l) r h = nothing_else p (Ack r) l h (λ i q. cc) (λ i w. cc)

    -- a Reject
    pub rejects : (g : Stage) → Staged g a.up.ds (download s) x → heard_in m ≡ Ok Reject
        → Leaves (rejected f g) other_line (or_one t u)
    rejects Idle (k, e, ag, o) h = no_front x m rest front e
    rejects (Asked p) (ag, ga, inl (k, rb, e, o)) h = no_front x m rest front e
    rejects (Asked p) (ag, ga, inr (inl (k, o, inl e))) h = no_front x m rest front e
    rejects (Asked p) (ag, ga, inr (inl (k, o, inr (m', e, w)))) h = (refl, over k (sym (tail_is m' [] e)) o)
    rejects (Asked p) (ag, ga, inr (inr (k, m', ms, e, h', l'))) h =
        heard_apart m Reject (Ack Successful) h (ap heard_in (sym (head_is m' ms e)) ∙ h') (λ q. cc)
    rejects (Running p) (k, r', l) h = nothing_else p Reject l h (λ i q. cc) (λ i w. cc)

    -- the end of a download
    holds_from : (p : Partition) (st : Standing) (b y place : ℕ) → Passed c (at v.kept p) place (max place b)
        → SidedBy st c (at v.kept p) place y b → Run c (at v.kept p) place (held_in st) (held_to st place y)
    holds_from p Level b y place ps h = h
    holds_from p (Behind hs) b y place ps h = run_down c (at v.kept p) place (max place b) hs y ps h
    holds_from p (Overrun n) b y place ps h = λ j lt le. absurd (omega (arith, lt, le))

    passed_to : (l : List Entry) (z k b e : ℕ) → z ≤ k → b ≤ e → Passed c l z e → Passed c l k (max k b)
    passed_to l z k b e zk be h = λ j lt le. h j (omega (arith, zk, lt)) (omega (arith, be, lt, le))

    abbrev completed_side : Partition → ℕ → Side
    completed_side p n = record { place = n; state = completed_state (at f.sides p).state n }

    complete : (p : Partition) → x.asked ≡ [] → rest ≡ [] → download s ≡ None → (at a.up.ds p).loaded ≡ []
        → (at a.up.ds p).to ≡ (at a.up.ds p).aim → Leaves (completed f p) other_line (or_one t u)
    complete p k e o none_left aimed =
        let d = at a.up.ds p in
        let ld = (a.up.parts p).loaded in
        let passed : Passed c (at v.kept p) d.from d.to = subst (λ hs. Run c (at v.kept p) d.from hs d.to) none_left ld.run in
        let covers : at a.up.b p ≤ d.to = subst (λ z. at a.up.b p ≤ z) (sym aimed) ld.covers in
        let sd = at f.sides p in
        let ready = holds_from p sd.state (at a.up.b p) (at a.up.y p) sd.place
        (passed_to (at v.kept p) d.from sd.place (at a.up.b p) d.to ld.starts covers passed) (a.up.parts p).sided in
        let r = reaches c v sound few f.standings (place_in f) p (held_in sd.state)
        (held_to sd.state sd.place (at a.up.y p)) a.known (a.placed p) ready in
        let n = r.after.place in
        let g : Following = record f {
          standings = r.after.known;
          sides = with_at f.sides p (completed_side p n);
          line = Up Idle;
        } in
        let ups = or_as_it_was (λ q y. place_in f q ≤ y.place) f.sides p (completed_side p n) r.up (λ q. omega arith) in
        subst (λ y. Leaves (levelled f p y) other_line (or_one t u)) (sym r.done) (
          refl,
          record {
            on = refl;
            known = r.known (place_in g) (ap (λ (y : Side). y.place) (at_written f.sides p (completed_side p n)))
                (by_partition (λ q y. p ≢ q → y.place ≡ place_in f q) f.sides p (completed_side p n)
                (λ ne. absurd (ne refl))
                (λ q ne i. refl));
            placed = or_as_it_was (λ q y. (y.place ≡ 0) ⊎ (is_of c (under (at v.kept q) y.place) ≡ true)) f.sides p
                (completed_side p n) r.placed a.placed;
            up = record {
              y = a.up.y;
              b = a.up.b;
              ds = a.up.ds;
              parts = or_as_it_was (λ q z. Whole c (record (marks_of v.kept s f other_line a.up.y a.up.b a.up.ds q) {
                side = z;
              })) f.sides p (completed_side p n)
                  (completed_to c (marks_of v.kept s f other_line a.up.y a.up.b a.up.ds p) n r.up r.passed (a.up.parts p))
                  a.up.parts;
              taken = λ q i h. taken g ups q i h;
              staged = opened x.opening Idle a.up.ds (download s) other_line began (k, e, refl, o);
            };
          },
        )
      where
        taken : (g : Following) → ((q : Partition) → place_in f q ≤ place_in g q) → (q : Partition) (i : ℕ)
            → or_one t u q i → i ≤ max (place_in g q) (at a.up.y q)
        taken g ups q i (inl h) = let w = a.up.taken q i h in let le = ups q in omega (arith, w, le)
        taken g ups q i (inr h) = absurd (none q i h)

    ends_by : (p : Partition) (r : ReportResponse) → x.asked ≡ [] → rest ≡ [] → download s ≡ None
        → (at a.up.ds p).loaded ≡ [] → Over r (at a.up.ds p).to (at a.up.ds p).aim
        → Leaves (ended_of f p r) other_line (or_one t u)
    ends_by p ending.Complete k e o l w = complete p k e o l w
    ends_by p ending.MessageLimit k e o l w = (refl, over k e o)
    ends_by p ending.ServiceUnavailable k e o l w = (refl, over k e o)

    pub ends : (g : Stage) → Staged g a.up.ds (download s) x → (r : ReportResponse) → heard_in m ≡ Ok (End r)
        → Leaves (ended f g r) other_line (or_one t u)
    ends Idle (k, e, ag, o) r h = no_front x m rest front e
    ends (Asked p) (ag, ga, inl (k, rb, e, o)) r h = no_front x m rest front e
    ends (Asked p) (ag, ga, inr (inl (k, o, inl e))) r h = no_front x m rest front e
    ends (Asked p) (ag, ga, inr (inl (k, o, inr (m', e, w)))) r h = absurd
        (subst Refuses (ap heard_in (head_is m' [] e) ∙ h) w)
    ends (Asked p) (ag, ga, inr (inr (k, m', ms, e, h', l'))) r h = heard_apart m (End r) (Ack Successful) h
        (ap heard_in (sym (head_is m' ms e)) ∙ h') (λ q. cc)
    ends (Running p) (k, r', l) r h =
        let (e, o, n, w) = delivery_over p (download s) m rest (at a.up.ds p).loaded (at a.up.ds p).to (at a.up.ds p).aim
        (front_of p l) r h in
        ends_by p r k e o n w

  -- ---- on a channel whose first Logon was no message

  module _ (f : Following) (x : Line) (m : List ℕ) (rest : List (List ℕ)) (t u : Taking) (a : Stands c v s f x t)
      (front : x.recovered ≡ m ∷ rest) (none : (q : Partition) (i : ℕ) → u q i → ⊥) (fails : x.opening ≡ Failed)
      (again : x.again ≡ []) (refuses : Refusing x.recovered) (runs : download s ≡ None) where
    abbrev failed_line : Line
    failed_line = record x { recovered = rest; again = [] }

    parts : (ms : List (List ℕ)) → ms ≡ m ∷ rest → Refusing ms → Refuses (heard_in m) × Refusing rest
    parts ms e h = subst Refusing e h

    pub refused_front : Refuses (heard_in m)
    refused_front = (parts x.recovered front refuses).0

    with_failed : (g : Stage) → NoneRuns g → Stands c v s (record f { line = Up g }) failed_line (or_one t u)
    with_failed g n = with_stage f x failed_line t u g a.up.ds a refl (λ q i h. absurd (none q i h))
        (λ p. (a.up.parts p).loaded) (subst (λ h. Channelled h g a.up.ds (download s) failed_line) (sym fails)
        (n, (parts x.recovered front refuses).1, refl, runs))

    failed_on : NoneRuns (download_of f) → Stands c v s f failed_line (or_one t u)
    failed_on n = subst (λ i. Stands c v s (record f { line = i }) failed_line (or_one t u))
        (sym (line_is f.line a.on)) (with_failed (download_of f) n)

    pub failed_acks : (g : Stage) → download_of f ≡ g → NoneRuns g → (r : AckResponse) → Refuses (Ok (Ack r))
        → Leaves (acked f g r) failed_line (or_one t u)
    failed_acks Idle e n r w = (refl, failed_on (subst NoneRuns (sym e) n))
    failed_acks (Asked p) e n Successful w = absurd w
    failed_acks (Asked p) e n LimitReached w = (refl, with_failed Idle tt)
    failed_acks (Asked p) e n InvalidAppId w = (refl, with_failed Idle tt)
    failed_acks (Asked p) e n ServiceUnavailable w = (refl, with_failed Idle tt)
    failed_acks (Running p) e n r w = absurd n

    pub failed_rejects : (g : Stage) → download_of f ≡ g → NoneRuns g
        → Leaves (rejected f g) failed_line (or_one t u)
    failed_rejects Idle e n = (refl, failed_on (subst NoneRuns (sym e) n))
    failed_rejects (Asked p) e n = (refl, with_failed Idle tt)
    failed_rejects (Running p) e n = absurd n

  -- ---- a report of a download

  -- one that came is a report of its partition, at or below the place
  record Came (l : List Entry) (p : Partition) (k : ℕ) (m : List ℕ) : Type 0 where
    pub report : NumberedReport
    pub heard : heard_in m ≡ Ok (Report p report)
    pub known : Known c l k report

  there_before : (l : List Entry) (p : Partition) (k : ℕ) (m : List ℕ) (ms : List (List ℕ)) (hs : List NumberedReport)
      → OfPart p ms hs → AllKnown c l k hs → list_any (bytes_eq m) ms ≡ true → Came l p k m
  there_before l p k m [] hs r w h = absurd cc
  there_before l p k m (i ∷ ms) hs (g, is, e, n, r) w h =
      let (u, z) = subst (λ js. AllKnown c l k js) n w in
      by (record { report = g; heard = e; known = u }) (λ y. there_before l p k m ms is r z y) (bytes_eq m i) refl h
    where
      by : Came l p k i → (list_any (bytes_eq m) ms ≡ true → Came l p k m) → (b : Bool) → bytes_eq m i ≡ b
          → (b || list_any (bytes_eq m) ms) ≡ true → Came l p k m
      by w rest true q g = subst (λ j. Came l p k j) (sym (same_bytes m i q)) w
      by w rest false q g = rest g

  module _ (f : Following) (x : Line) (m : List ℕ) (t u : Taking) (a : Stands c v s f x t) (q : Partition) (h : NumberedReport)
      (hd : heard_in m ≡ Ok (Report q h)) (only : Only q (number_of h) u) (began : x.opening ≡ Open) where
    -- the answer, where it is of the download's partition
    of_its : (y : Line) → Leaves (recovered_of f q h) y (or_one t u)
        → Leaves (reported f (Running q) q h) y (or_one t u)
    of_its y w =
        subst (λ z. Leaves (cond z (recovered_of f q h) (refused fault.Partition f)) y (or_one t u))
        (sym (same_self q)) w

    -- and it is the owner's
    abbrev pub HersIt : Type 0
    HersIt = is_of c (under (at v.kept q) (number_of h)) ≡ true

    head_of : {i j : List ℕ} {is js : List (List ℕ)} → i ∷ is ≡ j ∷ js → i ≡ j
    head_of e = cc

    -- the next under way
    pub reports : (rest : List (List ℕ)) → x.recovered ≡ m ∷ rest → (g : Stage) → download_of f ≡ g
        → Staged g a.up.ds (download s) x
        → Leaves (reported f g q h) (record x { recovered = rest; again = m ∷ x.again }) (or_one t u) × HersIt
    reports rest front Idle st (k, e, ag, o) = no_front x m rest front e
    reports rest front (Asked p) st (ag, ga, inl (k, rb, e, o)) = no_front x m rest front e
    reports rest front (Asked p) st (ag, ga, inr (inl (k, o, inl e))) = no_front x m rest front e
    reports rest front (Asked p) st (ag, ga, inr (inl (k, o, inr (m', e, w)))) = absurd
        (subst Refuses (ap heard_in (head_of (sym e ∙ front)) ∙ hd) w)
    reports rest front (Asked p) st (ag, ga, inr (inr (k, m', ms, e, h', l'))) = heard_apart m (Report q h)
        (Ack Successful) hd (ap heard_in (sym (head_of (sym e ∙ front))) ∙ h') (λ z. cc)
    reports rest front (Running p) st sg = subst
        (λ i. download_of f ≡ Running i → Staged (Running i) a.up.ds (download s) x
        → Leaves (reported f (Running i) q h) (record x { recovered = rest; again = m ∷ x.again }) (or_one t u) × HersIt)
        (part p sg) here st sg
      where
        part : (p : Partition) → Staged (Running p) a.up.ds (download s) x → q ≡ p
        part p (k, r, l) =
            let d = at a.up.ds p in
            delivery_part p (download s) m rest d.loaded d.to d.aim
            (subst (λ y. Delivery p (download s) y d.loaded d.to d.aim) front l) q h hd

        here : download_of f ≡ Running q → Staged (Running q) a.up.ds (download s) x
            → Leaves (reported f (Running q) q h) (record x { recovered = rest; again = m ∷ x.again }) (or_one t u)
            × HersIt
        here st (k, r, l) =
            let d = at a.up.ds q in
            let (is, e, l') = delivery_next q (download s) m rest d.loaded d.to d.aim
            (subst (λ y. Delivery q (download s) y d.loaded d.to d.aim) front l) h hd in
            let nx = load_next c (at v.kept q) (place_in f q) (at a.up.b q) d (a.up.parts q).loaded h is e in (
              of_its (record x { recovered = rest; again = m ∷ x.again })
                  (recovered_there f x m rest t u q h hd only began a is st k r e l' (leb (number_of h) (place_in f q)) refl),
              nx.1.hers,
            )

    -- one that came before
    pub repeats : list_any (bytes_eq m) x.again ≡ true → (g : Stage) → download_of f ≡ g
        → Staged g a.up.ds (download s) x → Leaves (reported f g q h) x (or_one t u) × HersIt
    repeats w Idle st (k, e, ag, o) = absurd (let z : list_any (bytes_eq m) []
        ≡ true = subst (λ y. list_any (bytes_eq m) y ≡ true) ag w in cc)
    repeats w (Asked p) st (ag, ga, y) = absurd (let z : list_any (bytes_eq m) []
        ≡ true = subst (λ y. list_any (bytes_eq m) y ≡ true) ag w in cc)
    repeats w (Running p) st sg = subst
        (λ i. download_of f ≡ Running i → Staged (Running i) a.up.ds (download s) x
        → Leaves (reported f (Running i) q h) x (or_one t u) × HersIt) (part p sg) here st sg
      where
        taken : number_of h ≤ place_in f q → (r : Partition) (j : ℕ) → u r j → j ≤ max (place_in f r) (at a.up.y r)
        taken le r j w =
            let (e, z) = only r j w in
            subst (λ y. j ≤ max (place_in f y) (at a.up.y y)) e (omega (arith, le, z))

        came : (p : Partition) → OfPart p x.again (at a.up.ds p).again → Came (at v.kept p) p (place_in f p) m
        came p r = there_before (at v.kept p) p (place_in f p) m x.again (at a.up.ds p).again r (a.up.parts p).loaded.known w

        part : (p : Partition) → Staged (Running p) a.up.ds (download s) x → q ≡ p
        part p (k, r, l) = let b = came p r in
            by p b.report (same_heard (Report q h) (Report p b.report) (heard_in m) hd b.heard)
          where
            by : (p : Partition) (i : NumberedReport) → Report q h ≡ Report p i → q ≡ p
            by p i e = cc

        here : download_of f ≡ Running q → Staged (Running q) a.up.ds (download s) x
            → Leaves (reported f (Running q) q h) x (or_one t u) × HersIt
        here st (k, r, l) =
            let b = came q r in
            let same = by b.report (same_heard (Report q b.report) (Report q h) (heard_in m) b.heard hd) in
            let le : number_of h ≤ place_in f q = subst (λ i. number_of i ≤ place_in f q) same b.known.passed in (
              of_its x
                  (subst (λ y. Leaves (cond y (answered recovered.Already f)
                  (folded recovered.Folded f q h)) x (or_one t u)) (sym (le-leb (number_of h) (place_in f q) le)) (
                    refl,
                    with_same f x x t u a.up.ds a refl (taken le) (λ p. (a.up.parts p).loaded)
                        (opened x.opening (download_of f) a.up.ds (download s) x began
                        (subst (λ g. Staged g a.up.ds (download s) x) (sym st) (k, r, l))),
                  )),
              subst (λ i. is_of c (under (at v.kept q) (number_of i)) ≡ true) same b.known.hers,
            )
          where
            by : (i : NumberedReport) → Report q i ≡ Report q h → i ≡ h
            by i e = cc
