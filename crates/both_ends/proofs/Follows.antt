-- That each call of the follower keeps what holds of both ends. Assumes nothing.
use Rattle.std.specs.List.{list_any}
use Rattle.std.specs.Str.{bytes_eq}
use Rattle.std.proofs.Common.{◌≡◌, ◌⊎◌, inl, inr, ℕ, ◌≤◌, max, Bool, true, false, cond, List, [], ◌∷◌, Some, None, Ok, Err, Option, Result, length, refl, sym, ap, ◌∙◌, subst}
use Rattle.codes.specs.declared.session.Partition.{Partition}
use Rattle.codes.specs.declared.session.Partition.TheVariants.{One, Two, Three}
use Rattle.both_ends.proofs.Carrying.{Front, front, reports_of}
use Rattle.both_ends.proofs.Marks.{Whole, Load, unloaded, missed, based_anew}
use Rattle.both_ends.proofs.Given.{same_bytes, Stands, lives, Leaves, acks, failed_acks, rejects, failed_rejects, ends, reports, repeats}
use Rattle.both_ends.proofs.Keeping.{Only, or_one, Keeps, Phase, Joined, marks_of, place_in, Taking, Channelled, Refuses, Refusing, channelled_on, phase_on, idle_where, unloads, at_unloads, keeps_taken}
use Rattle.both_ends.proofs.Living.{popped, taken_popped, is_next, with_live, in_front, tallied_as}
use Rattle.both_ends.specs.Agreement.{is_hers, is_unfit, Taken, HeardAs}
use Rattle.both_ends.specs.Allowed.{Line, next_of, out_of_turn, next_live, given_live, repeated, next_report, next_other, given_recovered}
use Rattle.both_ends.specs.Runs.{Desk}
use Rattle.both_ends.specs.Tallied.{Tallied}
use Rattle.both_ends.specs.declared.allowed.Breach.{Breach}
use Rattle.both_ends.specs.declared.opening.Opening.{Opening}
use Rattle.both_ends.specs.declared.opening.Opening.TheVariants.{Awaited, Open, Failed}
use Rattle.both_ends.specs.declared.allowed.Breach.TheVariants.{LiveOutOfTurn, RecoveredOutOfTurn}
use Rattle.follower.proofs.Quiets.{stays_quiet}
use Rattle.follower.specs.Following.{Following, is_up, download_of, Step, turned, answered, refused, lived, recovering, live_step, recovered_step}
use Rattle.follower.specs.Hearing.{heard_in}
use Rattle.follower.specs.Numbers.{number_of}
use Rattle.follower.specs.Quiet.{Quiet}
use Rattle.follower.specs.declared.answer.Live.{Live}
use Rattle.follower.specs.declared.answer.Live.TheVariants as live
use Rattle.follower.specs.declared.answer.Recovered.{Recovered}
use Rattle.follower.specs.declared.answer.Recovered.TheVariants as recovered
use Rattle.follower.specs.declared.fault.FollowerFault.{FollowerFault}
use Rattle.follower.specs.declared.fault.FollowerFault.TheVariants as fault
use Rattle.follower.specs.declared.heard.Heard.{Heard}
use Rattle.follower.specs.declared.heard.Heard.TheVariants.{Report, Ack, End, Reject, Nothing}
use Rattle.follower.specs.declared.heard.NumberedReport.{NumberedReport}
use Rattle.follower.specs.declared.pending.Pending.{Pending}
use Rattle.follower.specs.declared.stage.Stage.TheVariants.{Idle}
use Rattle.both_ends.specs.Connecting.{lost, up_in}
use Rattle.both_ends.specs.declared.connection.Connection.{Connection}
use Rattle.both_ends.specs.declared.connection.Connection.TheVariants as conn
use Rattle.gateway.specs.State.{State, session}
use Rattle.layout.specs.declared.fault.Fault.{Fault}
use Rattle.limits.specs.declared.TheConstants.{ORDERS}
use Rattle.partitions.proofs.Written.{by_partition}
use Rattle.partitions.specs.PerPartition.{at}
use Rattle.partitions.specs.declared.per_partition.PerPartition.{PerPartition}
use Rattle.sessions.specs.Sessions.{download}
use Rattle.sessions.specs.declared.session.Session.{Session}
use Rattle.store.specs.Kept.{Kept}
use Rattle.venue.specs.Books.{Sound}

-- ---- the phases of a connection

module _ (c : ℕ) (k : Kept) (s : Session) (f : Following) (x : Line) (t : Taking) where
  pub up_of : (a : Connection) → up_in a ≡ true → Phase a c k s f x t → (a ≡ conn.Up) × Joined c k s f x t
  up_of conn.Up e h = (refl, h)
  up_of conn.Away e h = absurd cc
  up_of conn.Ready e h = absurd cc

  pub to_up : (a : Connection) → a ≡ conn.Up → Joined c k s f x t → Phase a c k s f x t
  to_up a e h = subst (λ z. Phase z c k s f x t) (sym e) h

-- ---- a call that gives the follower something

-- what a call answered and left: no report was refused by the fold, and all is kept
pub record Goes {A : Type 0} (c : ℕ) (s : State) (a : Step A) (x : Line) (t : Taking) : Type 0 where
  pub fits : is_unfit a.answer ≡ false
  pub keeps : (token : Pending) → Keeps c s (record { follower = a.after; token = token }) x t

abbrev pub took : {A : Type 0} → Step A → Result Heard Fault → Taking
took a h p n = Taken a.answer (HeardAs p n h)

pub next_is : (m : List ℕ) (ms rest : List (List ℕ)) → next_of m ms ≡ Some rest → ms ≡ m ∷ rest
next_is m [] rest h = absurd cc
next_is m (y ∷ ms) rest h = by (bytes_eq y m) refl h
  where
    by : (b : Bool) → bytes_eq y m ≡ b → cond b (Some ms) None ≡ Some rest → y ∷ ms ≡ m ∷ rest
    by true e g =
        let i : y ≡ m = same_bytes y m e in
        let j : ms ≡ rest = cc in
        ap (λ z. z ∷ ms) i ∙ ap (λ z. m ∷ z) j
    by false e g = absurd cc

abbrev pub Went : Type 0
Went = Result Line Breach

pub same_ok : (a b : Line) (r : Went) → r ≡ Ok a → r ≡ Ok b → a ≡ b
same_ok a b r e g = cc

pub ok_err : {X : Type 0} (b : Breach) (a : Line) (r : Went) → r ≡ Err b → r ≡ Ok a → X
ok_err b a r e g = cc

module _ (c : ℕ) (s : State) (d : Desk) (x : Line) (t : Taking) (sound : Sound s.venue)
    (few : length s.venue.rows ≤ ORDERS) (k : Keeps c s d x t) where
  abbrev f : Following
  f = d.follower

  -- nothing came of it
  nothing : {A : Type 0} (a : Step A) (u : Taking) → a.after ≡ f → is_unfit a.answer ≡ false
      → ((p : Partition) (n : ℕ) → u p n → ⊥) → Goes c s a x (or_one t u)
  nothing a u e fits none = record {
    fits = fits;
    keeps = λ token. subst (λ g. Keeps c s (record { follower = g; token = token }) x
        (or_one t u)) (sym e)
        (keeps_taken c s d x t (or_one t u) token old k);
  }
    where
      old : (p : Partition) (n : ℕ) → or_one t u p n → t p n
      old p n (inl h) = h
      old p n (inr h) = absurd (none p n h)

  -- ---- live

  unheard : (h : Heard) → lived f h ≡ answered live.Nothing f → ((p : Partition) (n : ℕ) → HeardAs p n (Ok h) → ⊥)
      → (b : Bool) → Goes c s (cond b (lived f h) (refused fault.NotUp f)) x
      (or_one t (took (cond b (lived f h) (refused fault.NotUp f)) (Ok h)))
  unheard h e none true =
      subst (λ a. Goes c s a x (or_one t (took a (Ok h)))) (sym e)
      (nothing (answered live.Nothing f) (took {A = Live} (answered live.Nothing f) (Ok h)) refl refl none)
  unheard h e none false = nothing (refused {A = Live} fault.NotUp f)
      (took (refused {A = Live} fault.NotUp f) (Ok h)) refl refl (λ p n z. z)

  abbrev UpNow : Type 0
  UpNow = Stands c s.venue (session s c) f x t

  now_up : is_up f ≡ true → UpNow
  now_up up = record {
    on = up;
    known = k.known;
    placed = k.placed;
    up = (up_of c s.venue.kept (session s c) f x t x.connection (k.up ∙ up) k.phase).1;
  }

  -- a report is told of
  module _ (p : Partition) (h : NumberedReport) where
    only_told : {A : Type 0} (a : Step A) → Only p (number_of h) (took a (Ok (Report p h)))
    only_told {A = A} a q i z = by a.answer z
      where
        by : (r : Result A FollowerFault) → Taken r (HeardAs q i (Ok (Report p h))) → (p ≡ q) × (number_of h ≡ i)
        by (Ok v) g = g
        by (Err v) g = absurd g

    hers_told : {A : Type 0} (a : Step A) → is_hers c s p (number_of h) ≡ true → (q : Partition) (i : ℕ)
        → took a (Ok (Report p h)) q i → is_hers c s q i ≡ true
    hers_told a w q i z =
        let (e, g) = only_told a q i z in
        subst (λ r. is_hers c s r i ≡ true) e (subst (λ r. is_hers c s p r ≡ true) g w)

  -- a report comes live
  module _ (m : List ℕ) (p : Partition) (h : NumberedReport) (heard : heard_in m ≡ Ok (Report p h)) (rest : List (List ℕ))
      (is : x.live ≡ m ∷ rest) where
    abbrev rest_line : Line
    rest_line = record x { live = rest }

    in_turn : Front p h x.live rest
    in_turn = subst (λ ms. Front p h ms rest) (sym is) (front p h m rest heard)

    hers_on : {A : Type 0} (a : Step A) → is_hers c s p (number_of h) ≡ true → (q : Partition) (i : ℕ)
        → or_one t (took a (Ok (Report p h))) q i → is_hers c s q i ≡ true
    hers_on a w q i (inl z) = k.hers q i z
    hers_on a w q i (inr z) = hers_told p h a w q i z

    -- the follower is not up: the report is gone
    not_up : is_up f ≡ false → Goes c s (refused {A = Live} fault.NotUp f) rest_line
        (or_one t (took (refused {A = Live} fault.NotUp f) (Ok (Report p h))))
    not_up dn = record {
      fits = refl;
      keeps = λ token. record {
        up = k.up;
        quiet = k.quiet;
        placed = k.placed;
        known = k.known;
        hers = λ q i z. old q i z;
        sound = λ q. sound;
        few = λ q. few;
        phase = phase_on c s.venue.kept s.venue.kept (session s c) (session s c) f f x rest_line t
            (or_one t none) gone x.connection k.phase;
      };
    }
      where
        none : Taking
        none = took (refused {A = Live} fault.NotUp f) (Ok (Report p h))

        old : (q : Partition) (i : ℕ) → or_one t none q i → is_hers c s q i ≡ true
        old q i (inl z) = k.hers q i z
        old q i (inr z) = absurd z

        only : Only p (number_of h) none
        only q i z = absurd z

        gone : Joined c s.venue.kept (session s c) f x t
            → Joined c s.venue.kept (session s c) f rest_line (or_one t none)
        gone z =
            let y' = popped z.y p h in
            let fallen = k.quiet.fallen dn in
            record {
              y = y';
              b = y';
              ds = unloads y';
              parts = λ q. subst (λ i. Whole c (record (marks_of s.venue.kept (session s c) f rest_line y' y' z.ds q) {
                load = i;
              })) (sym (at_unloads y' q)) (by_partition (λ q i. Whole c
                  (record (marks_of s.venue.kept (session s c) f rest_line z.y z.y z.ds q) {
                    brought = i;
                    base = i;
                    load = unloaded i;
                  })) z.y p (max (at z.y p) (number_of h))
                  (missed c (marks_of s.venue.kept (session s c) f x z.y z.b z.ds p) h (reports_of p rest)
                  (in_front c s.venue.kept (session s c) f x rest t p h z in_turn) (fallen p))
                  (λ q ne. based_anew c (marks_of s.venue.kept (session s c) f rest_line z.y z.b z.ds q) (fallen q)
                  (with_live c s.venue.kept (session s c) f x rest t p h z in_turn q (reports_of q rest)
                  (in_turn.others q ne))) q);
              taken = taken_popped (place_in f) t none z.y p h only z.taken;
              staged = subst (λ g. Channelled x.opening g z.ds (download (session s c)) x
                  → Channelled x.opening g (unloads y') (download (session s c)) rest_line)
                  (sym (idle_where f.line dn))
                  (channelled_on x.opening Idle z.ds (unloads y')
                  (download (session s c)) (download (session s c)) x rest_line refl refl (λ g. g) (λ st. st)) z.staged;
            }

    -- it is up
    taken_up : is_up f ≡ true
        → Goes c s (lived f (Report p h)) rest_line (or_one t (took (lived f (Report p h)) (Ok (Report p h))))
    taken_up up =
        let r = (up_of c s.venue.kept (session s c) f x t x.connection (k.up ∙ up) k.phase).0 in
        let st = now_up up in
        let g = lived f (Report p h) in
        let only = only_told p h g in
        let nx = is_next c s.venue.kept (session s c) f x rest t p h st.up in_turn in
        let (fits, now) = lives c s.venue (session s c) sound few f x rest t (took g (Ok (Report p h))) p h st in_turn only in
        record {
          fits = fits;
          keeps = λ token. record {
            up = ap up_in r ∙ sym now.on;
            quiet = quiet;
            placed = now.placed;
            known = now.known;
            hers = hers_on g nx.1.hers;
            sound = λ q. sound;
            few = λ q. few;
            phase = to_up c s.venue.kept (session s c) g.after rest_line (or_one t (took g (Ok (Report p h))))
                x.connection r now.up;
          };
        }
      where
        quiet : Quiet (lived f (Report p h)).after
        quiet = subst (λ b. Quiet (cond b (lived f (Report p h)) (refused {A = Live} fault.NotUp f)).after) up
            (stays_quiet.lives f (Ok (Report p h)) k.quiet)

  -- what is not the next under way: up, the line does not bring it
  not_next : {X : Type 0} (b : Breach) (l : Line) → is_up f ≡ true → out_of_turn b x ≡ Ok l → X
  not_next b l up ok = by (up_in x.connection) (k.up ∙ up) ok
    where
      by : {X : Type 0} (u : Bool) → u ≡ true → cond u (Err b) (Ok x) ≡ Ok l → X
      by true e g = ok_err b l (Err b) refl g
      by false e g = absurd cc

  -- not up, it changes nothing
  as_it_was : (b : Breach) (l : Line) → is_up f ≡ false → out_of_turn b x ≡ Ok l → x ≡ l
  as_it_was b l dn ok = by (up_in x.connection) (k.up ∙ dn) ok
    where
      by : (u : Bool) → u ≡ false → cond u (Err b) (Ok x) ≡ Ok l → x ≡ l
      by false e g = same_ok x l (Ok x) refl g
      by true e g = absurd cc

  -- any message that is given live
  report_live : (m : List ℕ) (p : Partition) (h : NumberedReport) → heard_in m ≡ Ok (Report p h) → (o : Option (List (List ℕ)))
      → next_of m x.live ≡ o → (x' : Line) (b : Bool) → is_up f ≡ b
      → next_live o x ≡ Ok x'
      → Goes c s (cond b (lived f (Report p h)) (refused fault.NotUp f)) x'
      (or_one t (took (cond b (lived f (Report p h)) (refused fault.NotUp f))
      (Ok (Report p h))))
  report_live m p h heard None e x' true q ok = not_next LiveOutOfTurn x' q ok
  report_live m p h heard None e x' false q ok =
      subst (λ y. Goes c s (refused {A = Live} fault.NotUp f) y
      (or_one t (took (refused {A = Live} fault.NotUp f) (Ok (Report p h)))))
      (as_it_was LiveOutOfTurn x' q ok)
      (nothing (refused {A = Live} fault.NotUp f) (took (refused {A = Live} fault.NotUp f) (Ok (Report p h))) refl refl
      (λ i n z. z))
  report_live m p h heard (Some rest) e x' true q ok =
      subst (λ y. Goes c s (lived f (Report p h)) y (or_one t (took (lived f (Report p h)) (Ok (Report p h)))))
      (same_ok (record x { live = rest }) x' (Ok (record x { live = rest })) refl ok)
      (taken_up m p h heard rest (next_is m x.live rest e) q)
  report_live m p h heard (Some rest) e x' false q ok =
      subst (λ y. Goes c s (refused {A = Live} fault.NotUp f) y
      (or_one t (took (refused {A = Live} fault.NotUp f) (Ok (Report p h)))))
      (same_ok (record x { live = rest }) x' (Ok (record x { live = rest })) refl ok)
      (not_up m p h heard rest (next_is m x.live rest e) q)

  unheard_live : (h : Heard) → lived f h ≡ answered live.Nothing f → ((p : Partition) (n : ℕ) → HeardAs p n (Ok h) → ⊥)
      → (x' : Line) → ◌≡◌ {A = Went} (Ok x) (Ok x')
      → Goes c s (live_step f (Ok h)) x' (or_one t (took (live_step f (Ok h)) (Ok h)))
  unheard_live h e none x' ok =
      subst (λ y. Goes c s (live_step f (Ok h)) y
      (or_one t (took (live_step f (Ok h)) (Ok h))))
      (same_ok x x' (Ok x) refl ok)
      (unheard h e none (is_up f))

  pub given_live_keeps : (m : List ℕ) (r : Result Heard Fault) → heard_in m ≡ r → (x' : Line)
      → given_live m r x ≡ Ok x'
      → Goes c s (live_step f r) x' (or_one t (took (live_step f r) r))
  given_live_keeps m (Err e) heard x' ok =
      subst (λ y. Goes c s (live_step f (Err e)) y
      (or_one t (took (live_step f (Err e)) (Err e)))) (same_ok x x' (Ok x) refl ok)
      (nothing (live_step f (Err e)) (took (live_step f (Err e)) (Err e)) refl refl (λ p n z. z))
  given_live_keeps m (Ok (Report p h)) heard x' ok = report_live m p h heard (next_of m x.live) refl x' (is_up f) refl ok
  given_live_keeps m (Ok (Ack i)) heard x' ok = unheard_live (Ack i) refl (λ p n z. z) x' ok
  given_live_keeps m (Ok (End i)) heard x' ok = unheard_live (End i) refl (λ p n z. z) x' ok
  given_live_keeps m (Ok Reject) heard x' ok = unheard_live Reject refl (λ p n z. z) x' ok
  given_live_keeps m (Ok Nothing) heard x' ok = unheard_live Nothing refl (λ p n z. z) x' ok

  -- ---- the recovery channel

  -- where both ends stand after it, and the follower is up still
  gone_on : {y : Line} (a : Step Recovered) (u : Taking) → is_up f ≡ true → y.connection ≡ x.connection
      → Leaves c s.venue (session s c) sound few a y (or_one t u) → Quiet a.after
      → ((p : Partition) (n : ℕ) → u p n → is_hers c s p n ≡ true)
      → Goes c s a y (or_one t u)
  gone_on {y} a u up eu (fits, st) quiet hers = record {
    fits = fits;
    keeps = λ token. record {
      up = ap up_in eu ∙ k.up ∙ up ∙ sym st.on;
      quiet = quiet;
      placed = st.placed;
      known = st.known;
      hers = λ p n h. by p n h;
      sound = λ q. sound;
      few = λ q. few;
      phase = to_up c s.venue.kept (session s c) a.after y
          (or_one t u) y.connection
          (eu ∙ (up_of c s.venue.kept (session s c) f x t x.connection (k.up ∙ up) k.phase).0) st.up;
    };
  }
    where
      by : (p : Partition) (n : ℕ) → or_one t u p n → is_hers c s p n ≡ true
      by p n (inl h) = k.hers p n h
      by p n (inr h) = hers p n h

  abbrev step_on : Heard → Step Recovered
  step_on h = recovered_step f (Ok h)

  is_on : (h : Heard) → is_up f ≡ true → step_on h ≡ recovering f h
  is_on h up = ap (λ b. cond b (recovering f h) (refused fault.NotUp f)) up

  is_off : (h : Heard) → is_up f ≡ false → step_on h ≡ refused fault.NotUp f
  is_off h dn = ap (λ b. cond b (recovering f h) (refused fault.NotUp f)) dn

  quiet_on : (h : Heard) → is_up f ≡ true → Quiet (recovering f h).after
  quiet_on h up = subst (λ (a : Step Recovered). Quiet a.after) (is_on h up) (stays_quiet.recovers f (Ok h) k.quiet)

  abbrev StillAt : PerPartition Load → Line → Type 0
  StillAt b y = Channelled y.opening Idle b (download (session s c)) y

  empty_front : {X : Type 0} (m : List ℕ) (rest : List (List ℕ)) → x.recovered ≡ m ∷ rest → x.recovered ≡ [] → X
  empty_front m rest e z = absurd (let y : m ∷ rest ≡ [] = sym e ∙ z in cc)

  refusing_front : (m : List ℕ) (rest : List (List ℕ)) → x.recovered ≡ m ∷ rest → Refusing x.recovered
      → Refuses (heard_in m) × Refusing rest
  refusing_front m rest e h = subst Refusing e h

  -- a follower that is not up takes nothing, and has nothing under way on the recovery channel; or no connection counts
  off_still : (y : Line) (h : Heard) → is_up f ≡ false → y.connection ≡ x.connection → y.live ≡ x.live
      → ((b : PerPartition Load) → StillAt b x → StillAt b y)
      → Goes c s (refused {A = Recovered} fault.NotUp f) y
      (or_one t (took (refused {A = Recovered} fault.NotUp f) (Ok h)))
  off_still y h dn eu el same = record {
    fits = refl;
    keeps = λ token. record {
      up = ap up_in eu ∙ k.up;
      quiet = k.quiet;
      placed = k.placed;
      known = k.known;
      hers = λ p n z. old_hers p n z;
      sound = λ q. sound;
      few = λ q. few;
      phase = subst (λ a. Phase a c s.venue.kept (session s c) f y (or_one t none)) (sym eu)
          (phase_on c s.venue.kept s.venue.kept (session s c) (session s c) f f x y t
          (or_one t none) joined x.connection k.phase);
    };
  }
    where
      none : Taking
      none = took (refused {A = Recovered} fault.NotUp f) (Ok h)

      old : (p : Partition) (n : ℕ) → or_one t none p n → t p n
      old p n (inl z) = z
      old p n (inr z) = absurd z

      old_hers : (p : Partition) (n : ℕ) → or_one t none p n → is_hers c s p n ≡ true
      old_hers p n z = k.hers p n (old p n z)

      joined : Joined c s.venue.kept (session s c) f x t
          → Joined c s.venue.kept (session s c) f y (or_one t none)
      joined z = record {
        y = z.y;
        b = z.b;
        ds = z.ds;
        parts = λ p. subst (λ ms. Whole c (record (marks_of s.venue.kept (session s c) f x z.y z.b z.ds p) {
          live = reports_of p ms;
        })) (sym el) (z.parts p);
        taken = λ p n i. z.taken p n (old p n i);
        staged = subst (λ g. Channelled x.opening g z.ds (download (session s c)) x
            → Channelled y.opening g z.ds (download (session s c)) y) (sym (idle_where f.line dn))
            (same z.ds) z.staged;
      }

  off_same : (h : Heard) (l : Line) → is_up f ≡ false → x ≡ l
      → Goes c s (step_on h) l (or_one t (took (step_on h) (Ok h)))
  off_same h l dn e =
      subst (λ z. Goes c s (step_on h) z (or_one t (took (step_on h) (Ok h)))) e
      (subst (λ a. Goes c s a x (or_one t (took a (Ok h)))) (sym (is_off h dn))
      (off_still x h dn refl refl (λ b z. z)))

  taken_none : {A : Type 0} (r : Result A FollowerFault) → Taken r ⊥ → ⊥
  taken_none (Ok a) h = h
  taken_none (Err e) h = h

  abbrev ChannelledUp : Opening → UpNow → Type 0
  ChannelledUp o u = Channelled o (download_of f) u.up.ds (download (session s c)) x

  -- what comes of something that is no report and the next under way
  abbrev Others : Heard → List (List ℕ) → Taking → Type 0
  Others h rest w = Leaves c s.venue (session s c) sound few (recovering f h)
      (record x { recovered = rest; again = [] }) (or_one t w)

  -- what is no report comes next
  other_came : (m : List ℕ) (h : Heard) → ((p : Partition) (n : ℕ) → HeardAs p n (Ok h) ≡ ⊥)
      → ((u : UpNow) (rest : List (List ℕ)) (w : Taking) → x.recovered ≡ m ∷ rest
      → ((p : Partition) (n : ℕ) → w p n → ⊥)
      → Leaves c s.venue (session s c) sound few (recovering f h) (record x { recovered = rest; again = [] })
      (or_one t w))
      → (o : Option (List (List ℕ))) → next_of m x.recovered ≡ o → (x' : Line) → next_other o x ≡ Ok x' → (b : Bool)
      → is_up f ≡ b
      → Goes c s (step_on h) x' (or_one t (took (step_on h) (Ok h)))
  other_came m h tells on None e x' ok true q = not_next RecoveredOutOfTurn x' q ok
  other_came m h tells on None e x' ok false q = off_same h x' q (as_it_was RecoveredOutOfTurn x' q ok)
  other_came m h tells on (Some rest) e x' ok true q =
      subst (λ y. Goes c s (step_on h) y (or_one t (took (step_on h) (Ok h))))
      (same_ok (record x { recovered = rest; again = [] }) x' (Ok (record x { recovered = rest; again = [] })) refl ok)
      (subst (λ a. Goes c s a (record x { recovered = rest; again = [] })
      (or_one t (took a (Ok h)))) (sym (is_on h q))
      (gone_on (recovering f h) (took (recovering f h) (Ok h)) q refl
      (on (now_up q) rest (took (recovering f h) (Ok h)) (next_is m x.recovered rest e) none) (quiet_on h q)
      (λ p n z. absurd (none p n z))))
    where
      none : (p : Partition) (n : ℕ) → took (recovering f h) (Ok h) p n → ⊥
      none p n z = taken_none (recovering f h).answer (subst (λ y. Taken (recovering f h).answer y) (tells p n) z)
  other_came m h tells on (Some rest) e x' ok false q =
      subst (λ y. Goes c s (step_on h) y (or_one t (took (step_on h) (Ok h))))
      (same_ok (record x { recovered = rest; again = [] }) x' (Ok (record x { recovered = rest; again = [] })) refl ok)
      (subst (λ a. Goes c s a (record x { recovered = rest; again = [] })
      (or_one t (took a (Ok h)))) (sym (is_off h q))
      (off_still (record x { recovered = rest; again = [] }) h q refl refl
      (λ b z. popped b x.opening refl z)))
    where
      front : x.recovered ≡ m ∷ rest
      front = next_is m x.recovered rest e

      popped : (b : PerPartition Load) (o : Opening) → x.opening ≡ o
          → Channelled o Idle b (download (session s c)) x
          → Channelled x.opening Idle b (download (session s c))
          (record x { recovered = rest; again = [] })
      popped b Awaited i (n, (r, a, z), st) = empty_front m rest front r
      popped b Open i (a, r, g, z) = empty_front m rest front r
      popped b Failed i (n, r, a, z) =
          subst (λ o. Channelled o Idle b (download (session s c))
          (record x { recovered = rest; again = [] })) (sym i) (n, (refusing_front m rest front r).1, refl, z)

  -- a report comes next, or again
  module _ (m : List ℕ) (p : Partition) (h : NumberedReport) (heard : heard_in m ≡ Ok (Report p h)) where
    abbrev told : Heard
    told = Report p h

    abbrev Told : Line → Type 0
    Told y = Leaves c s.venue (session s c) sound few (recovering f told) y
        (or_one t (took (recovering f told) (Ok told)))
        × (is_hers c s p (number_of h) ≡ true)

    -- where a Logon was no message only refusals are under way
    comes_next : (u : UpNow) (rest : List (List ℕ)) → x.recovered ≡ m ∷ rest → (o : Opening) → x.opening ≡ o
        → Channelled o (download_of f) u.up.ds (download (session s c)) x
        → Told (record x { recovered = rest; again = m ∷ x.again })
    comes_next u rest front Awaited i (n, (r, a, z), st) = empty_front m rest front r
    comes_next u rest front Open i st = reports c s.venue (session s c) sound few f x m t
        (took (recovering f told) (Ok told)) u p h heard (only_told p h (recovering f told)) i rest front (download_of f)
        refl st
    comes_next u rest front Failed i (n, r, a, z) = absurd (subst Refuses heard (refusing_front m rest front r).0)

    none_next : {X : Type 0} (b : PerPartition Load) (rest : List (List ℕ)) → x.recovered ≡ m ∷ rest → (o : Opening)
        → Channelled o Idle b (download (session s c)) x → X
    none_next b rest front Awaited (n, (r, a, z), st) = empty_front m rest front r
    none_next b rest front Open (a, r, g, z) = empty_front m rest front r
    none_next b rest front Failed (n, r, a, z) = absurd (subst Refuses heard (refusing_front m rest front r).0)

    none_again : {X : Type 0} → list_any (bytes_eq m) x.again ≡ true → x.again ≡ [] → X
    none_again w a = absurd (let z : list_any (bytes_eq m) [] ≡ true
        = subst (λ y. list_any (bytes_eq m) y ≡ true) a w in cc)

    comes_again : (u : UpNow) → list_any (bytes_eq m) x.again ≡ true → (o : Opening) → x.opening ≡ o
        → Channelled o (download_of f) u.up.ds (download (session s c)) x → Told x
    comes_again u w Awaited i (n, (r, a, z), st) = none_again w a
    comes_again u w Open i st = repeats c s.venue (session s c) sound few f x m t (took (recovering f told) (Ok told))
        u p h heard (only_told p h (recovering f told)) i w (download_of f) refl st
    comes_again u w Failed i (n, r, a, z) = none_again w a

    report_came : (o : Option (List (List ℕ))) → next_of m x.recovered ≡ o → (w : Bool) → list_any (bytes_eq m) x.again
        ≡ w → (x' : Line) → (b : Bool) → is_up f ≡ b → next_report m o x ≡ Ok x'
        → Goes c s (step_on told) x' (or_one t (took (step_on told) (Ok told)))
    report_came (Some rest) e w i x' true q ok =
        let y : Line = record x { recovered = rest; again = m ∷ x.again } in
        let u = now_up q in
        let r = comes_next u rest (next_is m x.recovered rest e) x.opening refl u.up.staged in
        subst (λ z. Goes c s (step_on told) z (or_one t (took (step_on told) (Ok told))))
        (same_ok y x' (Ok y) refl ok)
        (subst (λ a. Goes c s a y (or_one t (took a (Ok told)))) (sym (is_on told q))
        (gone_on (recovering f told) (took (recovering f told) (Ok told)) q refl r.0 (quiet_on told q)
        (hers_told p h (recovering f told) r.1)))
    report_came (Some rest) e w i x' false q ok =
        let y : Line = record x { recovered = rest; again = m ∷ x.again } in
        subst (λ z. Goes c s (step_on told) z (or_one t (took (step_on told) (Ok told))))
        (same_ok y x' (Ok y) refl ok)
        (subst (λ a. Goes c s a y (or_one t (took a (Ok told)))) (sym (is_off told q))
        (off_still y told q refl refl (λ b z. none_next b rest (next_is m x.recovered rest e) x.opening z)))
    report_came None e true i x' true q ok =
        let u = now_up q in
        let r = comes_again u i x.opening refl u.up.staged in
        subst (λ z. Goes c s (step_on told) z (or_one t (took (step_on told) (Ok told))))
        (same_ok x x' (repeated true x) refl (subst (λ z. repeated z x ≡ Ok x') i ok))
        (subst (λ a. Goes c s a x (or_one t (took a (Ok told)))) (sym (is_on told q))
        (gone_on (recovering f told) (took (recovering f told) (Ok told)) q refl r.0 (quiet_on told q)
        (hers_told p h (recovering f told) r.1)))
    report_came None e false i x' true q ok = not_next RecoveredOutOfTurn x' q (subst (λ z. repeated z x ≡ Ok x') i ok)
    report_came None e w i x' false q ok = off_same told x' q (by w (subst (λ z. repeated z x ≡ Ok x') i ok))
      where
        by : (z : Bool) → repeated z x ≡ Ok x' → x ≡ x'
        by true g = same_ok x x' (repeated true x) refl g
        by false g = as_it_was RecoveredOutOfTurn x' q g

  unheard_recovered : (h : Heard) → recovering f h ≡ answered recovered.Nothing f
      → ((p : Partition) (n : ℕ) → HeardAs p n (Ok h) ≡ ⊥) → (b : Bool) → is_up f ≡ b
      → Goes c s (step_on h) x (or_one t (took (step_on h) (Ok h)))
  unheard_recovered h e tells true q =
      let a : step_on h ≡ answered recovered.Nothing f = is_on h q ∙ e in
      nothing (step_on h) (took (step_on h) (Ok h)) (ap (λ (y : Step Recovered). y.after) a)
      (ap (λ (y : Step Recovered). is_unfit y.answer) a)
      (λ p n z. taken_none (step_on h).answer (subst (λ y. Taken (step_on h).answer y) (tells p n) z))
  unheard_recovered h e tells false q =
      let a = is_off h q in
      nothing (step_on h) (took (step_on h) (Ok h)) (ap (λ (y : Step Recovered). y.after) a)
      (ap (λ (y : Step Recovered). is_unfit y.answer) a)
      (λ p n z. taken_none (step_on h).answer (subst (λ y. Taken (step_on h).answer y) (tells p n) z))

  pub given_recovered_keeps : (m : List ℕ) (r : Result Heard Fault) → heard_in m ≡ r → (x' : Line)
      → given_recovered m r x ≡ Ok x'
      → Goes c s (recovered_step f r) x' (or_one t (took (recovered_step f r) r))
  given_recovered_keeps m (Err e) heard x' ok =
      subst (λ y. Goes c s (recovered_step f (Err e)) y
      (or_one t (took (recovered_step f (Err e)) (Err e)))) (same_ok x x' (Ok x) refl ok)
      (nothing (recovered_step f (Err e)) (took (recovered_step f (Err e)) (Err e)) refl refl (λ p n z. z))
  given_recovered_keeps m (Ok (Report p h)) heard x' ok = report_came m p h heard (next_of m x.recovered) refl
      (list_any (bytes_eq m) x.again) refl x' (is_up f) refl ok
  given_recovered_keeps m (Ok (Ack r)) heard x' ok =
      other_came m (Ack r) (λ p n. refl) (λ u rest w front none. by u rest w front none x.opening refl u.up.staged)
      (next_of m x.recovered) refl x' ok (is_up f) refl
    where
      by : (u : UpNow) (rest : List (List ℕ)) (w : Taking) → x.recovered ≡ m ∷ rest
          → ((p : Partition) (n : ℕ) → w p n → ⊥) → (o : Opening) → x.opening ≡ o → ChannelledUp o u
          → Others (Ack r) rest w
      by u rest w front none Awaited i (n, (e, a, z), st) = empty_front m rest front e
      by u rest w front none Open i st = acks c s.venue (session s c) sound few f x m rest t w u front none i
          (download_of f) st r heard
      by u rest w front none Failed i (n, e, a, z) = failed_acks c s.venue (session s c) sound few f x m rest t w
          u front none i a e z (download_of f) refl n r (subst Refuses heard (refusing_front m rest front e).0)
  given_recovered_keeps m (Ok (End r)) heard x' ok =
      other_came m (End r) (λ p n. refl) (λ u rest w front none. by u rest w front none x.opening refl u.up.staged)
      (next_of m x.recovered) refl x' ok (is_up f) refl
    where
      by : (u : UpNow) (rest : List (List ℕ)) (w : Taking) → x.recovered ≡ m ∷ rest
          → ((p : Partition) (n : ℕ) → w p n → ⊥) → (o : Opening) → x.opening ≡ o → ChannelledUp o u
          → Others (End r) rest w
      by u rest w front none Awaited i (n, (e, a, z), st) = empty_front m rest front e
      by u rest w front none Open i st = ends c s.venue (session s c) sound few f x m rest t w u front none i
          (download_of f) st r heard
      by u rest w front none Failed i (n, e, a, z) = absurd (subst Refuses heard (refusing_front m rest front e).0)
  given_recovered_keeps m (Ok Reject) heard x' ok =
      other_came m Reject (λ p n. refl) (λ u rest w front none. by u rest w front none x.opening refl u.up.staged)
      (next_of m x.recovered) refl x' ok (is_up f) refl
    where
      by : (u : UpNow) (rest : List (List ℕ)) (w : Taking) → x.recovered ≡ m ∷ rest
          → ((p : Partition) (n : ℕ) → w p n → ⊥) → (o : Opening) → x.opening ≡ o → ChannelledUp o u
          → Others Reject rest w
      by u rest w front none Awaited i (n, (e, a, z), st) = empty_front m rest front e
      by u rest w front none Open i st = rejects c s.venue (session s c) sound few f x m rest t w u front none i
          (download_of f) st heard
      by u rest w front none Failed i (n, e, a, z) = failed_rejects c s.venue (session s c) sound few f x m rest t w
          u front none i a e z (download_of f) refl n
  given_recovered_keeps m (Ok Nothing) heard x' ok =
      subst (λ y. Goes c s (step_on Nothing) y
      (or_one t (took (step_on Nothing) (Ok Nothing)))) (same_ok x x' (Ok x) refl ok)
      (unheard_recovered Nothing refl (λ p n. refl) (is_up f) refl)
