-- That both ends agree after every log that the line allows. Assumes nothing.
use Rattle.std.specs.Prelude.{drop, fold, nat_lt, IfOk}
use Rattle.std.specs.List.{list_any}
use Rattle.std.specs.Str.{bytes_eq}
use Rattle.std.proofs.Common.{◌≡◌, ◌≢◌, ◌⊎◌, inl, inr, ℕ, zero, suc, ◌<◌, ◌≤◌, max, Bool, true, false, cond, eqb, List, [], ◌∷◌, ◌++◌, Some, None, Ok, Err, Option, Result, length, take, refl, sym, ap, ◌∙◌, subst, arith}
use Rattle.std.proofs.Math.Seq.{take-append_seam}
use Rattle.std.proofs.lemmas.Bool.{eqb-true, eq-eqb, or_from}
use Rattle.codes.specs.declared.session.Partition.{Partition}
use Rattle.codes.specs.declared.session.Partition.TheVariants.{One, Two, Three}
use Rattle.configuration.specs.declared.participant.Participant.{Participant}
use Rattle.both_ends.proofs.Caught.{begins, shown}
use Rattle.both_ends.proofs.Flights.{Passed}
use Rattle.both_ends.proofs.Follows.{up_of, to_up, Went, same_ok, ok_err, given_live_keeps, given_recovered_keeps}
use Rattle.both_ends.proofs.Keeping.{Keeps, Phase, Joined, marks_of, place_in, Still, Staged, Channelled, Taking, AskedAs, channelled_on, idle_where, unloads, keeps_taken}
use Rattle.both_ends.proofs.Marks.{Whole, SidedBy, Load, asked_from, reloaded, asked, fallen_back}
use Rattle.both_ends.proofs.Living.{tallied_as}
use Rattle.both_ends.proofs.Refusals.{refused_stays}
use Rattle.both_ends.proofs.Requested.{request_long}
use Rattle.both_ends.proofs.Serves.{quietly, real_time, recovery_given, sends_on, recovers_on}
use Rattle.both_ends.specs.Agreement.{Agrees, AllTaken, SameOrders, Taken, Takes, HeardAs, Took, is_hers, is_unfit, place, refuses_report}
use Rattle.both_ends.specs.Allowed.{Allowed, Line, accepted, quiet, behind, after_logon, given_recovery, after_venue, after_up, after_ask, given_live, after_call, after_log, onward}
use Rattle.both_ends.specs.Laws.{state_of}
use Rattle.both_ends.specs.Runs.{Desk, Does, Runs, Tells, moved, fresh}
use Rattle.both_ends.specs.declared.allowed.Breach.TheVariants.{NoLogon}
use Rattle.both_ends.specs.declared.opening.Opening.{Opening}
use Rattle.both_ends.specs.declared.opening.Opening.TheVariants.{Awaited, Open, Failed}
use Rattle.both_ends.specs.declared.call.Asked.{Asked}
use Rattle.both_ends.specs.declared.call.Done.{Done}
use Rattle.both_ends.specs.declared.call.Done.TheVariants as done
use Rattle.follower.proofs.Quiets.{up_quiet, stays_quiet}
use Rattle.follower.specs.Asking.{request, ReadBack, is_free, asking_of, asking, partition_of, asks_of}
use Rattle.follower.specs.Following.{Following, is_up, download_of, turned, live_step, recovered_step}
use Rattle.follower.specs.Lines.{up_on, stage_on, turned_line}
use Rattle.follower.specs.Hearing.{heard_in}
use Rattle.follower.specs.Owing.{owed, token_after}
use Rattle.follower.specs.Quiet.{Quiet}
use Rattle.follower.specs.declared.fault.FollowerFault.{FollowerFault}
use Rattle.follower.specs.declared.fault.FollowerFault.TheVariants.{Buffer, NotUp, OutOfTurn}
use Rattle.follower.specs.declared.pending.Pending.{Pending}
use Rattle.follower.specs.declared.pending.Pending.TheVariants as pending
use Rattle.wire.specs.declared.message.TheConstants.{BUFFER}
use Rattle.follower.specs.declared.side.State.TheVariants.{Level, Behind}
use Rattle.follower.specs.declared.stage.Stage.{Stage}
use Rattle.follower.specs.declared.line.Line.TheVariants as line
use Rattle.follower.specs.declared.stage.Stage.TheVariants as stage
use Rattle.both_ends.specs.Connecting.{lost, up_in}
use Rattle.both_ends.specs.declared.connection.Connection.{Connection}
use Rattle.both_ends.specs.declared.connection.Connection.TheVariants as conn
use Rattle.gateway.specs.Calls.{send_fault, recovery_handed}
use Rattle.gateway.specs.State.{State, session, fresh as fresh_state}
use Rattle.limits.specs.declared.TheConstants.{ORDERS}
use Rattle.gateway_runs.proofs.Effects.{effect_realtime, effect_recovery, effect_lost, effect_send, effect_recover, effect_other}
use Rattle.gateway_runs.proofs.Growing.{only_appends, Grows}
use Rattle.gateway_runs.proofs.Walking.{hands_by}
use Rattle.gateway_runs.specs.Laws.{line_of}
use Rattle.gateway_runs.specs.Runs as venue
use Rattle.gateway_runs.specs.Runs.{bytes_of}
use Rattle.gateway_runs.specs.declared.call.Done.{Done as VenueDone}
use Rattle.gateway_runs.specs.declared.call.Done.TheVariants as call
use Rattle.gateway_runs.specs.declared.call.Reply.{Reply}
use Rattle.partitions.proofs.Written.{at_written, or_as_it_was}
use Rattle.partitions.specs.PerPartition.{at, with_at}
use Rattle.partitions.specs.declared.per_partition.PerPartition.{PerPartition}
use Rattle.sessions.specs.Sessions.{download}
use Rattle.sessions.specs.declared.session.Channel.TheVariants.{Recovery}
use Rattle.sessions.specs.declared.session.Session.{Session}
use Rattle.venue.specs.Books.{Books, Sound}
use Rattle.wire.specs.Kinds.{total_of}
use Rattle.wire.specs.declared.kinds.Kind.TheVariants.{MissedMessageRequest as Request}

-- where the line goes on
abbrev went : Line → Went
went l = Ok l

-- ---- the gateway's calls

module _ (c : ℕ) (s : State) (d : Desk) (x : Line) (t : Taking) (k : Keeps c s d x t) (w : State)
    (sound : Sound w.venue) (few : length w.venue.rows ≤ ORDERS) where
  -- the facts that each call gives
  grown : (v : VenueDone) → venue.Turns s v w → Grows s.venue.kept w.venue.kept
  grown v h = only_appends s v w h

  -- a call that is nothing to the line
  elsewhere : (v : VenueDone) → venue.Turns s v w → line_of v ≢ Some c → (x' : Line) → went x ≡ Ok x' → Keeps c w d x' t
  elsewhere v h ne x' ok =
      let e = effect_other c s v w h ne in
      subst (λ y. Keeps c w d y t) (same_ok x x' (Ok x) refl ok)
      (quietly c s d x t k w (grown v h) sound few (inl (ap (λ (z : Session). z.sent) e, ap download e)))

  another : (line : ℕ) → eqb line c ≡ false → Some line ≢ Some c
  another line q e =
      absurd (let a : line ≡ c = some_same e in let b : eqb line c ≡ true = eq-eqb line c a in let z : true
      ≡ false = sym b ∙ q in cc)
    where
      some_same : {i j : ℕ} → Some i ≡ Some j → i ≡ j
      some_same e = cc

  store_stays : (r : Reply) → venue.Turns s (call.SendRecovered c r) w → w.venue.kept ≡ s.venue.kept
  store_stays r (spare, h) = hands_by (λ (z : State). z.venue.kept ≡ s.venue.kept) s refl
      (send_fault Recovery (length r.before.items) c s) (recovery_handed c s) r.before.items r.answer w r.after.items refl h

  pub venue_keeps : (v : VenueDone) → venue.Turns s v w → venue.Tells s v → (x' : Line) → after_venue c v x ≡ Ok x'
      → Keeps c w d x' t
  venue_keeps (call.RealTime line m tm r) h told x' ok = by (eqb line c) refl ok
    where
      v : VenueDone
      v = call.RealTime line m tm r

      by : (b : Bool) → eqb line c ≡ b → cond b (after_logon (bytes_eq (bytes_of r) accepted) x) (Ok x) ≡ Ok x'
          → Keeps c w d x' t
      by true q g =
          let h' : venue.Turns s (call.RealTime c m tm r) w = subst (λ i. venue.Turns s (call.RealTime i m tm r) w)
          (eqb-true line c q) h in
          real_time c s d x t k w (grown (call.RealTime c m tm r) h') sound few (bytes_of r)
          (effect_realtime c s m tm r w h') (bytes_eq (bytes_of r) accepted) refl x' g
      by false q g = elsewhere (call.RealTime line m tm r) h (another line q) x' g
  venue_keeps (call.Recovery line m tm r) h told x' ok = by (eqb line c) refl ok
    where
      by : (b : Bool) → eqb line c ≡ b → cond b (given_recovery x.opening m.items r x) (Ok x) ≡ Ok x' → Keeps c w d x' t
      by true q g =
          let h' : venue.Turns s (call.Recovery c m tm r) w = subst (λ i. venue.Turns s (call.Recovery i m tm r) w)
          (eqb-true line c q) h in
          recovery_given c s d x t k w (grown (call.Recovery c m tm r) h') sound few m.items r
          (effect_recovery c s m tm r w h') x.opening refl x' g
      by false q g = elsewhere (call.Recovery line m tm r) h (another line q) x' g
  venue_keeps (call.Step tm r) h told x' ok = elsewhere (call.Step tm r) h (λ e. cc) x' ok
  venue_keeps (call.CancelTrade n tm r) h told x' ok = elsewhere (call.CancelTrade n tm r) h (λ e. cc) x' ok
  venue_keeps (call.LineLost line tm r) h told x' ok = by (eqb line c) refl
    where
      by : (b : Bool) → eqb line c ≡ b → Keeps c w d x' t
      by true q =
          let h' : venue.Turns s (call.LineLost c tm r) w = subst (λ i. venue.Turns s (call.LineLost i tm r) w)
          (eqb-true line c q) h in
          subst (λ y. Keeps c w d y t) (same_ok x x' (Ok x) refl ok)
          (quietly c s d x t k w (grown (call.LineLost c tm r) h') sound few (effect_lost c s tm r w h'))
      by false q = elsewhere (call.LineLost line tm r) h (another line q) x' ok
  venue_keeps (call.Send line r) h told x' ok = by (eqb line c) refl ok
    where
      by : (b : Bool) → eqb line c ≡ b → went (cond b (record x { live = behind x.live (bytes_of r) }) x) ≡ Ok x'
          → Keeps c w d x' t
      by true q g =
          let h' : venue.Turns s (call.Send c r) w = subst (λ i. venue.Turns s (call.Send i r) w) (eqb-true line c q) h in
          let told' : venue.Tells s (call.Send c r) = subst (λ i. venue.Tells s (call.Send i r))
          (eqb-true line c q) told in
          subst (λ y. Keeps c w d y t) (same_ok (record x { live = behind x.live (bytes_of r) }) x'
          (Ok (record x { live = behind x.live (bytes_of r) })) refl g)
          (sends_on c s d x t k w (grown (call.Send c r) h') sound few (length r.before.items) (bytes_of r)
          (effect_send c s r w h') told')
      by false q g = elsewhere (call.Send line r) h (another line q) x' g
  venue_keeps (call.SendRecovered line r) h told x' ok = by (eqb line c) refl ok
    where
      by : (b : Bool) → eqb line c ≡ b → went (cond b (record x { recovered = behind x.recovered (bytes_of r) }) x)
          ≡ Ok x' → Keeps c w d x' t
      by true q g =
          let h' : venue.Turns s (call.SendRecovered c r) w = subst (λ i. venue.Turns s (call.SendRecovered i r) w)
          (eqb-true line c q) h in
          let told' : venue.Tells s (call.SendRecovered c r) = subst (λ i. venue.Tells s (call.SendRecovered i r))
          (eqb-true line c q) told in
          subst (λ y. Keeps c w d y t) (same_ok (record x { recovered = behind x.recovered (bytes_of r) }) x'
          (Ok (record x { recovered = behind x.recovered (bytes_of r) })) refl g)
          (recovers_on c s d x t k w (grown (call.SendRecovered c r) h') sound few
          (length r.before.items) (bytes_of r) (store_stays r h') (effect_recover c s r w h') told')
      by false q g = elsewhere (call.SendRecovered line r) h (another line q) x' g

-- ---- up and lost

turned_up : (up : Bool) → up_on (turned_line up) ≡ up
turned_up true = refl
turned_up false = refl

turned_stage : (up : Bool) → stage_on (turned_line up) ≡ stage.Idle
turned_stage true = refl
turned_stage false = refl

turned_place : (up : Bool) (f : Following) (p : Partition) → place_in (turned up f) p ≡ place_in f p
turned_place up f One = refl
turned_place up f Two = refl
turned_place up f Three = refl

module _ (c : ℕ) (s : State) (d : Desk) (x : Line) (t : Taking) (k : Keeps c s d x t) (sound : Sound s.venue)
    (few : length s.venue.rows ≤ ORDERS) where
  abbrev turned_desk : Bool → Desk
  turned_desk up = record { follower = turned up d.follower; token = pending.Idle }

  -- the marks as they are then, of a connection that the follower is not up on yet
  turned_joined : (up : Bool) (a : Connection) → is_up d.follower ≡ false → Joined c s.venue.kept (session s c) d.follower x t
      → Joined c s.venue.kept (session s c) (turned up d.follower) (record x { connection = a }) t
  turned_joined up a dn z = record {
    y = z.y;
    b = z.y;
    ds = unloads z.y;
    parts = parts;
    taken = λ p n i. let v = z.taken p n i in let e : place_in (turned up d.follower) p
        ≡ place d p = turned_place up d.follower p in omega (arith, v, e);
    staged = subst (λ g. Channelled x.opening g (unloads z.y) (download (session s c)) (record x { connection = a }))
        (sym (turned_stage up))
        (channelled_on x.opening stage.Idle z.ds (unloads z.y) (download (session s c)) (download (session s c)) x
        (record x { connection = a }) refl refl (λ e. e) (λ i. i)
        (subst (λ g. Channelled x.opening g z.ds (download (session s c)) x) (idle_where d.follower.line dn) z.staged));
  }
    where
      parts : (p : Partition) → Whole c (marks_of s.venue.kept (session s c) (turned up d.follower) x z.y z.y (unloads z.y) p)
      parts One = fallen_back c (marks_of s.venue.kept (session s c) d.follower x z.y z.b z.ds One) (z.parts One)
      parts Two = fallen_back c (marks_of s.venue.kept (session s c) d.follower x z.y z.b z.ds Two) (z.parts Two)
      parts Three = fallen_back c (marks_of s.venue.kept (session s c) d.follower x z.y z.b z.ds Three) (z.parts Three)

  turned_keeps : (up : Bool) (x' : Line) → up_in x'.connection ≡ up
      → Phase x'.connection c s.venue.kept (session s c) (turned up d.follower) x' t
      → Keeps c s (turned_desk up) x' t
  turned_keeps up x' e ph = record {
    up = e ∙ sym (turned_up up);
    quiet = stays_quiet.turns d.follower up;
    placed = λ p. subst (λ z. (z ≡ 0) ⊎ (is_hers c s p z ≡ true)) (sym (turned_place up d.follower p)) (k.placed p);
    known = tallied_as c s.venue.kept d.follower.standings (place d) (place_in (turned up d.follower))
        (turned_place up d.follower) k.known;
    hers = k.hers;
    sound = λ q. sound;
    few = λ q. few;
    phase = ph;
  }

  pub up_keeps : (x' : Line) → after_up x.connection x ≡ Ok x' → Keeps c s (turned_desk true) x' t
  up_keeps x' ok = by x.connection refl k.phase ok
    where
      by : (a : Connection) → x.connection ≡ a → Phase a c s.venue.kept (session s c) d.follower x t → after_up a x ≡ Ok x'
          → Keeps c s (turned_desk true) x' t
      by conn.Away e ph g = ok_err NoLogon x' (Err NoLogon) refl g
      by conn.Up e ph g = ok_err NoLogon x' (Err NoLogon) refl g
      by conn.Ready e ph g =
          subst (λ y. Keeps c s (turned_desk true) y t)
          (same_ok (record x { connection = conn.Up }) x' (Ok (record x { connection = conn.Up })) refl g)
          (turned_keeps true (record x { connection = conn.Up }) refl
          (turned_joined true conn.Up (sym k.up ∙ ap up_in e) ph))

  pub lost_keeps : (x' : Line) → went (record x { connection = lost x.connection }) ≡ Ok x' → Keeps c s (turned_desk false) x' t
  lost_keeps x' ok =
      subst (λ y. Keeps c s (turned_desk false) y t)
      (same_ok left x' (Ok left) refl ok)
      (turned_keeps false left (down x.connection) (by x.connection refl k.phase))
    where
      left : Line
      left = record x { connection = lost x.connection }

      down : (a : Connection) → up_in (lost a) ≡ false
      down conn.Away = refl
      down conn.Ready = refl
      down conn.Up = refl

      by : (a : Connection) → x.connection ≡ a → Phase a c s.venue.kept (session s c) d.follower x t
          → Phase (lost a) c s.venue.kept (session s c) (turned false d.follower) left t
      by conn.Away e ph = tt
      by conn.Up e ph = tt
      by conn.Ready e ph = turned_joined false (lost x.connection) (sym k.up ∙ ap up_in e) ph

  -- ---- a request

  abbrev asked_desk : Partition → Pending → Desk
  asked_desk p token = record { follower = record d.follower { line = line.Up (stage.Asked p) }; token = token }

  -- a request is asked only of a follower that is up and has asked nothing
  pub record Free (p : Partition) : Type 0 where
    pub up : is_up d.follower ≡ true
    pub idle : download_of d.follower ≡ stage.Idle

  free_of : (b : List ℕ) (n : ℕ) (p : Partition) → asking d.follower d.token n (length b) ≡ Ok p → Free p
  free_of b n p e = by (nat_lt (length b) BUFFER) e
    where
      idle_of : (g : Stage) (o : Option Partition) → is_free g o ≡ true → g ≡ stage.Idle
      idle_of stage.Idle o h = refl
      idle_of (stage.Asked q) o h = absurd cc
      idle_of (stage.Running q) o h = absurd cc

      by_free : (b : Bool) (q : Partition) → is_free (download_of d.follower) (owed d.token) ≡ b
          → cond b (Ok q) (Err OutOfTurn) ≡ Ok p → download_of d.follower ≡ stage.Idle
      by_free true q h z = idle_of (download_of d.follower) (owed d.token) h
      by_free false q h z = absurd cc

      by_partition : (o : Option Partition) → asking_of d.follower d.token o ≡ Ok p → download_of d.follower ≡ stage.Idle
      by_partition None z = absurd cc
      by_partition (Some q) z = by_free (is_free (download_of d.follower) (owed d.token)) q refl z

      by_up : (u : Bool) → is_up d.follower ≡ u → cond u (asking_of d.follower d.token (partition_of n)) (Err NotUp)
          ≡ Ok p → Free p
      by_up true q z = record { up = q; idle = by_partition (partition_of n) z }
      by_up false q z = absurd cc

      by : (b : Bool) → cond b (Err Buffer) (cond (is_up d.follower) (asking_of d.follower d.token (partition_of n))
          (Err NotUp)) ≡ Ok p → Free p
      by true z = absurd cc
      by false z = by_up (is_up d.follower) refl z

  asked_for : (b : List ℕ) (n : ℕ) (p : Partition) → asking d.follower d.token n (length b) ≡ Ok p
      → ReadBack p (at d.follower.sides p).place → (token : Pending) → (m : List ℕ) → m
      ≡ request p (at d.follower.sides p).place
      → Keeps c s (asked_desk p token) (record x { asked = x.asked ++ m ∷ [] }) t
  asked_for b n p e back token m is =
      let fr = free_of b n p e in
      let (r, u) = up_of c s.venue.kept (session s c) d.follower x t x.connection (k.up ∙ fr.up) k.phase in
      let st = subst (λ g. Channelled x.opening g u.ds (download (session s c)) x) fr.idle u.staged in
      let now = asked_from (place d p) (at u.b p) in
      record {
        up = k.up ∙ fr.up;
        quiet = quiet fr.up;
        placed = k.placed;
        known = k.known;
        hers = k.hers;
        sound = λ q. sound;
        few = λ q. few;
        phase = to_up c s.venue.kept (session s c) (asked_desk p token).follower
            (record x { asked = x.asked ++ m ∷ [] }) t x.connection r (record {
              y = u.y;
              b = u.b;
              ds = with_at u.ds p now;
              parts = or_as_it_was (λ q z. Whole c (record (marks_of s.venue.kept (session s c) d.follower x u.y u.b u.ds q) {
                load = z;
              })) u.ds p now
                  (reloaded c (marks_of s.venue.kept (session s c) d.follower x u.y u.b u.ds p) now
                  (asked c (at s.venue.kept p) (place d p) (at u.b p) (u.parts p).based)
                  (u.parts p)) u.parts;
              taken = u.taken;
              staged = asks x.opening u.ds (with_at u.ds p now) (sym (at_written u.ds p now)) st;
            });
      }
    where
      waits : (b : ℕ) (ds : PerPartition Load) → asked_from (place d p) b ≡ at ds p → Still (download (session s c)) x
          → Staged (stage.Asked p) ds (download (session s c)) (record x { asked = x.asked ++ m ∷ [] })
      waits b ds now (a, r, ag, e) =
          let (g, w) = subst (λ z. (z.again ≡ []) × AskedAs p z (download (session s c)) (record x { asked = x.asked ++ m ∷ [] }))
          now (refl, inl (ap (λ ms. ms ++ m ∷ []) a ∙ ap (λ y. y ∷ []) is, back, r, e)) in
          (ag, g, w)

      asks : {b : ℕ} (o : Opening) (ds ds' : PerPartition Load) → asked_from (place d p) b ≡ at ds' p
          → Channelled o stage.Idle ds (download (session s c)) x
          → Channelled o (stage.Asked p) ds' (download (session s c)) (record x { asked = x.asked ++ m ∷ [] })
      asks {b} Awaited ds ds' now (n, un, st) = (tt, un, waits b ds' now st)
      asks {b} Open ds ds' now st = waits b ds' now st
      asks {b} Failed ds ds' now (n, r, ag, e) = (tt, r, ag, e)

      quiet : is_up d.follower ≡ true → Quiet (asked_desk p token).follower
      quiet up = up_quiet (asked_desk p token).follower refl

  pub ask_keeps : (n : ℕ) (r : Asked) (e : Desk) → r.answer
      ≡ (asks_of d.follower d.token r.before.items (asking d.follower d.token n (length r.before.items))).answer → r.after.items
      ≡ (asks_of d.follower d.token r.before.items (asking d.follower d.token n (length r.before.items))).out
      → e ≡ moved d (asks_of d.follower d.token r.before.items (asking d.follower d.token n (length r.before.items))).after
      → IfOk (asking d.follower d.token n (length r.before.items)) (λ p. ReadBack p (at d.follower.sides p).place)
      → Keeps c s e (after_ask r.answer r.after.items x) t
  ask_keeps n r e ea eb ee told = by (asking d.follower d.token n (length r.before.items)) refl ea eb ee told
    where
      same_desk : record { follower = d.follower; token = d.token } ≡ d
      same_desk = refl

      by : (o : Result Partition FollowerFault) → asking d.follower d.token n (length r.before.items) ≡ o → r.answer
          ≡ (asks_of d.follower d.token r.before.items o).answer → r.after.items ≡ (asks_of d.follower d.token r.before.items o).out
          → e ≡ moved d (asks_of d.follower d.token r.before.items o).after → IfOk o (λ p. ReadBack p (at d.follower.sides p).place)
          → Keeps c s e (after_ask r.answer r.after.items x) t
      by (Err f) q a b z told = subst (λ y. Keeps c s e (after_ask y r.after.items x) t) (sym a)
          (subst (λ y. Keeps c s y x t) (sym z)
          (keeps_taken c s d x t t (token_after d.follower d.follower d.token) (λ p n i. i) k))
      by (Ok p) q a b z told =
          let m = request p (at d.follower.sides p).place in
          let is : take (total_of Request) (m ++ drop (total_of Request) r.before.items)
          ≡ m = ap (λ i. take i (m ++ drop (total_of Request) r.before.items))
          (sym (request_long p (at d.follower.sides p).place told)) ∙ take-append_seam m
          (drop (total_of Request) r.before.items) in
          subst (λ y. Keeps c s e (after_ask y r.after.items x) t) (sym a)
          (subst (λ y. Keeps c s e (record x { asked = x.asked ++ take (total_of Request) y ∷ [] }) t) (sym b)
          (subst (λ y. Keeps c s y (record x {
            asked = x.asked
                ++ take (total_of Request) (m ++ drop (total_of Request) r.before.items) ∷ [];
          }) t) (sym z)
          (asked_for r.before.items n p q told (token_after d.follower (asks_of d.follower d.token r.before.items (Ok p)).after d.token)
          (take (total_of Request) (m ++ drop (total_of Request) r.before.items)) is)))

-- ---- any call

-- a call keeps what holds, and the fold refused no report that came with it
abbrev pub KeptBy : ℕ → State → Desk → Line → Taking → Done → Type 0
KeptBy c w e x t z = (refuses_report z ≡ false) × Keeps c w e x (λ p n. t p n ⊎ Takes p n z)

no_more : (t : Taking) (u : Taking) → ((p : Partition) (n : ℕ) → u p n → ⊥) → (p : Partition) (n : ℕ) → t p n ⊎ u p n
    → t p n
no_more t u none p n (inl h) = h
no_more t u none p n (inr h) = absurd (none p n h)

pub call_keeps : (c : ℕ) (s : State) (d : Desk) (x : Line) (t : Taking) (z : Done) (w : State) (e : Desk) (x' : Line)
    → Keeps c s d x t → Does s d z w e → Tells s d z → Sound w.venue → length w.venue.rows ≤ ORDERS → after_call c z x
    ≡ Ok x' → KeptBy c w e x' t z
call_keeps c s d x t (done.Venue v) w e x' k (h, q) told sound few ok = (
  refl,
  subst (λ y. Keeps c w y x' (λ p n. t p n ⊎ ⊥)) (sym q)
      (keeps_taken c w d x' t (λ p n. t p n ⊎ ⊥) d.token (no_more t (λ p n. ⊥) (λ p n i. i))
      (venue_keeps c s d x t k w sound few v h told x' ok)),
)
call_keeps c s d x t done.Up w e x' k (h, q) told sound few ok =
    let sound' = subst (λ (y : State). Sound y.venue) h sound in
    let few' = subst (λ (y : State). length y.venue.rows ≤ ORDERS) h few in (
      refl,
      subst (λ y. Keeps c y e x' (λ p n. t p n ⊎ ⊥)) (sym h) (subst (λ y. Keeps c s y x' (λ p n. t p n ⊎ ⊥)) (sym q)
          (keeps_taken c s _ x' t (λ p n. t p n ⊎ ⊥) _ (no_more t (λ p n. ⊥) (λ p n i. i))
          (up_keeps c s d x t k sound' few' x' ok))),
    )
call_keeps c s d x t done.Lost w e x' k (h, q) told sound few ok =
    let sound' = subst (λ (y : State). Sound y.venue) h sound in
    let few' = subst (λ (y : State). length y.venue.rows ≤ ORDERS) h few in (
      refl,
      subst (λ y. Keeps c y e x' (λ p n. t p n ⊎ ⊥)) (sym h) (subst (λ y. Keeps c s y x' (λ p n. t p n ⊎ ⊥)) (sym q)
          (keeps_taken c s _ x' t (λ p n. t p n ⊎ ⊥) _ (no_more t (λ p n. ⊥) (λ p n i. i))
          (lost_keeps c s d x t k sound' few' x' ok))),
    )
call_keeps c s d x t (done.Ask n r) w e x' k (h, a, b, q) told sound few ok =
    let sound' = subst (λ (y : State). Sound y.venue) h sound in
    let few' = subst (λ (y : State). length y.venue.rows ≤ ORDERS) h few in (
      refl,
      subst (λ y. Keeps c y e x' (λ p n. t p n ⊎ ⊥)) (sym h)
          (keeps_taken c s e x' t (λ p n. t p n ⊎ ⊥) e.token (no_more t (λ p n. ⊥) (λ p n i. i))
          (subst (λ y. Keeps c s e y t) (same_ok (after_ask r.answer r.after.items x) x'
          (Ok (after_ask r.answer r.after.items x)) refl ok) (ask_keeps c s d x t k sound' few' n r e a b q told))),
    )
call_keeps c s d x t (done.Live m r) w e x' k (h, a, q) told sound few ok =
    let sound' = subst (λ (y : State). Sound y.venue) h sound in
    let few' = subst (λ (y : State). length y.venue.rows ≤ ORDERS) h few in
    let g = given_live_keeps c s d x t sound' few' k m.items (heard_in m.items) refl x' ok in (
      ap is_unfit a ∙ g.fits,
      subst (λ y. Keeps c y e x' (λ p n. t p n ⊎ Taken r (HeardAs p n (heard_in m.items)))) (sym h)
          (subst (λ y. Keeps c s y x' (λ p n. t p n ⊎ Taken r (HeardAs p n (heard_in m.items)))) (sym q)
          (subst (λ y. Keeps c s (moved d (live_step d.follower (heard_in m.items)).after) x'
          (λ p n. t p n ⊎ Taken y (HeardAs p n (heard_in m.items)))) (sym a)
          (g.keeps (token_after d.follower (live_step d.follower (heard_in m.items)).after d.token)))),
    )
call_keeps c s d x t (done.Recovered m r) w e x' k (h, a, q) told sound few ok =
    let sound' = subst (λ (y : State). Sound y.venue) h sound in
    let few' = subst (λ (y : State). length y.venue.rows ≤ ORDERS) h few in
    let g = given_recovered_keeps c s d x t sound' few' k m.items (heard_in m.items) refl x' ok in (
      ap is_unfit a ∙ g.fits,
      subst (λ y. Keeps c y e x' (λ p n. t p n ⊎ Taken r (HeardAs p n (heard_in m.items)))) (sym h)
          (subst (λ y. Keeps c s y x' (λ p n. t p n ⊎ Taken r (HeardAs p n (heard_in m.items)))) (sym q)
          (subst (λ y. Keeps c s (moved d (recovered_step d.follower (heard_in m.items)).after) x'
          (λ p n. t p n ⊎ Taken y (HeardAs p n (heard_in m.items)))) (sym a)
          (g.keeps (token_after d.follower (recovered_step d.follower (heard_in m.items)).after d.token)))),
    )

-- ---- any log

-- a log that is allowed was allowed up to each call
went_on : (c : ℕ) (r : Went) (xs : List Done) (l : Line) → fold (onward c) r xs ≡ Ok l
    → (x : Line) × (r ≡ Ok x) × (after_log c xs x ≡ Ok l)
went_on c (Ok x) xs l h = (x, refl, h)
went_on c (Err b) xs l h =
    absurd (let z : Err b ≡ Ok l = sym (refused_stays c b xs) ∙ h in cc)

-- what one of the calls gave was given by the first of them or by one behind it
took_one : (p : Partition) (n : ℕ) (x : Done) (xs : List Done) → Took p n (x ∷ xs) → Takes p n x ⊎ Took p n xs
took_one p n x xs (zero, y, l, e, h) = inl (subst (Takes p n) (sym e) h)
took_one p n x xs (suc k, y, l, e, h) = inr (k, y, omega arith, e, h)

took_none : (p : Partition) (n : ℕ) → Took p n [] → ⊥
took_none p n (k, y, l, e, h) = omega arith

pub log_keeps : (c : ℕ) (xs : List Done) (s : State) (d : Desk) (x : Line) (t : Taking) (w : State) (e : Desk)
    (l : Line) → Keeps c s d x t → Runs s d xs w e → after_log c xs x ≡ Ok l → (list_any refuses_report xs ≡ false)
    × Keeps c w e l (λ p n. t p n ⊎ Took p n xs)
log_keeps c [] s d x t w e l k (a, b) ok = (
  refl,
  subst (λ y. Keeps c w e y (λ p n. t p n ⊎ Took p n [])) (same_ok x l (Ok x) refl ok)
      (subst (λ y. Keeps c y e x (λ p n. t p n ⊎ Took p n [])) (sym a)
      (subst (λ y. Keeps c s y x (λ p n. t p n ⊎ Took p n [])) (sym b)
      (keeps_taken c s d x t (λ p n. t p n ⊎ Took p n []) d.token (no_more t (λ p n. Took p n []) took_none) k))),
)
log_keeps c (z ∷ xs) s d x t w e l k (u, f, does, tells, sound, few, tied, rest) ok =
    let (y, h, g) = went_on c (after_call c z x) xs l ok in
    let (fits, kept) = call_keeps c s d x t z u f y k does tells sound few h in
    let (all, keeps) = log_keeps c xs u f y (λ p n. t p n ⊎ Takes p n z) w e l kept rest g in (
      or_from (refuses_report z) (list_any refuses_report xs) fits all,
      keeps_taken c w e l (λ p n. (t p n ⊎ Takes p n z) ⊎ Took p n xs) (λ p n. t p n ⊎ Took p n (z ∷ xs))
          e.token (λ p n i. either p n i) keeps,
    )
  where
    either : (p : Partition) (n : ℕ) → t p n ⊎ Took p n (z ∷ xs) → (t p n ⊎ Takes p n z) ⊎ Took p n xs
    either p n (inl h) = inl (inl h)
    either p n (inr h) = elim (took_one p n z xs h) [ inl g ↦ inl (inr g) | inr g ↦ inr g ]

-- ---- the start

fresh_place : (p : Partition) → place fresh p ≡ 0
fresh_place One = refl
fresh_place Two = refl
fresh_place Three = refl

pub begun : (c : ℕ) (ps : List Participant) (v : Books) → Keeps c (fresh_state ps v) fresh quiet (λ p n. ⊥)
begun c ps v = record {
  up = refl;
  quiet = stays_quiet.begins;
  placed = λ p. inl (fresh_place p);
  known = tallied_as c v.kept fresh.follower.standings (λ p. 0) (place fresh) fresh_place (begins c v.kept);
  hers = λ p n h. absurd h;
  sound = λ e. absurd cc;
  few = λ e. absurd cc;
  phase = tt;
}

-- ---- the end

-- a follower that is level somewhere is up
level_up : (d : Desk) (p : Partition) → Quiet d.follower → state_of d p ≡ Level → is_up d.follower ≡ true
level_up d p q l = by (is_up d.follower) refl
  where
    by : (b : Bool) → is_up d.follower ≡ b → is_up d.follower ≡ true
    by true e = e
    by false e = absurd (let z : Level ≡ Behind [] = sym l ∙ q.fallen e p in cc)

module _ (c : ℕ) (xs : List Done) (w : State) (e : Desk) (l : Line) (k : Keeps c w e l (λ p n. ⊥ ⊎ Took p n xs)) where
  same_orders : (p : Partition) → state_of e p ≡ Level → AllTaken c w p xs → (n : ℕ) → SameOrders c w e p n
  same_orders p lv all n =
      let up = level_up e p k.quiet lv in
      let (r, u) = up_of c w.venue.kept (session w c) e.follower l (λ p n. ⊥ ⊎ Took p n xs) l.connection
      (k.up ∙ up) k.phase in
      let passed : Passed c (at w.venue.kept p) (place e p) (at u.y p) =
      subst (λ z. SidedBy z c (at w.venue.kept p) (place e p) (at u.y p) (at u.b p)) lv (u.parts p).sided in
      record {
        shown = shown w.venue.instruments w.venue.rows w.venue.kept c e.follower.standings (place e)
            (k.sound up).recorded k.known p (λ j lt. above j lt (is_hers c w p j) refl (at u.y p) passed
            (u.taken p j)) n;
        held = (k.sound up).booked n;
      }
    where
      above : (j : ℕ) → place e p < j → (b : Bool) → is_hers c w p j ≡ b → (y : ℕ)
          → Passed c (at w.venue.kept p) (place e p) y → (⊥ ⊎ Took p j xs → j ≤ max (place e p) y)
          → is_hers c w p j ≡ false
      above j lt true q y ps taken = let le = taken (inr (all j q)) in ps j lt (omega (arith, lt, le))
      above j lt false q y ps taken = q

pub agrees : (c : ℕ) (ps : List Participant) (v : Books) (xs : List Done) (w : State) (e : Desk)
    → Runs (fresh_state ps v) fresh xs w e → Allowed c xs → Agrees c xs w e
agrees c ps v xs w e runs (l, ok) =
    let (fits, k) = log_keeps c xs (fresh_state ps v) fresh quiet (λ p n. ⊥) w e l (begun c ps v) runs ok in
    record {
      placed = k.placed;
      known = k.known;
      fits = fits;
      level = same_orders c xs w e l k;
    }
