-- That each call of the gateway keeps what holds of both ends. Assumes nothing.
use Rattle.std.specs.Str.{bytes_eq}
use Rattle.std.proofs.Common.{◌≡◌, ◌≢◌, ◌⊎◌, inl, inr, ℕ, ◌≤◌, Bool, true, false, cond, List, [], ◌∷◌, ◌++◌, Some, None, Ok, Err, Option, Result, length, pos, refl, sym, ap, ◌∙◌, subst, arith}
use Rattle.std.proofs.lemmas.Bool.{eqb-true, true≢false}
use Rattle.std.proofs.lemmas.Slice.Eq.{bytes_eq-Decides}
use Rattle.answers.specs.Bytes.{answer_bytes, end_bytes}
use Rattle.answers.specs.declared.answer.Answer.{Answer}
use Rattle.answers.specs.declared.answer.Answer.TheVariants as answer
use Rattle.codes.specs.Session.{partition_code}
use Rattle.codes.specs.declared.session.AckResponse.{AckResponse}
use Rattle.codes.specs.declared.session.AckResponse.TheVariants.{Successful, LimitReached, InvalidAppId, ServiceUnavailable}
use Rattle.codes.specs.declared.session.ReportResponse.{ReportResponse}
use Rattle.codes.specs.declared.session.ReportResponse.TheVariants as ending
use Rattle.codes.specs.declared.session.Partition.{Partition}
use Rattle.codes.specs.declared.session.Partition.TheVariants.{One, Two, Three}
use Rattle.both_ends.proofs.Carrying.{held, Tells, Sent, reports_of, Back, back, same_or_not, Delivery, OfPart, Over, delivery_runs, delivery_more, delivery_end}
use Rattle.both_ends.proofs.Marks.{Marks, Whole, SidedBy, Load, Loaded, loaded_on, none_loaded, reloaded, begun as begun_to, handed_out as handed_more, completed, stored_more, sent_past, sent_more}
use Rattle.both_ends.proofs.Caught.{grows}
use Rattle.both_ends.proofs.Flights.{Passed, Next, there_within, hers_grown, longer, hers_is}
use Rattle.both_ends.proofs.Follows.{next_is, same_ok, ok_err}
use Rattle.both_ends.proofs.Heard.{report_heard, end_heard, ack_heard, reject_heard, logon_heard, nothing_heard}
use Rattle.both_ends.proofs.Keeping.{Keeps, Phase, Joined, marks_of, Staged, Channelled, AskedAs, Waits, Refuses, Taking, channelled_on, channelled_live, phase_on, idle_where, unloads, at_unloads, Refusing, opened, refusing_more, staged_cut}
use Rattle.both_ends.proofs.Sendings.{SentBy, sends, HandedBy, hands}
use Rattle.both_ends.specs.Agreement.{is_hers, place}
use Rattle.both_ends.specs.Allowed.{Line, connected, accepted, next_of, after_logon, behind, answered, after_recovery, after_failure, given_recovery, is_failed_logon, is_grant, is_reject, left_reject}
use Rattle.both_ends.specs.Runs.{Desk}
use Rattle.both_ends.specs.declared.allowed.Breach.TheVariants.{StillUp, NotAsked, GrantedOverFailure}
use Rattle.both_ends.specs.declared.opening.Opening.{Opening}
use Rattle.both_ends.specs.declared.opening.Opening.TheVariants.{Awaited, Open, Failed}
use Rattle.both_ends.specs.Connecting.{up_in}
use Rattle.gateway_runs.specs.declared.call.Reply.{Reply}
use Rattle.gateway.specs.declared.fault.GatewayFault.{GatewayFault}
use Rattle.gateway_runs.specs.Runs.{bytes_of, left}
use Rattle.follower.specs.Asking.{request, IsRequest}
use Rattle.follower.specs.Following.{Following, is_up, download_of}
use Rattle.follower.specs.Hearing.{heard_in}
use Rattle.follower.specs.declared.heard.Heard.{Heard}
use Rattle.follower.specs.declared.heard.Heard.TheVariants.{Report, Ack, End, Reject, Nothing}
use Rattle.follower.specs.declared.heard.NumberedReport.{NumberedReport}
use Rattle.follower.specs.declared.stage.Stage.{Stage}
use Rattle.follower.specs.declared.stage.Stage.TheVariants.{Idle, Asked, Running}
use Rattle.gateway.specs.Calls.{sent_bytes, recovered_bytes}
use Rattle.gateway.specs.Hearing.{partition_of}
use Rattle.gateway.specs.State.{State, session, lasts}
use Rattle.gateway.specs.Telling.{SentTold, RecoveredTold, SendTold, RecoverTold}
use Rattle.keyed.specs.Numbers.{under}
use Rattle.layout.specs.declared.fault.Fault.{Fault}
use Rattle.limits.specs.declared.TheConstants.{ORDERS}
use Rattle.gateway_runs.proofs.Effects.{Stays, Closes, Opens, RealTimeDoes, Grants, RecoveryDoes, SendDoes, RecoverDoes}
use Rattle.gateway_runs.proofs.Growing.{Grows}
use Rattle.session_messages.specs.declared.missed_message_request.MissedMessageRequest.{MissedMessageRequest}
use Rattle.partitions.proofs.Written.{at_written, or_as_it_was}
use Rattle.partitions.specs.PerPartition.{at, with_at}
use Rattle.partitions.specs.declared.per_partition.PerPartition.{PerPartition}
use Rattle.reports.specs.Tally.{is_of}
use Rattle.reports.specs.declared.report.Entry.{Entry}
use Rattle.sessions.specs.Downloads.{begun, recovered, handed_out, remaining}
use Rattle.sessions.specs.Sending.{next_to_send, sent_after}
use Rattle.sessions.specs.Sessions.{download}
use Rattle.sessions.specs.declared.download.Download.{Download}
use Rattle.sessions.specs.declared.download.HandedOut.{HandedOut}
use Rattle.sessions.specs.declared.download.HandedOut.TheVariants as handed
use Rattle.store.specs.Kept.{Kept}
use Rattle.store.specs.Messages.{EntryTold, entry_bytes}
use Rattle.venue.specs.Books.{Sound}
use Rattle.wire.specs.Messages.{Reads}
use Rattle.wire.specs.declared.kinds.Channel.TheVariants as reader
use Rattle.wire.specs.declared.message.Message.TheVariants as message

-- ---- what the gateway hands out is heard

behind_some : (ms : List (List ℕ)) (m : List ℕ) (h : Heard) → heard_in m ≡ Ok h → behind ms m ≡ ms ++ m ∷ []
behind_some ms [] h e = absurd (let (f, g) = nothing_heard in let z : Ok h ≡ Err f = sym e ∙ g in cc)
behind_some ms (b ∷ m) h e = refl

-- the owner's report under a number is heard in its bytes
pub record Brought (c : ℕ) (l : List Entry) (p : Partition) (n : ℕ) (m : List ℕ) : Type 0 where
  pub entry : Entry
  pub tells : Tells c l (held n entry)
  pub heard : heard_in m ≡ Ok (Report p (held n entry))

brought : (c : ℕ) (l : List Entry) (p : Partition) (n : ℕ) → is_of c (under l n) ≡ true → EntryTold p n (under l n)
    → Brought c l p n (entry_bytes p n (under l n))
brought c l p n t told =
    let h = hers_is c l n t in
    subst (λ (o : Option Entry). EntryTold p n o → Brought c l p n (entry_bytes p n o)) (sym h.stands)
    (λ w. record {
      entry = h.entry;
      tells = record { entry = h.entry; stands = h.stands; owner = h.owner; told = refl };
      heard = report_heard p n h.entry.report w;
    })
    told

-- ---- what does not depend on the call

module _ (c : ℕ) (s : State) (d : Desk) (x : Line) (t : Taking) (k : Keeps c s d x t) (w : State)
    (g : Grows s.venue.kept w.venue.kept) (sound : Sound w.venue) (few : length w.venue.rows ≤ ORDERS) where
  abbrev f : Following
  f = d.follower

  abbrev old : Kept
  old = s.venue.kept

  abbrev new : Kept
  new = w.venue.kept

  place_within : (p : Partition) → place d p ≤ length (at old p)
  place_within p = by (k.placed p)
    where
      by : (place d p ≡ 0) ⊎ (is_hers c s p (place d p) ≡ true) → place d p ≤ length (at old p)
      by (inl e) = omega (arith, e)
      by (inr h) = there_within c (at old p) (place d p) h

  placed_on : (p : Partition) → (place d p ≡ 0) ⊎ (is_hers c w p (place d p) ≡ true)
  placed_on p = by (k.placed p)
    where
      by : (place d p ≡ 0) ⊎ (is_hers c s p (place d p) ≡ true) → (place d p ≡ 0) ⊎ (is_hers c w p (place d p) ≡ true)
      by (inl e) = inl e
      by (inr h) = inr (hers_grown c (at old p) (at new p) (place d p) (g p) h)

  keeps_on : (x' : Line) → up_in x'.connection ≡ up_in x.connection → Phase x'.connection c new (session w c) f x' t → Keeps c w d x' t
  keeps_on x' e ph = record {
    up = e ∙ k.up;
    quiet = k.quiet;
    placed = placed_on;
    known = grows c old new f.standings (place d) g place_within k.known;
    hers = λ p n h. hers_grown c (at old p) (at new p) n (g p) (k.hers p n h);
    sound = λ q. sound;
    few = λ q. few;
    phase = ph;
  }

  -- the downloads and the recovery channel as the call leaves them
  pub record Carried (x' : Line) (a : Stage) (b : PerPartition ℕ) : Type 0 where
    pub ds : PerPartition Load
    pub loaded : (p : Partition) → Loaded c (at new p) (place d p) (at b p) (at ds p)
    pub staged : Channelled x'.opening a ds (download (session w c)) x'

  abbrev Carries : Line → Type 0
  Carries x' =
      (a : Stage) (b : PerPartition ℕ) (ds : PerPartition Load) → ((p : Partition) → at b p ≤ length (at old p))
      → ((p : Partition) → Loaded c (at new p) (place d p) (at b p) (at ds p))
      → Channelled x.opening a ds (download (session s c)) x → Carried x' a b

  -- the marks, but for the store and the downloads, as the call leaves them
  abbrev Parts : Line → PerPartition ℕ → PerPartition ℕ → PerPartition ℕ → PerPartition Load → Type 0
  Parts x' sent y b ds = (p : Partition) → Whole c (record (marks_of old (session s c) f x' y b ds p) { sent = at sent p })

  -- by what it makes of them and of the recovery channel, where the line goes on
  goes_on : (x' : Line) (sent' : PerPartition ℕ) → x'.connection ≡ x.connection → (session w c).sent ≡ sent'
      → ((y b : PerPartition ℕ) (ds : PerPartition Load) → Parts x (session s c).sent y b ds → Parts x' sent' y b ds)
      → Carries x' → Keeps c w d x' t
  goes_on x' sent' same es moved st = keeps_on x' (ap up_in same)
      (subst (λ a. Phase a c new (session w c) f x' t) (sym same)
      (phase_on c old new (session s c) (session w c) f f x x' t t on x.connection k.phase))
    where
      on : Joined c old (session s c) f x t → Joined c new (session w c) f x' t
      on u =
          let cr = st (download_of f) u.b u.ds (λ p. (u.parts p).based)
          (λ p. loaded_on c (at old p) (at new p) (place d p) (place d p) (at u.b p) (at u.ds p) (g p) (omega arith)
          (u.parts p).loaded) u.staged in
          record {
            y = u.y;
            b = u.b;
            ds = cr.ds;
            parts = λ p. subst (λ z. Whole c (record (marks_of new (session w c) f x' u.y u.b cr.ds p) { sent = at z p }))
                (sym es) (reloaded c (record (marks_of new (session s c) f x' u.y u.b u.ds p) { sent = at sent' p })
                (at cr.ds p) (cr.loaded p)
                (stored_more c (record (marks_of old (session s c) f x' u.y u.b u.ds p) { sent = at sent' p }) (at new p) (g p)
                (moved u.y u.b u.ds u.parts p)));
            taken = u.taken;
            staged = cr.staged;
          }

  -- the session stays, or its channels are closed
  pub quietly : Stays (session s c) (session w c) ⊎ Closes (session s c) (session w c) → Keeps c w d x t
  quietly (inl (es, ed)) = goes_on x (session s c).sent refl es (λ y b ds h. h) (λ a b ds bases lds st. record {
    ds = ds;
    loaded = lds;
    staged = subst (λ o. Channelled x.opening a ds o x) (sym ed) st;
  })
  quietly (inr (es, ed)) = goes_on x (session s c).sent refl es (λ y b ds h. h) (λ a b ds bases lds st. record {
    ds = ds;
    loaded = lds;
    staged = subst (λ o. Channelled x.opening a ds o x) (sym ed)
        (channelled_on x.opening a ds ds (download (session s c)) None x x refl refl (λ e. refl)
        (staged_cut a ds (download (session s c)) x) st);
  })

  -- ---- a Logon is accepted

  pub logs_on : Opens old (session w c) → (b : Bool) → up_in x.connection ≡ b → (x' : Line) → cond b (Err StillUp) (Ok connected)
      ≡ Ok x' → Keeps c w d x' t
  logs_on o true e x' ok = ok_err StillUp x' (Err StillUp) refl ok
  logs_on (es, ed) false e x' ok =
      subst (λ y. Keeps c w d y t) (same_ok connected x' (Ok connected) refl ok) (keeps_on connected (sym e) ready)
    where
      last : (p : Partition) → at (lasts old) p ≡ length (at old p)
      last One = refl
      last Two = refl
      last Three = refl

      none : (p : Partition) → at (lasts old) p ≤ length (at new p)
      none p =
          let a = longer (at old p) (at new p) (g p) in let z : at (lasts old) p
          ≡ length (at old p) = last p in omega (arith, a, z)

      dn : is_up f ≡ false
      dn = sym k.up ∙ e

      ready : Joined c new (session w c) f connected t
      ready = record {
        y = lasts old;
        b = lasts old;
        ds = unloads (lasts old);
        parts = λ p. subst (λ z. Whole c
            (record (marks_of new (session w c) f connected (lasts old) (lasts old) (unloads (lasts old)) p) {
              sent = at z p;
            })) (sym es) (subst (λ i. Whole c
            (record (marks_of new (session s c) f connected (lasts old) (lasts old) (unloads (lasts old)) p) {
              sent = at (lasts old) p;
              load = i;
            })) (sym (at_unloads (lasts old) p)) (record {
              within = none p;
              ahead = none p;
              based = none p;
              run = λ j lt le. absurd (omega (arith, lt, le));
              rising = omega arith;
              sided = subst (λ z. SidedBy z c (at new p) (place d p) (at (lasts old) p) (at (lasts old) p))
                  (sym (k.quiet.fallen dn p)) (λ j lt le. absurd (omega (arith, lt, le)));
              loaded = none_loaded c (at new p) (place d p) (at (lasts old) p) (none p);
            }));
        taken = λ p n h. let a = there_within c (at old p) n (k.hers p n h) in let z : at (lasts old) p
            ≡ length (at old p) = last p in omega (arith, a, z);
        staged = subst (λ i. Channelled connected.opening i (unloads (lasts old)) (download (session w c)) connected)
            (sym (idle_where f.line dn)) (tt, (refl, refl, ed), (refl, refl, refl, ed));
      }

  pub real_time : (bytes : List ℕ) → RealTimeDoes old bytes (session s c) (session w c) → (b : Bool)
      → bytes_eq bytes accepted ≡ b → (x' : Line) → after_logon b x ≡ Ok x' → Keeps c w d x' t
  real_time bytes (inl (e, o)) true q x' ok = logs_on o (up_in x.connection) refl x' ok
  real_time bytes (inl (e, o)) false q x' ok = absurd
      (let z : true ≡ false = sym ((bytes_eq-Decides bytes accepted).1 e) ∙ q in cc)
  real_time bytes (inr (ne, h)) true q x' ok = absurd (ne ((bytes_eq-Decides bytes accepted).0 q))
  real_time bytes (inr (ne, h)) false q x' ok = subst (λ y. Keeps c w d y t) (same_ok x x' (Ok x) refl ok) (quietly h)

  -- ---- the real-time channel

  -- nothing was sent
  sent_nothing : (bytes : List ℕ) → bytes ≡ [] → Keeps c w d x t
      → Keeps c w d (record x { live = behind x.live bytes }) t
  sent_nothing bytes e h = subst (λ z. Keeps c w d (record x { live = behind x.live z }) t) (sym e) h

  -- a report was sent
  report_sent : (sent' y b : PerPartition ℕ) (ds : PerPartition Load) (q : Partition) (n : ℕ) (m : List ℕ) (i : Entry)
      → Sent c old (session s c).sent sent' q n → heard_in m ≡ Ok (Report q (held n i)) → Tells c (at old q) (held n i)
      → Parts x (session s c).sent y b ds → Parts (record x { live = x.live ++ m ∷ [] }) sent' y b ds
  report_sent sent' y b ds q n m i st hd tl h p = by (same_or_not q p)
    where
      to : Back q (held n i) x.live m
      to = back q (held n i) x.live m hd

      marks : Partition → List NumberedReport → ℕ → Marks
      marks p hs n = record (marks_of old (session s c) f x y b ds p) { live = hs; sent = n }

      here : Whole c (marks q (reports_of q (x.live ++ m ∷ [])) (at sent' q))
      here =
          subst (λ hs. Whole c (marks q hs (at sent' q))) (sym to.here)
          (subst (λ z. Whole c (marks q (reports_of q x.live ++ held n i ∷ []) z)) (sym st.mark)
          (sent_more c (marks_of old (session s c) f x y b ds q) (held n i) tl st.above st.next (h q)))

      by : (q ≡ p) ⊎ (q ≢ p) → Whole c (marks p (reports_of p (x.live ++ m ∷ [])) (at sent' p))
      by (inl e) = subst (λ u. Whole c (marks u (reports_of u (x.live ++ m ∷ [])) (at sent' u))) e here
      by (inr ne) =
          let mv = st.others p ne in
          subst (λ hs. Whole c (marks p hs (at sent' p))) (sym (to.others p ne))
          (sent_past c (marks_of old (session s c) f x y b ds p) (at sent' p) mv.within mv.up mv.passed (h p))

  -- by what was sent, one thing under way live more or none
  goes_live : (ms : List (List ℕ)) (sent' : PerPartition ℕ) → (session w c).sent ≡ sent'
      → download (session w c) ≡ download (session s c)
      → ((y b : PerPartition ℕ) (ds : PerPartition Load) → Parts x (session s c).sent y b ds
      → Parts (record x { live = ms }) sent' y b ds)
      → Keeps c w d (record x { live = ms }) t
  goes_live ms sent' es ed moved = goes_on (record x { live = ms }) sent' refl es moved (λ a b ds bases lds st. record {
    ds = ds;
    loaded = lds;
    staged = subst (λ o. Channelled x.opening a ds o (record x { live = ms })) (sym ed)
        (channelled_live x.opening a ds (download (session s c)) x ms st);
  })

  sends_by : (o : Option (Partition × ℕ)) (sent' : PerPartition ℕ) (bytes : List ℕ)
      → ((y b : PerPartition ℕ) (ds : PerPartition Load) → Parts x (session s c).sent y b ds
      → SentBy c old (session s c).sent sent' o)
      → bytes ≡ sent_bytes old o → (session w c).sent ≡ sent' → download (session w c) ≡ download (session s c)
      → SentTold old o
      → Keeps c w d (record x { live = behind x.live bytes }) t
  sends_by None sent' bytes by e es ed told =
      subst (λ z. Keeps c w d (record x { live = behind x.live z }) t) (sym e)
      (goes_live x.live sent' es ed (λ y b ds h p. let mv = by y b ds h p in
      sent_past c (marks_of old (session s c) f x y b ds p) (at sent' p) mv.within mv.up mv.passed (h p)))
  sends_by (Some (q, n)) sent' bytes by e es ed told =
      subst (λ z. Keeps c w d (record x { live = behind x.live z }) t) (sym e) (all (under (at old q) n) refl told)
    where
      all : (o : Option Entry) → under (at old q) n ≡ o → EntryTold q n o
          → Keeps c w d (record x { live = behind x.live (entry_bytes q n (under (at old q) n)) }) t
      all None z tl =
          subst (λ (i : Option Entry). Keeps c w d (record x { live = behind x.live (entry_bytes q n i) }) t) (sym z)
          (goes_live x.live sent' es ed (λ y b ds h. absurd (none y b ds h)))
        where
          none : (y b : PerPartition ℕ) (ds : PerPartition Load) → Parts x (session s c).sent y b ds → ⊥
          none y b ds h =
              let a = (by y b ds h).next.hers in let b : is_of c None
              ≡ true = subst (λ (i : Option Entry). is_of c i ≡ true) z a in cc
      all (Some i) z tl =
          let m = entry_bytes q n (under (at old q) n) in
          let hd : heard_in m ≡ Ok (Report q (held n i)) = ap
          (λ (j : Option Entry). heard_in (entry_bytes q n j)) z ∙ report_heard q n i.report tl in
          subst (λ ms. Keeps c w d (record x { live = ms }) t) (sym (behind_some x.live m (Report q (held n i)) hd))
          (goes_live (x.live ++ m ∷ []) sent' es ed (λ y b ds h. report_sent sent' y b ds q n m i (by y b ds h) hd (tells y b ds h) h))
        where
          tells : (y b : PerPartition ℕ) (ds : PerPartition Load) → Parts x (session s c).sent y b ds → Tells c (at old q) (held n i)
          tells y b ds h = record {
            entry = i;
            stands = z;
            owner = eqb-true i.owner c (subst (λ (j : Option Entry). is_of c j ≡ true) z (by y b ds h).next.hers);
            told = refl;
          }

  pub sends_on : (room : ℕ) (bytes : List ℕ) → SendDoes s c room bytes (session w c) → SendTold room c s
      → Keeps c w d (record x { live = behind x.live bytes }) t
  sends_on room bytes (inl (e, h)) told = sent_nothing bytes e (quietly (inl h))
  sends_on room bytes (inr (e, es, ed, fault)) told =
      sends_by (next_to_send old c (session s c).sent) (sent_after old c (session s c).sent) bytes
      (λ y b ds h. sends c old (session s c).sent (λ p. (h p).ahead)) e es ed (told fault)

  -- ---- the recovery channel

  -- what is under way there and asked changes alone
  goes_recovered : (rec ask : List (List ℕ)) → (session w c).sent ≡ (session s c).sent
      → Carries (record x { recovered = rec; asked = ask }) → Keeps c w d (record x { recovered = rec; asked = ask }) t
  goes_recovered rec ask es on =
      goes_on (record x { recovered = rec; asked = ask }) (session s c).sent refl es (λ y b ds h. h) on

  no_asked : {X : Type 0} (m : List ℕ) (rest : List (List ℕ)) → x.asked ≡ m ∷ rest → x.asked ≡ [] → X
  no_asked m rest e h = absurd (let z : m ∷ rest ≡ [] = sym e ∙ h in cc)

  one_asked : (m n : List ℕ) (rest : List (List ℕ)) → x.asked ≡ m ∷ rest → x.asked ≡ n ∷ [] → (n ≡ m) × (rest ≡ [])
  one_asked m n rest e h = (let z : m ∷ rest ≡ n ∷ [] = sym e ∙ h in cc, let z : m ∷ rest ≡ n ∷ [] = sym e ∙ h in cc)

  -- a request that was asked gets an answer
  module _ (reply m : List ℕ) (rest : List (List ℕ)) (front : x.asked ≡ m ∷ rest) where
    abbrev answer_line : Line
    answer_line = record x { recovered = x.recovered ++ reply ∷ []; asked = rest }

    -- what the answer makes of a request that waits
    pub record Answered (p : Partition) (b : ℕ) : Type 0 where
      pub load : Load
      pub loaded : Loaded c (at new p) (place d p) b load
      pub again : load.again ≡ []
      pub asked : AskedAs p load (download (session w c)) answer_line

    abbrev pub Answers : Type 0
    Answers =
        (p : Partition) (b : ℕ) (i : Load) → b ≤ length (at old p) → Loaded c (at new p) (place d p) b i → i.again ≡ []
        → Waits p i (download (session s c)) x → Answered p b

    -- and of a channel whose first Logon was no message
    abbrev Fails : Type 0
    Fails = x.opening ≡ Failed
        → Refuses (heard_in reply) × (download (session s c) ≡ None → download (session w c) ≡ None)

    request_answered : (session w c).sent ≡ (session s c).sent → Answers → x.opening ≢ Awaited → Fails
        → Keeps c w d answer_line t
    request_answered es ans began fails = goes_recovered (x.recovered ++ reply ∷ []) rest es
        (λ a b ds bases lds st. channelled a b ds bases lds x.opening refl st)
      where
        by : (g : Stage) (b : PerPartition ℕ) (ds : PerPartition Load) → ((p : Partition) → at b p ≤ length (at old p))
            → ((p : Partition) → Loaded c (at new p) (place d p) (at b p) (at ds p)) → x.opening ≡ Open
            → Staged g ds (download (session s c)) x → Carried answer_line g b
        by Idle b ds bases lds i st = no_asked m rest front st.0
        by (Asked p) b ds bases lds i (ag, ga, inl h) =
            let an = ans p (at b p) (at ds p) (bases p) (lds p) ga h in
            let (gb, st) = subst (λ z. (z.again ≡ []) × AskedAs p z (download (session w c)) answer_line)
            (sym (at_written ds p an.load)) (an.again, an.asked) in
            record {
              ds = with_at ds p an.load;
              loaded = or_as_it_was (λ q z. Loaded c (at new q) (place d q) (at b q) z) ds p an.load an.loaded lds;
              staged = opened x.opening (Asked p) (with_at ds p an.load) (download (session w c)) answer_line i (ag, gb, st);
            }
        by (Asked p) b ds bases lds i (ag, ga, inr (inl (k', o, h))) = no_asked m rest front k'
        by (Asked p) b ds bases lds i (ag, ga, inr (inr (k', m', ms, e, h, l))) = no_asked m rest front k'
        by (Running p) b ds bases lds i (k', r, l) = no_asked m rest front k'

        channelled : (a : Stage) (b : PerPartition ℕ) (ds : PerPartition Load) → ((p : Partition) → at b p ≤ length (at old p))
            → ((p : Partition) → Loaded c (at new p) (place d p) (at b p) (at ds p))
            → (o : Opening) → x.opening ≡ o → Channelled o a ds (download (session s c)) x → Carried answer_line a b
        channelled a b ds bases lds Awaited i st = absurd (began i)
        channelled a b ds bases lds Open i st = by a b ds bases lds i st
        channelled a b ds bases lds Failed i (n, r, ag, e) = record {
          ds = ds;
          loaded = lds;
          staged = subst (λ o. Channelled o a ds (download (session w c)) answer_line) (sym i)
              (n, refusing_more x.recovered reply (fails i).0 r, ag, (fails i).1 e);
        }

    reply_alone : x.recovered ≡ [] → x.recovered ++ reply ∷ [] ≡ reply ∷ []
    reply_alone e = ap (λ ms. ms ++ reply ∷ []) e

    -- no download is granted
    refuses : Refuses (heard_in reply) → Stays (session s c) (session w c) ⊎ Closes (session s c) (session w c)
        → x.opening ≢ Awaited → Keeps c w d answer_line t
    refuses r h began = request_answered (sent_same h)
        (λ p b i bases ld ga (e, back, ra, o). record {
          load = i;
          loaded = ld;
          again = ga;
          asked = inr (inl ((one_asked m (request p i.from) rest front e).1, none_after h o, inr (reply, reply_alone ra, r)));
        })
        began (λ i. (r, none_after h))
      where
        sent_same : Stays (session s c) (session w c) ⊎ Closes (session s c) (session w c) → (session w c).sent
            ≡ (session s c).sent
        sent_same (inl (a, b)) = a
        sent_same (inr (a, b)) = a

        none_after : Stays (session s c) (session w c) ⊎ Closes (session s c) (session w c) → download (session s c)
            ≡ None → download (session w c) ≡ None
        none_after (inl (a, b)) o = b ∙ o
        none_after (inr (a, b)) o = b

    -- one is
    partition_is : (p q : Partition) (n : ℕ) → pos n ≡ pos (partition_code p) → partition_of (pos n) ≡ Some q → q ≡ p
    partition_is One q n e h = let z : n ≡ 1 = cc in cc
    partition_is Two q n e h = let z : n ≡ 2 = cc in cc
    partition_is Three q n e h = let z : n ≡ 3 = cc in cc

    granted : (b' : MissedMessageRequest) (q : Partition) → Reads reader.Recovery m (message.MissedMessageRequest b')
        → partition_of b'.partition ≡ Some q → heard_in reply ≡ Ok (Ack Successful) → (session w c).sent
        ≡ (session s c).sent
        → download (session w c) ≡ Some (begun q b'.last.value (length (at old q))) → x.opening ≢ Awaited
        → x.opening ≢ Failed → Keeps c w d answer_line t
    granted i q reads is hd es ed began whole = request_answered es ans began (λ e. absurd (whole e))
      where
        ans : Answers
        ans p b j bases ld ga (e, back, ra, o) =
            let same = one_asked m (request p j.from) rest front e in
            let asks : IsRequest p j.from (message.MissedMessageRequest i) = back.read (message.MissedMessageRequest i)
            (subst (λ bs. Reads reader.Recovery bs (message.MissedMessageRequest i)) (sym same.0) reads) in
            let part : q ≡ p = partition_as p q (subst (λ y. partition_of y ≡ Some q) asks.0 is) in
            let more = longer (at old p) (at new p) (g p) in
            record {
              load = record j { loaded = []; to = j.from; aim = length (at old p) };
              loaded = begun_to c (at new p) (place d p) b j ld (length (at old p))
                  (let a = place_within p in omega (arith, a, more)) bases more;
              again = ga;
              asked = inr (inr (
                same.1,
                reply,
                [],
                reply_alone ra,
                hd,
                (
                  refl,
                  inr (
                    begun q i.last.value (length (at old q)),
                    ed,
                    record { partition = part; last = asks.1; target = ap (λ y. length (at old y)) part },
                  ),
                ),
              ));
            }
          where
            partition_as : (p q : Partition) → partition_of (pos (partition_code p)) ≡ Some q → q ≡ p
            partition_as One q h = cc
            partition_as Two q h = cc
            partition_as Three q h = cc

  -- a message on the recovery channel: what it is answered
  answers_as : (reply m : List ℕ) (o : Option (List (List ℕ))) → next_of m x.asked ≡ o
      → ((rest : List (List ℕ)) → x.asked ≡ m ∷ rest
      → Keeps c w d (record x { recovered = x.recovered ++ reply ∷ []; asked = rest }) t)
      → (x' : Line) → answered reply o x ≡ Ok x' → Keeps c w d x' t
  answers_as reply m None e on x' ok = ok_err NotAsked x' (Err NotAsked) refl ok
  answers_as reply m (Some rest) e on x' ok =
      subst (λ y. Keeps c w d y t) (same_ok (record x { recovered = x.recovered ++ reply ∷ []; asked = rest }) x'
      (Ok (record x { recovered = x.recovered ++ reply ∷ []; asked = rest })) refl ok)
      (on rest (next_is m x.asked rest e))

  unanswered : (h : Stays (session s c) (session w c) ⊎ Closes (session s c) (session w c)) (r : Result Heard Fault)
      (reply m : List ℕ) → after_recovery r reply m x ≡ Ok x → (x' : Line) → (hr : Result Heard Fault) → hr ≡ r
      → after_recovery hr reply m x ≡ Ok x' → Keeps c w d x' t
  unanswered h r reply m e x' hr q ok = subst (λ y. Keeps c w d y t)
      (same_ok x x' (after_recovery r reply m x) e (subst (λ z. after_recovery z reply m x ≡ Ok x') q ok)) (quietly h)

  -- it grants nothing
  answered_no : (a : Answer) (reply m : List ℕ) → reply ≡ answer_bytes a → Grants a ≡ false
      → Stays (session s c) (session w c) ⊎ Closes (session s c) (session w c) → x.opening ≢ Awaited → (x' : Line)
      → after_recovery (heard_in reply) reply m x ≡ Ok x' → Keeps c w d x' t
  answered_no answer.Silent reply m e nn h began x' ok =
      let (i, q) = nothing_heard in
      unanswered h (Err i) reply m refl x' (heard_in reply) (ap heard_in e ∙ q) ok
  answered_no (answer.LogonReply z) reply m e nn h began x' ok = by (logon_heard z)
    where
      by : (heard_in (answer_bytes (answer.LogonReply z)) ≡ Ok Nothing)
          ⊎ ((i : Fault) × (heard_in (answer_bytes (answer.LogonReply z)) ≡ Err i)) → Keeps c w d x' t
      by (inl q) = unanswered h (Ok Nothing) reply m refl x' (heard_in reply) (ap heard_in e ∙ q) ok
      by (inr (i, q)) = unanswered h (Err i) reply m refl x' (heard_in reply) (ap heard_in e ∙ q) ok
  answered_no (answer.Ack r) reply m e nn h began x' ok =
      let hd : heard_in reply ≡ Ok (Ack r) = ap heard_in e ∙ ack_heard r in
      answers_as reply m (next_of m x.asked) refl
      (λ rest front. refuses reply m rest front (subst Refuses (sym hd) (refusal r nn)) h began) x'
      (subst (λ z. after_recovery z reply m x ≡ Ok x') hd ok)
    where
      refusal : (r : AckResponse) → Grants (answer.Ack r) ≡ false → Refuses (Ok (Ack r))
      refusal Successful n = absurd cc
      refusal LimitReached n = tt
      refusal InvalidAppId n = tt
      refusal ServiceUnavailable n = tt
  answered_no (answer.Reject r) reply m e nn h began x' ok = by (reject_heard r)
    where
      by : (heard_in (answer_bytes (answer.Reject r)) ≡ Ok Reject)
          ⊎ ((i : Fault) × (heard_in (answer_bytes (answer.Reject r)) ≡ Err i)) → Keeps c w d x' t
      by (inl q) =
          let hd : heard_in reply ≡ Ok Reject = ap heard_in e ∙ q in
          answers_as reply m (next_of m x.asked) refl
          (λ rest front. refuses reply m rest front (subst Refuses (sym hd) tt) h began) x'
          (subst (λ z. after_recovery z reply m x ≡ Ok x') hd ok)
      by (inr (i, q)) = unanswered h (Err i) reply m refl x' (heard_in reply) (ap heard_in e ∙ q) ok

  pub recovery : (reply m : List ℕ) → RecoveryDoes old m reply (session s c) (session w c) → x.opening ≢ Awaited
      → (x.opening ≡ Failed → is_grant (heard_in reply) ≡ false) → (x' : Line)
      → after_recovery (heard_in reply) reply m x ≡ Ok x' → Keeps c w d x' t
  recovery reply m (inr (a, e, nn, h)) began none x' ok = answered_no a reply m e nn h began x' ok
  recovery reply m (inl (i, q, reads, is, e, o, es, ed)) began none x' ok =
      let hd : heard_in reply ≡ Ok (Ack Successful) = ap heard_in e ∙ ack_heard Successful in
      answers_as reply m (next_of m x.asked) refl (λ rest front. granted reply m rest front i q reads is hd es ed began
      (λ z. absurd (true≢false (ap is_grant (sym hd) ∙ none z)))) x'
      (subst (λ z. after_recovery z reply m x ≡ Ok x') hd ok)

  -- ---- what a download hands out

  -- the download that is under way goes on
  pub record Onward (p : Partition) (b : ℕ) (i : Load) (ms : List (List ℕ)) : Type 0 where
    pub load : Load
    pub again : i.again ≡ load.again
    pub loaded : Loaded c (at new p) (place d p) b load
    pub delivery : Delivery p (download (session w c)) ms load.loaded load.to load.aim

  abbrev Loading : List (List ℕ) → Type 0
  Loading ms = (p : Partition) (b : ℕ) (i : Load) (rec : List (List ℕ)) → Loaded c (at new p) (place d p) b i
      → Delivery p (download (session s c)) rec i.loaded i.to i.aim → Onward p b i (rec ++ ms)

  loads_live : (ms : List (List ℕ)) → download (session s c) ≢ None → (session w c).sent ≡ (session s c).sent
      → Loading ms → Keeps c w d (record x { recovered = x.recovered ++ ms }) t
  loads_live ms some es ld = goes_recovered (x.recovered ++ ms) x.asked es (λ a b ds bases lds st. channelled a b ds lds x.opening refl st)
    where
      carried : (g : Stage) (p : Partition) (b : PerPartition ℕ) (ds : PerPartition Load)
          → ((p : Partition) → Loaded c (at new p) (place d p) (at b p) (at ds p)) → x.opening ≡ Open
          → (rec : List (List ℕ)) (on : Onward p (at b p) (at ds p) rec)
          → (((at (with_at ds p on.load) p) ≡ on.load) → Staged g (with_at ds p on.load) (download (session w c)) (record x { recovered = x.recovered ++ ms }))
          → Carried (record x { recovered = x.recovered ++ ms }) g b
      carried g p b ds lds i rec on st = record {
        ds = with_at ds p on.load;
        loaded = or_as_it_was (λ q z. Loaded c (at new q) (place d q) (at b q) z) ds p on.load on.loaded lds;
        staged = opened x.opening g (with_at ds p on.load) (download (session w c)) (record x { recovered = x.recovered ++ ms }) i
            (st (at_written ds p on.load));
      }

      by : (g : Stage) (b : PerPartition ℕ) (ds : PerPartition Load)
          → ((p : Partition) → Loaded c (at new p) (place d p) (at b p) (at ds p)) → x.opening ≡ Open
          → Staged g ds (download (session s c)) x → Carried (record x { recovered = x.recovered ++ ms }) g b
      by Idle b ds lds i (a, r, ag, o) = absurd (some o)
      by (Asked p) b ds lds i (ag, ga, inl (e, back, ra, o)) = absurd (some o)
      by (Asked p) b ds lds i (ag, ga, inr (inl (k', o, h))) = absurd (some o)
      by (Asked p) b ds lds i (ag, ga, inr (inr (k', m', rest, e, h, l))) =
          let on = ld p (at b p) (at ds p) rest (lds p) l in
          carried (Asked p) p b ds lds i (rest ++ ms) on (λ q. (
            ag,
            ap (λ (z : Load). z.again) q ∙ sym on.again ∙ ga,
            inr (inr (
              k',
              m',
              rest ++ ms,
              ap (λ y. y ++ ms) e,
              h,
              subst
                  (λ z. Delivery p (download (session w c)) (rest ++ ms) z.loaded z.to z.aim) (sym q) on.delivery,
            )),
          ))
      by (Running p) b ds lds i (k', r, l) =
          let on = ld p (at b p) (at ds p) x.recovered (lds p) l in
          carried (Running p) p b ds lds i (x.recovered ++ ms) on (λ q. (
            k',
            subst (λ z. OfPart p x.again z) (on.again ∙ sym (ap (λ (z : Load). z.again) q)) r,
            subst (λ z. Delivery p (download (session w c)) (x.recovered ++ ms) z.loaded z.to z.aim) (sym q) on.delivery,
          ))

      channelled : (a : Stage) (b : PerPartition ℕ) (ds : PerPartition Load)
          → ((p : Partition) → Loaded c (at new p) (place d p) (at b p) (at ds p)) → (o : Opening) → x.opening ≡ o
          → Channelled o a ds (download (session s c)) x → Carried (record x { recovered = x.recovered ++ ms }) a b
      channelled a b ds lds Awaited i (n, (r, ag, e), st) = absurd (some e)
      channelled a b ds lds Open i st = by a b ds lds i st
      channelled a b ds lds Failed i (n, r, ag, e) = absurd (some e)

  -- by what it hands out, from a store that stays
  handed_on : (q : Download) (r : HandedOut × Option Download) → download (session s c) ≡ Some q
      → HandedBy c (at new q.partition) q r → (session w c).sent ≡ (session s c).sent → download (session w c) ≡ r.1
      → RecoveredTold new (Some r.0)
      → Keeps c w d (record x { recovered = behind x.recovered (recovered_bytes new (Some r.0)) }) t
  handed_on q (handed.Report p n, None) e h es ed told = absurd h
  handed_on q (handed.Ended r, Some i) e h es ed told = absurd h
  handed_on q (handed.Ended r, None) e h es ed told =
      subst (λ ms. Keeps c w d (record x { recovered = ms }) t)
      (sym (behind_some x.recovered (end_bytes r) (End r) (end_heard r)))
      (loads_live (end_bytes r ∷ []) none es (λ p b i rec lo l. ends p b i rec lo
      (subst (λ o. Delivery p o rec i.loaded i.to i.aim) e l) r h (end_heard r)))
    where
      none : download (session s c) ≡ None → ⊥
      none z = let y : Some q ≡ None = sym e ∙ z in cc

      over : (p : Partition) (b : ℕ) (i : Load) (rec : List (List ℕ)) (y : ℕ) (r' : ReportResponse)
          → Loaded c (at new p) (place d p) b (record i { to = y }) → Delivery p (Some q) rec i.loaded i.to i.aim
          → heard_in (end_bytes r) ≡ Ok (End r') → Over r' y i.aim → Onward p b i (rec ++ end_bytes r ∷ [])
      over p b i rec y r' lo l hd ov = record {
        load = record i { to = y };
        again = refl;
        loaded = lo;
        delivery = subst (λ o. Delivery p o (rec ++ end_bytes r ∷ []) i.loaded y i.aim) (sym ed)
            (delivery_end p q rec i.loaded i.to y i.aim (end_bytes r) r' hd ov l);
      }

      ends : (p : Partition) (b : ℕ) (i : Load) (rec : List (List ℕ)) → Loaded c (at new p) (place d p) b i
          → Delivery p (Some q) rec i.loaded i.to i.aim → (r' : ReportResponse)
          → (r' ≡ ending.Complete → Passed c (at new q.partition) q.last q.target) → heard_in (end_bytes r) ≡ Ok (End r')
          → Onward p b i (rec ++ end_bytes r ∷ [])
      ends p b i rec lo l ending.Complete h hd =
          let ru = delivery_runs p q rec i.loaded i.to i.aim l in
          let ps : Passed c (at new p) i.to i.aim = subst (λ u. Passed c (at new p) i.to u) ru.target
          (subst (λ u. Passed c (at new p) u q.target) ru.last
          (subst (λ u. Passed c (at new u) q.last q.target) ru.partition (h refl))) in
          over p b i rec i.aim ending.Complete (completed c (at new p) (place d p) b i lo ps) l hd refl
      ends p b i rec lo l ending.MessageLimit h hd = over p b i rec i.to ending.MessageLimit lo l hd tt
      ends p b i rec lo l ending.ServiceUnavailable h hd = over p b i rec i.to ending.ServiceUnavailable lo l hd tt
  handed_on q (handed.Report p n, Some i) e (is, nx, fu) es ed told =
      let b = brought c (at new p) p n (subst (λ u. is_of c (under (at new u) n) ≡ true) (sym is) nx.hers) told in
      subst (λ ms. Keeps c w d (record x { recovered = ms }) t)
      (sym (behind_some x.recovered m (Report p (held n b.entry)) b.heard))
      (loads_live (m ∷ []) none es (ld b))
    where
      m : List ℕ
      m = entry_bytes p n (under (at new p) n)

      none : download (session s c) ≡ None → ⊥
      none z = let y : Some q ≡ None = sym e ∙ z in cc

      ld : Brought c (at new p) p n m → Loading (m ∷ [])
      ld br u b j rec lo l =
          let h = held n br.entry in
          let l' = subst (λ o. Delivery u o rec j.loaded j.to j.aim) e l in
          let ru = delivery_runs u q rec j.loaded j.to j.aim l' in
          let (hd, tl) = subst (λ v. (heard_in m ≡ Ok (Report v h)) × Tells c (at new v) h) (is ∙ ru.partition)
          (br.heard, br.tells) in
          record {
            load = record j { loaded = j.loaded ++ h ∷ []; to = n };
            again = refl;
            loaded = handed_more c (at new u) (place d u) b j lo h tl (subst (λ v. Next c (at new u) v n) ru.last
                (subst (λ v. Next c (at new v) q.last n) ru.partition nx));
            delivery = subst (λ o. Delivery u o (rec ++ m ∷ []) (j.loaded ++ h ∷ []) n j.aim) (sym ed)
                (delivery_more u q i rec j.loaded j.to j.aim m h fu hd l');
          }

  -- nothing runs, or a download
  hands_on : (o : Option Download) → download (session s c) ≡ o → (session w c).sent ≡ (session s c).sent
      → download (session w c) ≡ (recovered new c o).1 → RecoveredTold new (recovered new c o).0
      → Keeps c w d (record x { recovered = behind x.recovered (recovered_bytes new (recovered new c o).0) }) t
  hands_on None e es ed told = quietly (inr (es, ed))
  hands_on (Some q) e es ed told = handed_on q (handed_out q (remaining (at new q.partition) c q)) e
      (hands c (at new q.partition) q) es ed told

  pub recovers_on : (room : ℕ) (bytes : List ℕ) → new ≡ old → RecoverDoes s c room bytes (session w c)
      → RecoverTold room c s
      → Keeps c w d (record x { recovered = behind x.recovered bytes }) t
  recovers_on room bytes same (inl (e, h)) told = subst (λ z. Keeps c w d (record x { recovered = behind x.recovered z }) t)
      (sym e) (quietly (inl h))
  recovers_on room bytes same (inr (e, es, ed, fault)) told =
      let o = download (session s c) in
      subst (λ z. Keeps c w d (record x { recovered = behind x.recovered z }) t)
      (sym (e ∙ ap (λ k. recovered_bytes k (recovered k c o).0) (sym same)))
      (hands_on o refl es (ed ∙ ap (λ k. (recovered k c o).1) (sym same))
      (subst (λ k. RecoveredTold k (recovered k c o).0) (sym same) (told fault)))

-- ---- a message on the recovery channel, by how the channel began

staged_opened : (a : Stage) (ds : PerPartition Load) (o : Option Download) (x : Line) → Staged a ds o x
    → Staged a ds o (record x { opening = Open })
staged_opened Idle ds o x h = h
staged_opened (Asked p) ds o x h = h
staged_opened (Running p) ds o x h = h

-- what is no message leaves no answer
failed_silent : (a : Result ℕ GatewayFault) (m buffer : List ℕ) → is_failed_logon a m ≡ true → left a buffer ≡ []
failed_silent (Ok n) m buffer h = absurd cc
failed_silent (Err e) m buffer h = refl

refuses_reject : (r : Result Heard Fault) → is_reject r ≡ true → Refuses r
refuses_reject (Ok Reject) h = tt
refuses_reject (Ok (Report p i)) h = absurd cc
refuses_reject (Ok (Ack r)) h = absurd cc
refuses_reject (Ok (End r)) h = absurd cc
refuses_reject (Ok Nothing) h = absurd cc
refuses_reject (Err e) h = absurd cc

module _ (c : ℕ) (s : State) (d : Desk) (x : Line) (t : Taking) (k : Keeps c s d x t) where
  -- the channel alone is another
  reopened : (o : Opening) (rec : List (List ℕ))
      → ((a : Stage) (b : PerPartition Load)
      → Channelled x.opening a b (download (session s c)) x
      → Channelled o a b (download (session s c)) (record x { opening = o; recovered = rec }))
      → Keeps c s d (record x { opening = o; recovered = rec }) t
  reopened o rec on = record {
    up = k.up;
    quiet = k.quiet;
    placed = k.placed;
    known = k.known;
    hers = k.hers;
    sound = k.sound;
    few = k.few;
    phase = phase_on c s.venue.kept s.venue.kept (session s c) (session s c) d.follower d.follower x
        (record x { opening = o; recovered = rec }) t t (λ z. record {
          y = z.y;
          b = z.b;
          ds = z.ds;
          parts = z.parts;
          taken = z.taken;
          staged = on (download_of d.follower) z.ds z.staged;
        }) x.connection k.phase;
  }

  opens_channel : x.opening ≡ Awaited → Keeps c s d (record x { opening = Open }) t
  opens_channel i = reopened Open x.recovered (λ a b st. by a b x.opening i st)
    where
      by : (a : Stage) (b : PerPartition Load) (o : Opening) → o ≡ Awaited
          → Channelled o a b (download (session s c)) x
          → Staged a b (download (session s c)) (record x { opening = Open })
      by a b Awaited e (n, u, st) = staged_opened a b (download (session s c)) x st
      by a b Open e st = absurd cc
      by a b Failed e st = absurd cc

  fails_channel : (m : List ℕ) → Refuses (heard_in m) → x.opening ≡ Awaited
      → Keeps c s d (record x { opening = Failed; recovered = x.recovered ++ m ∷ [] }) t
  fails_channel m r i = reopened Failed (x.recovered ++ m ∷ []) (λ a b st. by a b x.opening i st)
    where
      by : (a : Stage) (b : PerPartition Load) (o : Opening) → o ≡ Awaited
          → Channelled o a b (download (session s c)) x
          → Channelled Failed a b (download (session s c))
          (record x { opening = Failed; recovered = x.recovered ++ m ∷ [] })
      by a b Awaited e (n, (rec, ag, z), st) =
          (n, subst (λ ms. Refusing (ms ++ m ∷ [])) (sym rec) (r, tt), ag, z)
      by a b Open e st = absurd cc
      by a b Failed e st = absurd cc

  module _ (w : State) (g : Grows s.venue.kept w.venue.kept) (sound : Sound w.venue) (few : length w.venue.rows ≤ ORDERS)
      (m : List ℕ) (r : Reply)
      (does : RecoveryDoes s.venue.kept m (bytes_of r) (session s c) (session w c)) where
    -- of what is no message the session stays
    stays : is_failed_logon r.answer m ≡ true
        → Stays (session s c) (session w c) ⊎ Closes (session s c) (session w c)
    stays h = by does
      where
        by : RecoveryDoes s.venue.kept m (bytes_of r) (session s c) (session w c)
            → Stays (session s c) (session w c) ⊎ Closes (session s c) (session w c)
        by (inr (a, e, nn, h')) = h'
        by (inl (i, q, reads, is, e, o, es, ed)) =
            let (f, z) = nothing_heard in
            absurd (let y : Ok (Ack Successful) ≡ Err f = sym (ack_heard Successful)
            ∙ (ap heard_in (sym e ∙ failed_silent r.answer m r.after.items h) ∙ z) in cc)

    failed_first : is_failed_logon r.answer m ≡ true → x.opening ≡ Awaited → (b : Bool)
        → is_reject (heard_in (left_reject r)) ≡ b
        → Keeps c w d (cond b (record x { opening = Failed; recovered = x.recovered ++ left_reject r ∷ [] })
        (record x { opening = Open })) t
    failed_first h i true q =
        quietly c s d (record x { opening = Failed; recovered = x.recovered ++ left_reject r ∷ [] }) t
        (fails_channel (left_reject r) (refuses_reject (heard_in (left_reject r)) q) i) w g sound few (stays h)
    failed_first h i false q = quietly c s d (record x { opening = Open }) t (opens_channel i) w g sound few (stays h)

    pub recovery_given : (o : Opening) → x.opening ≡ o → (x' : Line) → given_recovery o m r x ≡ Ok x' → Keeps c w d x' t
    recovery_given Awaited i x' ok = by (is_failed_logon r.answer m) refl ok
      where
        by : (b : Bool) → is_failed_logon r.answer m ≡ b
            → cond b (Ok (after_failure (left_reject r) x))
            (after_recovery (heard_in (bytes_of r)) (bytes_of r) m (record x { opening = Open })) ≡ Ok x'
            → Keeps c w d x' t
        by true q z = subst (λ y. Keeps c w d y t)
            (same_ok (after_failure (left_reject r) x) x' (Ok (after_failure (left_reject r) x)) refl z)
            (failed_first q i (is_reject (heard_in (left_reject r))) refl)
        by false q z = recovery c s d (record x { opening = Open }) t (opens_channel i) w g sound few (bytes_of r) m does
            (λ e. cc) (λ e. absurd cc) x' z
    recovery_given Open i x' ok = recovery c s d x t k w g sound few (bytes_of r) m does
        (λ e. let z : Open ≡ Awaited = sym i ∙ e in cc) (λ e. absurd (let z : Open ≡ Failed = sym i ∙ e in cc)) x' ok
    recovery_given Failed i x' ok = by (is_grant (heard_in (bytes_of r))) refl ok
      where
        by : (b : Bool) → is_grant (heard_in (bytes_of r)) ≡ b
            → cond b (Err GrantedOverFailure) (after_recovery (heard_in (bytes_of r)) (bytes_of r) m x) ≡ Ok x'
            → Keeps c w d x' t
        by true q z = ok_err GrantedOverFailure x' (Err GrantedOverFailure) refl z
        by false q z = recovery c s d x t k w g sound few (bytes_of r) m does
            (λ e. let y : Failed ≡ Awaited = sym i ∙ e in cc) (λ e. q) x' z
