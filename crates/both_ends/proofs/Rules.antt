-- That a log which keeps the rule of the line is allowed. Assumes nothing.
use Rattle.both_ends.specs.Connecting.{lost, up_in}
use Rattle.both_ends.specs.declared.connection.Connection.{Connection}
use Rattle.both_ends.specs.declared.connection.Connection.TheVariants as conn
use Rattle.std.specs.Prelude.{fold, filter, take, not, option_to_list}
use Rattle.std.specs.List.{list_any}
use Rattle.std.specs.Str.{bytes_eq}
use Rattle.std.proofs.Common.{◌≡◌, ◌⊎◌, inl, inr, ℕ, Bool, true, false, cond, ◌&&◌, ◌||◌, ◌==◌, List, [], ◌∷◌, ◌++◌, Some, None, Ok, Err, Option, Result, refl, sym, ap, ◌∙◌, subst, append_assoc}
use Rattle.std.proofs.lemmas.Bool.{or_cases, or_parts, or_right}
use Rattle.std.proofs.lemmas.List.{append-nil}
use Rattle.std.proofs.lemmas.List.Folds.{list_any-append}
use Rattle.both_ends.proofs.Turns.{next_found, since_more, since_logon, up_more, shows_more, shown_more, or-false, longer_not_empty, behind_front, given, Flowing, onto, grown, given_back}
use Rattle.both_ends.proofs.Heard.{nothing_heard}
use Rattle.both_ends.specs.Allowed.{Message, Line, quiet, connected, next_of, accepted, behind, after_log, after_call, after_logon, after_recovery, after_failure, given_recovery, is_failed_logon, is_grant, is_reject, left_reject, answered as put_answer, after_up, after_ask, onward, next_live, given_live, given_recovered}
use Rattle.both_ends.specs.Connections.{IsFront, KeepsLine, AsTheRule, since, accepts, is_up, up_after, is_up_call, handed_out, leaves_live, leaves_recovered, gives_live, gives_recovered, is_answer, is_report, is_heard, rejects_logon, rejected_logons, is_recovery, grants, came, left_live, came_live, left_recovered, came_recovered, once, written_of, writes, answers, written, answered}
use Rattle.both_ends.specs.declared.allowed.Breach.{Breach}
use Rattle.both_ends.specs.declared.allowed.Breach.TheVariants.{StillUp, GrantedOverFailure}
use Rattle.both_ends.specs.declared.opening.Opening.{Opening}
use Rattle.both_ends.specs.declared.opening.Opening.TheVariants.{Awaited, Open, Failed}
use Rattle.both_ends.specs.declared.call.Done.{Done}
use Rattle.both_ends.specs.declared.call.Done.TheVariants as done
use Rattle.follower.specs.Hearing.{heard_in}
use Rattle.follower.specs.declared.fault.FollowerFault.{FollowerFault}
use Rattle.follower.specs.declared.heard.Heard.{Heard}
use Rattle.follower.specs.declared.heard.Heard.TheVariants.{Report, Ack, End, Reject, Nothing}
use Rattle.layout.specs.declared.fault.Fault.{Fault}
use Rattle.gateway.specs.declared.fault.GatewayFault.{GatewayFault}
use Rattle.gateway_runs.specs.Runs.{bytes_of, left as left_bytes}
use Rattle.gateway_runs.specs.declared.call.Reply.{Reply}
use Rattle.gateway_runs.specs.declared.call.Done.TheVariants as venue

-- ---- a line, and the calls since the Logon

-- how the recovery channel began, by whether it carried anything, and the Rejects of Logons that were no message
abbrev pub Begun : Opening → Bool → List Message → Type 0
Begun Awaited carried rejects = carried ≡ false
Begun Open carried rejects = carried ≡ true
Begun Failed carried rejects = (carried ≡ true) × (rejects ≡ [] → ⊥)

module _ (c : ℕ) where
  -- what is under way is what left without what came
  pub record Matches (zs : List Done) (l : Line) : Type 0 where
    pub up : up_in l.connection ≡ is_up zs
    pub begun : Begun l.opening (list_any (is_recovery c) zs) (rejected_logons c zs)
    pub live : left_live c zs ≡ came_live c zs ++ l.live
    pub recovered : Flowing (left_recovered c zs) (came_recovered c zs) l.recovered l.again
    pub asked : written zs ≡ answered c zs ++ l.asked

  pub at_logon : (a : Connection) → up_in a ≡ false → Matches [] (record quiet { connection = a })
  at_logon a down = record { up = down; begun = refl; live = refl; recovered = empty; asked = refl }
    where
      empty : Flowing [] [] [] []
      empty = record { behind = ([], refl); repeats = λ k i. i; next = inl refl }

-- what one call shows: whether the follower is up behind it, and is by an up; what leaves and comes on each channel; a
-- request written, taken and granted; whether the recovery channel carries something to the gateway, and the Reject of a
-- Logon there that is no message
pub record Shows : Type 0 where
  pub up : Bool
  pub raises : Bool
  pub live_out : Option Message
  pub live_in : Option Message
  pub back_out : List Message
  pub back_in : Option Message
  pub wrote : Option Message
  pub took : Option Message
  pub grants : Bool
  pub carries : Bool
  pub rejects : List Message

abbrev pub nothing : Bool → Shows
nothing up = record {
  up = up;
  raises = false;
  live_out = None;
  live_in = None;
  back_out = [];
  back_in = None;
  wrote = None;
  took = None;
  grants = false;
  carries = false;
  rejects = [];
}

module _ (c : ℕ) (zs : List Done) where
  abbrev is_live : Message → Bool
  is_live m = is_up zs || list_any (bytes_eq m) (left_live c zs)

  abbrev is_back : Message → Bool
  is_back m = is_up zs || list_any (bytes_eq m) (left_recovered c zs)

  abbrev came_back : List Message
  came_back = came (left_recovered c) gives_recovered zs

  -- what the rule says of what a call more shows
  pub record Ruled (w : Shows) : Type 0 where
    pub live : IsFront (came_live c zs ++ filter is_live (option_to_list w.live_in))
        (left_live c zs ++ option_to_list w.live_out)
    pub recovered : IsFront (once (came_back ++ filter is_back (option_to_list w.back_in)))
        (left_recovered c zs ++ w.back_out)
    pub asked : IsFront (answered c zs ++ option_to_list w.took) (written zs ++ option_to_list w.wrote)
    pub granted : w.grants ≡ true → rejected_logons c zs ≡ []

  -- and the line behind it
  pub record Moved (l l' : Line) (w : Shows) : Type 0 where
    pub up : up_in l'.connection ≡ w.up
    pub ready : w.raises ≡ false → l.connection ≡ conn.Ready → l'.connection ≡ conn.Ready
    pub begun : Begun l'.opening (list_any (is_recovery c) zs || (w.carries || false)) (rejected_logons c zs ++ w.rejects)
    pub live : left_live c zs ++ option_to_list w.live_out
        ≡ (came_live c zs ++ filter is_live (option_to_list w.live_in)) ++ l'.live
    pub recovered : Flowing (left_recovered c zs ++ w.back_out)
        (once (came_back ++ filter is_back (option_to_list w.back_in))) l'.recovered l'.again
    pub asked : written zs ++ option_to_list w.wrote ≡ (answered c zs ++ option_to_list w.took) ++ l'.asked

  abbrev pub shows_of : Bool → Done → Shows
  shows_of up x = record {
    up = up_after up x;
    raises = is_up_call x;
    live_out = leaves_live c x;
    live_in = gives_live x;
    back_out = option_to_list (leaves_recovered c x) ++ option_to_list (rejects_logon c zs x);
    back_in = gives_recovered x;
    wrote = writes x;
    took = answers c x;
    grants = grants c x;
    carries = is_recovery c x;
    rejects = option_to_list (rejects_logon c zs x);
  }

  live_more : (x : Done) → came_live c zs ++ filter is_live (option_to_list (gives_live x)) ≡ came_live c (zs ++ x ∷ [])
  live_more x = sym (shown_more (λ before x. filter (λ m. is_up before || list_any (bytes_eq m) (left_live c before))
      (option_to_list (gives_live x))) [] zs x)

  back_more : (x : Done) → once (came_back ++ filter is_back (option_to_list (gives_recovered x)))
      ≡ came_recovered c (zs ++ x ∷ [])
  back_more x = ap once (sym (shown_more (λ before x. filter
      (λ m. is_up before || list_any (bytes_eq m) (left_recovered c before))
      (option_to_list (gives_recovered x))) [] zs x))

  left_more : (x : Done) → left_recovered c (zs ++ x ∷ []) ≡ left_recovered c zs ++ (option_to_list (leaves_recovered c x) ++ option_to_list (rejects_logon c zs x))
  left_more x = shown_more (λ before x. option_to_list (leaves_recovered c x)
      ++ option_to_list (rejects_logon c before x)) [] zs x

  rejects_more : (x : Done) → rejected_logons c (zs ++ x ∷ [])
      ≡ rejected_logons c zs ++ option_to_list (rejects_logon c zs x)
  rejects_more x = shown_more (λ before x. option_to_list (rejects_logon c before x)) [] zs x

  pub ruled : (x : Done)
      → IsFront (came_live c (zs ++ x ∷ [])) (left_live c (zs ++ x ∷ []))
      → IsFront (came_recovered c (zs ++ x ∷ [])) (left_recovered c (zs ++ x ∷ []))
      → IsFront (answered c (zs ++ x ∷ [])) (written (zs ++ x ∷ []))
      → (grants c x ≡ true → rejected_logons c zs ≡ []) → (up : Bool) → Ruled (shows_of up x)
  ruled x (a, f) (b, g) (d, h) e up = record {
    live = (a, sym (shows_more (leaves_live c) zs x) ∙ f ∙ ap (λ z. z ++ a) (sym (live_more x)));
    recovered = (b, sym (left_more x) ∙ g ∙ ap (λ z. z ++ b) (sym (back_more x)));
    asked = (d, sym (shows_more writes zs x) ∙ h ∙ ap (λ z. z ++ d) (shows_more (answers c) zs x));
    granted = e;
  }

  pub matches : (l : Line) (x : Done) (l' : Line) → up_in l.connection ≡ is_up zs → Moved l l' (shows_of (up_in l.connection) x)
      → Matches c (zs ++ x ∷ []) l'
  matches l x l' up m = record {
    up = m.up ∙ ap (λ b. up_after b x) up ∙ sym (up_more zs x);
    begun = subst (λ b. Begun l'.opening b (rejected_logons c (zs ++ x ∷ [])))
        (sym (list_any-append (is_recovery c) zs (x ∷ [])))
        (subst (λ rs. Begun l'.opening (list_any (is_recovery c) zs || (is_recovery c x || false)) rs)
        (sym (rejects_more x)) m.begun);
    live = shows_more (leaves_live c) zs x ∙ m.live ∙ ap (λ z. z ++ l'.live) (live_more x);
    recovered = subst (λ left. Flowing left (came_recovered c (zs ++ x ∷ [])) l'.recovered l'.again)
        (sym (left_more x))
        (subst (λ us. Flowing (left_recovered c zs ++ (shows_of (up_in l.connection) x).back_out) us l'.recovered l'.again) (back_more x)
        m.recovered);
    asked = shows_more writes zs x ∙ m.asked ∙ ap (λ z. z ++ l'.asked) (sym (shows_more (answers c) zs x));
  }

  -- ---- one call

  module _ (l : Line) (h : Matches c zs l) where
    -- the parts where nothing is shown
    live_still : left_live c zs ++ [] ≡ (came_live c zs ++ []) ++ l.live
    live_still = append-nil (left_live c zs) ∙ h.live ∙ ap (λ z. z ++ l.live) (sym (append-nil (came_live c zs)))

    asked_still : written zs ++ [] ≡ (answered c zs ++ []) ++ l.asked
    asked_still = append-nil (written zs) ∙ h.asked ∙ ap (λ z. z ++ l.asked) (sym (append-nil (answered c zs)))

    back_in_still : (left under again : List Message) → Flowing left (came_recovered c zs) under again
        → Flowing left (once (came_back ++ [])) under again
    back_in_still left under again f = subst (λ us. Flowing left (once us) under again) (sym (append-nil came_back)) f

    back_out_still : (us under again : List Message) → Flowing (left_recovered c zs) us under again
        → Flowing (left_recovered c zs ++ []) us under again
    back_out_still us under again f =
        subst (λ left. Flowing left us under again) (sym (append-nil (left_recovered c zs))) f

    back_still : Flowing (left_recovered c zs ++ []) (once (came_back ++ [])) l.recovered l.again
    back_still = back_out_still (once (came_back ++ [])) l.recovered l.again
        (back_in_still (left_recovered c zs) l.recovered l.again h.recovered)

    -- one message more leaves on the recovery channel
    back_with : (m : Message) → Flowing (left_recovered c zs ++ m ∷ []) (once (came_back ++ [])) (l.recovered ++ m ∷ [])
        l.again
    back_with m = back_in_still (left_recovered c zs ++ m ∷ []) (l.recovered ++ m ∷ []) l.again
        (grown (left_recovered c zs) (came_recovered c zs) l.recovered l.again (m ∷ []) h.recovered)

    begun_still : Begun l.opening (list_any (is_recovery c) zs || false) (rejected_logons c zs ++ [])
    begun_still = subst (λ b. Begun l.opening b (rejected_logons c zs ++ [])) (sym (or-false (list_any (is_recovery c) zs)))
        (subst (λ rs. Begun l.opening (list_any (is_recovery c) zs) rs) (sym (append-nil (rejected_logons c zs))) h.begun)

    -- nothing is shown
    quietly : (a : Connection) (up raises : Bool) → up_in a ≡ up
        → (raises ≡ false → l.connection ≡ conn.Ready → a ≡ conn.Ready)
        → Moved l (record l { connection = a }) (record (nothing up) { raises = raises })
    quietly a up raises is r = record {
      up = is;
      ready = r;
      begun = begun_still;
      live = live_still;
      recovered = back_still;
      asked = asked_still;
    }

    still : Moved l l (nothing (up_in l.connection))
    still = quietly l.connection (up_in l.connection) false refl (λ i r. r)

    -- handed out live
    sent : (b : Bool) (bs : List ℕ) → Moved l (cond b (record l { live = behind l.live bs }) l)
        (record (nothing (up_in l.connection)) { live_out = cond b (handed_out bs) None })
    sent false bs = still
    sent true [] = still
    sent true (y ∷ bs) = record {
      up = refl;
      ready = λ i r. r;
      begun = begun_still;
      live = onto (left_live c zs) (came_live c zs ++ []) l.live ((y ∷ bs) ∷ [])
          (h.live ∙ ap (λ z. z ++ l.live) (sym (append-nil (came_live c zs))));
      recovered = back_still;
      asked = asked_still;
    }

    -- handed out on the recovery channel
    sent_back : (b : Bool) (bs : List ℕ) → Moved l (cond b (record l { recovered = behind l.recovered bs }) l)
        (record (nothing (up_in l.connection)) { back_out = option_to_list (cond b (handed_out bs) None) ++ [] })
    sent_back false bs = still
    sent_back true [] = still
    sent_back true (y ∷ bs) = record {
      up = refl;
      ready = λ i r. r;
      begun = begun_still;
      live = live_still;
      recovered = back_with (y ∷ bs);
      asked = asked_still;
    }

    -- a request
    asks : (r : Result ℕ FollowerFault) (buffer : Message) → Moved l (after_ask r buffer l)
        (record (nothing (up_in l.connection)) { wrote = written_of r buffer })
    asks (Err e) buffer = still
    asks (Ok n) buffer = record {
      up = refl;
      ready = λ i r. r;
      begun = begun_still;
      live = live_still;
      recovered = back_still;
      asked = onto (written zs) (answered c zs ++ []) l.asked (take n buffer ∷ [])
          (h.asked ∙ ap (λ z. z ++ l.asked) (sym (append-nil (answered c zs))));
    }

    -- what the line becomes, where the call is allowed
    pub record Goes (r : Result Line Breach) (w : Shows) : Type 0 where
      pub line : Line
      pub ok : r ≡ Ok line
      pub moved : Moved l line w

    stands : Goes (Ok l) (nothing (up_in l.connection))
    stands = record { line = l; ok = refl; moved = still }

    -- ---- what the recovery channel carries to the gateway

    abbrev carried : Bool
    carried = list_any (is_recovery c) zs

    -- something is given there: it may be an answered request, or a Logon that is no message and leaves a Reject
    abbrev given_with : Bool → Bool → Message → Message → List Message → Shows
    given_with answers grants reply m rejects = record (nothing (up_in l.connection)) {
      back_out = option_to_list (cond answers (Some reply) None) ++ rejects;
      took = cond answers (Some m) None;
      grants = grants;
      carries = true;
      rejects = rejects;
    }

    abbrev Carried : Result Line Breach → Result Heard Fault → Message → Message → List Message → Type 0
    Carried went r reply m rejects = Goes went (given_with (is_answer r) (is_grant r) reply m rejects)

    carries : carried || true ≡ true
    carries = or_right carried true refl

    module _ (o : Opening) (begun : Begun o (carried || true) (rejected_logons c zs ++ [])) where
      opened : (grants : Bool) → Moved l (record l { opening = o }) (record (nothing (up_in l.connection)) { grants = grants; carries = true })
      opened grants = record {
        up = refl;
        ready = λ i r. r;
        begun = begun;
        live = live_still;
        recovered = back_still;
        asked = asked_still;
      }

      replied : (grants : Bool) (reply m : Message) → IsFront (answered c zs ++ m ∷ []) (written zs ++ [])
          → Goes (put_answer reply (next_of m l.asked) (record l { opening = o }))
          (given_with true grants reply m [])
      replied grants reply m (rest, f) =
          let g : written zs ≡ (answered c zs ++ m ∷ []) ++ rest = sym (append-nil (written zs)) ∙ f in
          let is : l.asked ≡ m ∷ rest = behind_front (written zs) (answered c zs) l.asked rest (m ∷ []) h.asked g in
          record {
            line = record l { opening = o; asked = rest; recovered = l.recovered ++ reply ∷ [] };
            ok = ap (λ z. put_answer reply z (record l { opening = o })) (ap (next_of m) is ∙ next_found m rest);
            moved = record {
              up = refl;
              ready = λ i r. r;
              begun = begun;
              live = live_still;
              recovered = back_with reply;
              asked = append-nil (written zs) ∙ g;
            };
          }

      requested : (r : Result Heard Fault) (reply m : Message)
          → IsFront (answered c zs ++ option_to_list (cond (is_answer r) (Some m) None)) (written zs ++ [])
          → Carried (after_recovery r reply m (record l { opening = o })) r reply m []
      requested (Ok (Ack a)) reply m f = replied (is_grant (Ok (Ack a))) reply m f
      requested (Ok Reject) reply m f = replied false reply m f
      requested (Ok (Report p n)) reply m f = record { line = record l { opening = o }; ok = refl; moved = opened false }
      requested (Ok (End a)) reply m f = record { line = record l { opening = o }; ok = refl; moved = opened false }
      requested (Ok Nothing) reply m f = record { line = record l { opening = o }; ok = refl; moved = opened false }
      requested (Err e) reply m f = record { line = record l { opening = o }; ok = refl; moved = opened false }

    -- a call that was refused has no answer
    no_answer : (r : Reply) (m : Message) → is_failed_logon r.answer m ≡ true → is_answer (heard_in (bytes_of r)) ≡ false
    no_answer r m i = by r.answer i
      where
        by : (a : Result ℕ GatewayFault) → is_failed_logon a m ≡ true
            → is_answer (heard_in (left_bytes a r.after.items)) ≡ false
        by (Ok n) i = absurd cc
        by (Err e) i = ap is_answer nothing_heard.1

    module _ (r : Reply) (m : Message)
        (f : IsFront (answered c zs ++ option_to_list (cond (is_answer (heard_in (bytes_of r))) (Some m) None))
        (written zs ++ [])) (ungranted : is_grant (heard_in (bytes_of r)) ≡ true → rejected_logons c zs ≡ []) where
      abbrev reply : Message
      reply = bytes_of r

      abbrev rejects_of : Bool → Bool → List Message
      rejects_of failed reject = option_to_list (cond (failed && reject && not carried) (Some (left_reject r)) None)

      -- where the channel began already, no Logon of it is rejected
      none_of : (failed reject : Bool) → carried ≡ true → rejects_of failed reject ≡ []
      none_of true true i = ap (λ b. option_to_list (cond (not b) (Some (left_reject r)) None)) i
      none_of true false i = refl
      none_of false reject i = refl

      going_on : (o : Opening) → l.opening ≡ o → Begun o (carried || true) (rejected_logons c zs ++ []) → carried ≡ true
          → Carried (after_recovery (heard_in reply) reply m l) (heard_in reply) reply m
          (rejects_of (is_failed_logon r.answer m) (is_reject (heard_in (left_reject r))))
      going_on o e begun i =
          subst (λ rs. Carried (after_recovery (heard_in reply) reply m l) (heard_in reply) reply m rs)
          (sym (none_of (is_failed_logon r.answer m) (is_reject (heard_in (left_reject r))) i))
          (subst (λ z. Carried (after_recovery (heard_in reply) reply m z) (heard_in reply) reply m [])
          (ap (λ z. record l { opening = z }) (sym e)) (requested o begun (heard_in reply) reply m f))

      -- a Logon that is no message begins it
      failing : (grants reject : Bool) → carried ≡ false
          → Goes (Ok (cond reject (record l { opening = Failed; recovered = l.recovered ++ left_reject r ∷ [] })
          (record l { opening = Open }))) (given_with false grants reply m (rejects_of true reject))
      failing grants true i =
          subst (λ rs. Goes (Ok (record l { opening = Failed; recovered = l.recovered ++ left_reject r ∷ [] }))
          (given_with false grants reply m rs))
          (sym (ap (λ b. option_to_list (cond (not b) (Some (left_reject r)) None)) i)) (record {
            line = record l { opening = Failed; recovered = l.recovered ++ left_reject r ∷ [] };
            ok = refl;
            moved = record {
              up = refl;
              ready = λ i r. r;
              begun = (carries, longer_not_empty (rejected_logons c zs) (left_reject r));
              live = live_still;
              recovered = back_with (left_reject r);
              asked = asked_still;
            };
          })
      failing grants false i = record { line = record l { opening = Open }; ok = refl; moved = opened Open carries grants }

      first : (failed : Bool) → is_failed_logon r.answer m ≡ failed → carried ≡ false
          → Carried (cond failed (Ok (after_failure (left_reject r) l))
          (after_recovery (heard_in reply) reply m (record l { opening = Open }))) (heard_in reply) reply m
          (rejects_of failed (is_reject (heard_in (left_reject r))))
      first true e i =
          subst (λ b. Goes (Ok (after_failure (left_reject r) l)) (given_with b (is_grant (heard_in reply)) reply m
          (rejects_of true (is_reject (heard_in (left_reject r)))))) (sym (no_answer r m e))
          (failing (is_grant (heard_in reply)) (is_reject (heard_in (left_reject r))) i)
      first false e i = requested Open carries (heard_in reply) reply m f

      behind_failure : (granted : Bool) → is_grant (heard_in reply) ≡ granted → l.opening ≡ Failed → carried ≡ true
          → (rejected_logons c zs ≡ [] → ⊥)
          → Carried (cond granted (Err GrantedOverFailure) (after_recovery (heard_in reply) reply m l))
          (heard_in reply) reply m
          (rejects_of (is_failed_logon r.answer m) (is_reject (heard_in (left_reject r))))
      behind_failure true e o i none = absurd (none (ungranted e))
      behind_failure false e o i none =
          going_on Failed o (carries, λ z. none (sym (append-nil (rejected_logons c zs)) ∙ z)) i

      given_there : (o : Opening) → l.opening ≡ o → Begun o carried (rejected_logons c zs)
          → Carried (given_recovery o m r l) (heard_in reply) reply m
          (rejects_of (is_failed_logon r.answer m) (is_reject (heard_in (left_reject r))))
      given_there Awaited e b = first (is_failed_logon r.answer m) refl b
      given_there Open e b = going_on Open e carries b
      given_there Failed e (b, none) = behind_failure (is_grant (heard_in reply)) refl e b none

    carried_on : (b : Bool) (r : Reply) (m : Message)
        → IsFront (answered c zs ++ option_to_list (cond (b && is_answer (heard_in (bytes_of r))) (Some m) None))
        (written zs ++ []) → ((b && is_grant (heard_in (bytes_of r))) ≡ true → rejected_logons c zs ≡ [])
        → Goes (cond b (given_recovery l.opening m r l) (Ok l))
        (record (given_with (b && is_answer (heard_in (bytes_of r))) (b && is_grant (heard_in (bytes_of r))) (bytes_of r) m
        (option_to_list (cond (b && is_failed_logon r.answer m && is_reject (heard_in (left_reject r)) && not carried)
        (Some (left_reject r)) None))) { carries = b })
    carried_on false r m f g = stands
    carried_on true r m f g = given_there r m f g l.opening refl h.begun

    -- ---- what the follower is given

    down : (a : Connection) → up_in (lost a) ≡ false
    down conn.Away = refl
    down conn.Ready = refl
    down conn.Up = refl

    unheard : Goes (Ok l) (nothing (up_in l.connection))
    unheard = record {
      line = l;
      ok = refl;
      moved = quietly l.connection (up_in l.connection) false refl (λ i r. r);
    }

    report_given : (m : Message) → IsFront (came_live c zs ++ filter is_live (m ∷ [])) (left_live c zs ++ [])
        → Goes (next_live (next_of m l.live) l) (record (nothing (up_in l.connection)) { live_in = Some m })
    report_given m (rest, f) =
        let t = given l (left_live c zs) (came_live c zs) m h.live (is_live m)
        (ap (λ b. b || list_any (bytes_eq m) (left_live c zs)) h.up) (rest, sym (append-nil (left_live c zs)) ∙ f) in
        record {
          line = record l { live = t.live };
          ok = t.ok;
          moved = record {
            up = refl;
            ready = λ i r. r;
            begun = begun_still;
            live = append-nil (left_live c zs) ∙ t.flows;
            recovered = back_still;
            asked = asked_still;
          };
        }

    come : (m : Message) (r : Result Heard Fault)
        → IsFront (came_live c zs ++ filter is_live (option_to_list (cond (is_report r) (Some m) None))) (left_live c zs ++ [])
        → Goes (given_live m r l) (record (nothing (up_in l.connection)) { live_in = cond (is_report r) (Some m) None })
    come m (Ok (Report p n)) f = report_given m f
    come m (Ok (Ack a)) f = unheard
    come m (Ok (End a)) f = unheard
    come m (Ok Reject) f = unheard
    come m (Ok Nothing) f = unheard
    come m (Err e) f = unheard

    -- given on the recovery channel
    heard_back : (m : Message) (r : Result Heard Fault) → heard_in m ≡ r → is_heard r ≡ true
        → IsFront (once (came_back ++ filter is_back (m ∷ []))) (left_recovered c zs ++ [])
        → Goes (given_recovered m r l) (record (nothing (up_in l.connection)) { back_in = Some m })
    heard_back m r heard counts (rest, f) =
        let t = given_back l (left_recovered c zs) came_back m h.recovered r heard counts
        (is_back m) (ap (λ b. b || list_any (bytes_eq m) (left_recovered c zs)) h.up)
        (rest, sym (append-nil (left_recovered c zs)) ∙ f) in
        record {
          line = record l { recovered = t.under; again = t.again };
          ok = t.ok;
          moved = record {
            up = refl;
            ready = λ i r. r;
            begun = begun_still;
            live = live_still;
            recovered = back_out_still (once (came_back ++ filter is_back (m ∷ []))) t.under t.again t.flows;
            asked = asked_still;
          };
        }

    come_back : (m : Message) (r : Result Heard Fault) → heard_in m ≡ r
        → IsFront (once (came_back ++ filter is_back (option_to_list (cond (is_heard r) (Some m) None)))) (left_recovered c zs ++ [])
        → Goes (given_recovered m r l) (record (nothing (up_in l.connection)) { back_in = cond (is_heard r) (Some m) None })
    come_back m (Ok (Report p n)) heard f = heard_back m (Ok (Report p n)) heard refl f
    come_back m (Ok (Ack a)) heard f = heard_back m (Ok (Ack a)) heard refl f
    come_back m (Ok (End a)) heard f = heard_back m (Ok (End a)) heard refl f
    come_back m (Ok Reject) heard f = heard_back m (Ok Reject) heard refl f
    come_back m (Ok Nothing) heard f = stands
    come_back m (Err e) heard f = stands

    -- any call that begins no connection
    goes : (x : Done) → accepts c x ≡ false → Ruled (shows_of (up_in l.connection) x) → (is_up_call x ≡ true → l.connection ≡ conn.Ready)
        → Goes (after_call c x l) (shows_of (up_in l.connection) x)
    goes (done.Venue (venue.RealTime line m t r)) plain s up = by (line == c) (bytes_eq (bytes_of r) accepted) plain
      where
        by : (b e : Bool) → (b && e) ≡ false
            → Goes (cond b (after_logon e l) (Ok l)) (nothing (up_in l.connection))
        by true true i = absurd cc
        by true false i = stands
        by false e i = stands
    goes (done.Venue (venue.Recovery line m t r)) plain s up =
        carried_on (line == c) r m.items s.asked s.granted
    goes (done.Venue (venue.Step t r)) plain s up = stands
    goes (done.Venue (venue.CancelTrade n t r)) plain s up = stands
    goes (done.Venue (venue.LineLost line t r)) plain s up = stands
    goes (done.Venue (venue.Send line r)) plain s up = record {
      line = cond (line == c) (record l { live = behind l.live (bytes_of r) }) l;
      ok = refl;
      moved = sent (line == c) (bytes_of r);
    }
    goes (done.Venue (venue.SendRecovered line r)) plain s up = record {
      line = cond (line == c) (record l { recovered = behind l.recovered (bytes_of r) }) l;
      ok = refl;
      moved = sent_back (line == c) (bytes_of r);
    }
    goes done.Up plain s up = record {
      line = record l { connection = conn.Up };
      ok = ap (λ a. after_up a l) (up refl);
      moved = quietly conn.Up true true refl (λ i r. absurd cc);
    }
    goes done.Lost plain s up = record {
      line = record l { connection = lost l.connection };
      ok = refl;
      moved = quietly (lost l.connection) false false (down l.connection) (λ i r. ap lost r);
    }
    goes (done.Live m r) plain s up = come m.items (heard_in m.items) s.live
    goes (done.Recovered m r) plain s up = come_back m.items (heard_in m.items) refl s.recovered
    goes (done.Ask n r) plain s up = record {
      line = after_ask r.answer r.after.items l;
      ok = refl;
      moved = asks r.answer r.after.items;
    }

-- ---- a log

-- what holds of the line behind a front of a log
pub record Behind (c : ℕ) (ys : List Done) (l : Line) : Type 0 where
  pub matches : Matches c (since c ys) l
  pub up : is_up (since c ys) ≡ is_up ys
  pub ready : list_any (accepts c) ys ≡ true → list_any is_up_call (since c ys) ≡ false → l.connection ≡ conn.Ready

at_first : (c : ℕ) → Behind c [] quiet
at_first c = record { matches = at_logon c conn.Away refl; up = refl; ready = λ i r. absurd cc }

module _ (c : ℕ) (log : List Done) (k : KeepsLine c log) where
  pub record Onward (ys : List Done) (x : Done) (l : Line) : Type 0 where
    pub line : Line
    pub ok : after_call c x l ≡ Ok line
    pub behind : Behind c (ys ++ x ∷ []) line

  -- an accepted Logon
  begins : (ys : List Done) (x : Done) (l : Line) → IsFront (ys ++ x ∷ []) log → Behind c ys l → accepts c x ≡ true
      → Onward ys x l
  begins ys x l f b logon = record { line = connected; ok = by x logon; behind = anew }
    where
      down : up_in l.connection ≡ false
      down = b.matches.up ∙ b.up ∙ k.logons ys x f logon

      one : (b e : Bool) → (b && e) ≡ true → cond b (after_logon e l) (Ok l) ≡ Ok connected
      one true true i = ap (λ u. cond u (Err StillUp) (Ok connected)) down
      one true false i = absurd cc
      one false e i = absurd cc

      by : (x : Done) → accepts c x ≡ true → after_call c x l ≡ Ok connected
      by (done.Venue (venue.RealTime line m t r)) i = one (line == c) (bytes_eq (bytes_of r) accepted) i
      by x i = absurd cc

      stays : (x : Done) → accepts c x ≡ true → (u : Bool) → up_after u x ≡ u
      stays (done.Venue v) i u = refl
      stays x i u = absurd cc

      none : since c (ys ++ x ∷ []) ≡ []
      none = since_logon c ys x logon

      anew : Behind c (ys ++ x ∷ []) connected
      anew = record {
        matches = subst (λ zs. Matches c zs connected) (sym none) (at_logon c conn.Ready refl);
        up = ap is_up none ∙ sym (up_more ys x ∙ stays x logon (is_up ys) ∙ k.logons ys x f logon);
        ready = λ i r. refl;
      }

  -- any other call
  goes_on : (ys : List Done) (x : Done) (l : Line) → IsFront (ys ++ x ∷ []) log → Behind c ys l → accepts c x ≡ false
      → Onward ys x l
  goes_on ys x l f b plain = record {
    line = g.line;
    ok = g.ok;
    behind = record {
      matches = subst (λ zs. Matches c zs g.line) (sym more) (matches c (since c ys) l x g.line b.matches.up g.moved);
      up = ap is_up more ∙ up_more (since c ys) x ∙ ap (λ u. up_after u x) b.up ∙ sym (up_more ys x);
      ready = λ i r. ready (or_cases (list_any (accepts c) ys) (accepts c x || false)
          (sym (list_any-append (accepts c) ys (x ∷ [])) ∙ i))
          (or_parts (list_any is_up_call (since c ys)) (is_up_call x || false)
          (sym (ap (list_any is_up_call) more ∙ list_any-append is_up_call (since c ys) (x ∷ [])) ∙ r));
    };
  }
    where
      more : since c (ys ++ x ∷ []) ≡ since c ys ++ x ∷ []
      more = since_more c ys x plain

      rule : Ruled c (since c ys) (shows_of c (since c ys) (up_in l.connection) x)
      rule = ruled c (since c ys) x
          (subst (λ zs. IsFront (came_live c zs) (left_live c zs)) more (k.live (ys ++ x ∷ []) f))
          (subst (λ zs. IsFront (came_recovered c zs) (left_recovered c zs)) more (k.recovered (ys ++ x ∷ []) f))
          (subst (λ zs. IsFront (answered c zs) (written zs)) more (k.requests (ys ++ x ∷ []) f))
          (k.granted ys x f) (up_in l.connection)

      raised : (x : Done) → IsFront (ys ++ x ∷ []) log → is_up_call x ≡ true → l.connection ≡ conn.Ready
      raised done.Up f i = let (logon, once_only) = k.ups ys f in b.ready logon once_only
      raised x f i = absurd cc

      g : Goes c (since c ys) l b.matches (after_call c x l) (shows_of c (since c ys) (up_in l.connection) x)
      g = goes c (since c ys) l b.matches x plain rule (raised x f)

      ready : (list_any (accepts c) ys ≡ true) ⊎ ((accepts c x || false) ≡ true)
          → (list_any is_up_call (since c ys) ≡ false) × ((is_up_call x || false) ≡ false) → g.line.connection ≡ conn.Ready
      ready (inl i) (r, q) = g.moved.ready (or_parts (is_up_call x) false q).0 (b.ready i r)
      ready (inr i) r = absurd (let z : true ≡ false = sym i ∙ ap (λ b. b || false) plain in cc)

  onward_by : (ys : List Done) (x : Done) (l : Line) → IsFront (ys ++ x ∷ []) log → Behind c ys l → (b : Bool)
      → accepts c x ≡ b → Onward ys x l
  onward_by ys x l f b true e = begins ys x l f b e
  onward_by ys x l f b false e = goes_on ys x l f b e

  walk : (ys xs : List Done) (l : Line) → ys ++ xs ≡ log → Behind c ys l → (l' : Line) × (after_log c xs l ≡ Ok l')
  walk ys [] l e b = (l, refl)
  walk ys (x ∷ xs) l e b =
      let at : (ys ++ x ∷ []) ++ xs ≡ log = append_assoc ys (x ∷ []) xs ∙ e in
      let o = onward_by ys x l (xs, sym at) b (accepts c x) refl in
      let (l', g) = walk (ys ++ x ∷ []) xs o.line at o.behind in
      (l', ap (λ r. fold (onward c) r xs) o.ok ∙ g)

pub as_the_rule : AsTheRule
as_the_rule c log k = walk c log k [] log quiet refl (at_first c)
