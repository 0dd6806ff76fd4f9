-- What each call makes of the sessions. Assumes nothing.
use Rattle.std.specs.Prelude.{slice_get, slice_set, slice_index_or}
use Rattle.std.proofs.Common.{◌≡◌, ◌⊎◌, inl, inr, ℕ, Bool, true, false, cond, List, Some, None, Option, Ok, Err, Result, length, refl, sym, ap, ◌∙◌}
use Rattle.std.proofs.lemmas.List.{length-set, get_or-set_other}
use Rattle.answers.specs.declared.answer.Answer.{Answer}
use Rattle.codes.specs.declared.session.AckResponse.{AckResponse}
use Rattle.gateway.specs.Calls.{Hands, Handed, send_fault, live_handed, recovery_handed}
use Rattle.gateway.specs.Doing.{Outcome, acted}
use Rattle.gateway.specs.Hearing.{Given, Hears, Settled, answered, outcome_of, requested_as, missed_by, missed_on, logout}
use Rattle.gateway.specs.Lines.{admitted, admits}
use Rattle.gateway.specs.State.{State, session}
use Rattle.gateway.specs.declared.fault.GatewayFault.{GatewayFault}
use Rattle.gateway_runs.proofs.Walking.{hears_by, hands_by}
use Rattle.gateway_runs.specs.Laws.{LinesApart, line_of}
use Rattle.gateway_runs.specs.Runs.{Turns, giving}
use Rattle.gateway_runs.specs.declared.call.Done.{Done}
use Rattle.gateway_runs.specs.declared.call.Done.TheVariants as done
use Rattle.session_messages.specs.declared.missed_message_request.MissedMessageRequest.{MissedMessageRequest}
use Rattle.requests.specs.Deciding.{Decision}
use Rattle.sessions.specs.Sessions.{on, fresh}
use Rattle.sessions.specs.declared.session.Channel.{Channel}
use Rattle.sessions.specs.declared.session.Channel.TheVariants.{RealTime, Recovery}
use Rattle.refusals.specs.declared.LogonRefusal.{LogonRefusal}
use Rattle.refusals.specs.declared.RequestRefusal.{RequestRefusal}
use Rattle.sessions.specs.declared.session.Session.{Session}
use Rattle.texts.specs.declared.values.Time.{Time}
use Rattle.wire.specs.declared.message.Message.{Message}
use Rattle.wire.specs.declared.message.Message.TheVariants as message

-- the sessions are as they were, but perhaps for one line's
abbrev pub Set : ℕ → State → State → Type 0
Set line s u = (u.lines ≡ s.lines) ⊎ ((x : Session) × (u.lines ≡ slice_set s.lines line x))

abbrev OutSet : ℕ → State → Outcome → Type 0
OutSet line s o = Set line s o.changed

same_set : (line : ℕ) (s u w : State) → w.lines ≡ u.lines → Set line s u → Set line s w
same_set line s u w e (inl f) = inl (e ∙ f)
same_set line s u w e (inr (x, f)) = inr (x, e ∙ f)

admitted_set : (known : Bool) (line : ℕ) (s : State) (r : Result Session LogonRefusal)
    → Set line s (admitted known line s r).1
admitted_set known line s (Err e) = inl refl
admitted_set true line s (Ok x) = inr (x, refl)
admitted_set false line s (Ok x) = inl refl

asked_set : (line : ℕ) (m : Message) (s : State) (o : Decision) → OutSet line s (requested_as m s o)
asked_set line m s (Err t) = inl refl
asked_set line m s (Ok acts) = inl refl

missed_set : (r : Result (Session × AckResponse) RequestRefusal) (line : ℕ) (m : MissedMessageRequest) (s : State)
    → OutSet line s (missed_by r line m s)
missed_set (Err e) line m s = inl refl
missed_set (Ok (x, a)) line m s = inr (x, refl)

missed_here : (ch : Channel) (line : ℕ) (m : MissedMessageRequest) (s : State) → OutSet line s (missed_on ch line m s)
missed_here Recovery line m s = missed_set _ line m s
missed_here RealTime line m s = inl refl

logout_set : (ch : Channel) (line : ℕ) (s : State) → OutSet line s (logout ch line s)
logout_set RealTime line s = inr (_, refl)
logout_set Recovery line s = inr (_, refl)

where_on : (line : ℕ) (s : State) (b : Bool) (o : Outcome) (a : Answer) → OutSet line s o
    → OutSet line s (cond b o (answered (a, s)))
where_on line s true o a f = f
where_on line s false o a f = inl refl

silence : (line : ℕ) (s : State) (b : Bool) (a c : Answer)
    → OutSet line s (cond b (answered (a, s)) (answered (c, s)))
silence line s true a c = inl refl
silence line s false a c = inl refl

outcome_set : (ch : Channel) (line : ℕ) (m : Message) (t : Time) (spare : ℕ) (s : State)
    → OutSet line s (outcome_of ch line m t spare s)
outcome_set ch line (message.Logon m) t spare s = admitted_set (admits (slice_get s.participants line) m) line s _
outcome_set ch line (message.NewOrder m) t spare s =
    where_on line s (on ch (session s line)) _ _ (asked_set line (message.NewOrder m) s _)
outcome_set ch line (message.OrderCancelRequest m) t spare s =
    where_on line s (on ch (session s line)) _ _ (asked_set line (message.OrderCancelRequest m) s _)
outcome_set ch line (message.OrderCancelReplaceRequest m) t spare s =
    where_on line s (on ch (session s line)) _ _ (asked_set line (message.OrderCancelReplaceRequest m) s _)
outcome_set ch line (message.OrderMassCancelRequest m) t spare s =
    where_on line s (on ch (session s line)) _ _ (asked_set line (message.OrderMassCancelRequest m) s _)
outcome_set ch line (message.MissedMessageRequest m) t spare s =
    where_on line s (on ch (session s line)) _ _ (missed_here ch line m s)
outcome_set ch line (message.Logout m) t spare s =
    where_on line s (on ch (session s line)) _ _ (logout_set ch line s)
outcome_set ch line m t spare s = silence line s (on ch (session s line)) _ _

stays_set : (line : ℕ) (s w : State) → w ≡ s → Set line s w
stays_set line s w e = inl (ap (λ (z : State). z.lines) e)

-- the acts touch no session
settled_set : (line : ℕ) (t : Time) (s : State) (o : Outcome) (buffer : List ℕ) (r : Result ℕ GatewayFault) (w : State)
    (out : List ℕ) → OutSet line s o → Settled (λ u acts. w ≡ acted t acts u) o buffer r out → Set line s w
settled_set line t s o buffer r w out f (x, e, y) = same_set line s o.changed w (ap (λ (z : State). z.lines) e) f

hears_set : (g : Given) (s : State) (r : Result ℕ GatewayFault) (w : State) (out : List ℕ)
    → Hears (λ u acts. w ≡ acted g.time acts u) g s r out → Set g.line s w
hears_set g s r w out h =
    hears_by (Set g.line s) s (inl refl) g r w out
    (λ m k reads d. settled_set g.line g.time s (outcome_of g.channel g.line m g.time g.spare s) g.buffer r w out
    (outcome_set g.channel g.line m g.time g.spare s) d) h

hands_set : (line : ℕ) (o : Option GatewayFault) (p : Handed) (s : State) (buffer : List ℕ) (r : Result ℕ GatewayFault)
    (w : State) (out : List ℕ)
    → Set line s p.after → Hands (λ u acts. w ≡ u) o p s buffer r out → Set line s w
hands_set line o p s buffer r w out k d = hands_by (Set line s) s (inl refl) o p buffer r w out k d

-- the sessions after a call: on a line only that line's may change
abbrev pub SetOn : Option ℕ → State → State → Type 0
SetOn None s w = w.lines ≡ s.lines
SetOn (Some line) s w = Set line s w

pub call_sets : (s : State) (d : Done) (w : State) → Turns s d w → SetOn (line_of d) s w
call_sets s (done.RealTime line bs t r) w (spare, h) =
    hears_set (giving RealTime line bs.items t r.before.items spare) s r.answer w r.after.items h
call_sets s (done.Recovery line bs t r) w (spare, h) =
    hears_set (giving Recovery line bs.items t r.before.items spare) s r.answer w r.after.items h
call_sets s (done.Step t (Ok x)) w (spare, (f, e, may, is, y)) = ap (λ (z : State). z.lines) y
call_sets s (done.Step t (Err f)) w (spare, (x, e)) = ap (λ (z : State). z.lines) e
call_sets s (done.CancelTrade n t (Ok u)) w (spare, (x, e)) = ap (λ (z : State). z.lines) e
call_sets s (done.CancelTrade n t (Err f)) w (spare, (x, e)) = ap (λ (z : State). z.lines) e
call_sets s (done.LineLost line t (Ok u)) w (spare, (x, e)) = inr (_, ap (λ (z : State). z.lines) e)
call_sets s (done.LineLost line t (Err f)) w (spare, (x, e)) = stays_set line s w e
call_sets s (done.Send line r) w (spare, h) =
    hands_set line (send_fault RealTime (length r.before.items) line s) (live_handed line s) s r.before.items r.answer w r.after.items
    (inr (_, refl)) h
call_sets s (done.SendRecovered line r) w (spare, h) =
    hands_set line (send_fault Recovery (length r.before.items) line s) (recovery_handed line s) s r.before.items r.answer w r.after.items
    (inr (_, refl)) h

-- ---- others stay

at_other : (line : ℕ) (s w : State) (k : ℕ) → (k ≡ line → ⊥) → Set line s w → session w k ≡ session s k
at_other line s w k ne (inl e) = ap (λ (l : List Session). slice_index_or l k fresh) e
at_other line s w k ne (inr (x, e)) =
    ap (λ (l : List Session). slice_index_or l k fresh) e ∙ get_or-set_other s.lines line k x fresh ne

on_others : (o : Option ℕ) (s w : State) (k : ℕ) → (o ≡ Some k → ⊥) → SetOn o s w → session w k ≡ session s k
on_others None s w k ne e = ap (λ (l : List Session). slice_index_or l k fresh) e
on_others (Some line) s w k ne f = at_other line s w k (λ e. ne (ap Some (sym e))) f

pub lines_apart : LinesApart
lines_apart s d w k h ne = on_others (line_of d) s w k ne (call_sets s d w h)

-- and as many as there were
many : (line : ℕ) (s w : State) → Set line s w → length w.lines ≡ length s.lines
many line s w (inl e) = ap length e
many line s w (inr (x, e)) = ap length e ∙ length-set s.lines line x

many_on : (o : Option ℕ) (s w : State) → SetOn o s w → length w.lines ≡ length s.lines
many_on None s w e = ap length e
many_on (Some line) s w f = many line s w f

pub same_many : (s : State) (d : Done) (w : State) → Turns s d w → length w.lines ≡ length s.lines
same_many s d w h = many_on (line_of d) s w (call_sets s d w h)
