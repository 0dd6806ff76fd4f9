-- What a call does, as acts. Assumes nothing.
use Rattle.std.specs.List.{AllByRecursion}
use Rattle.std.proofs.Common.{◌≡◌, ℕ, ◌<◌, true, List, [], ◌∷◌, Some, None, Option, Ok, Err, Result, length, refl, sym, subst}
use Rattle.gateway_runs.specs.declared.call.Done.{Done}
use Rattle.gateway_runs.specs.declared.call.Done.TheVariants as done
use Rattle.changes.specs.declared.change.Change.{Change}
use Rattle.gateway.specs.Calls.{Loses, Steps, Undoes, live_handed, on_fault, recovery_handed, send_fault}
use Rattle.gateway.specs.Hearing.{Given, Hears, line_fault, outcome_of}
use Rattle.gateway.specs.Lines.{ends_of, line_closed}
use Rattle.gateway.specs.State.{State}
use Rattle.gateway.specs.declared.fault.GatewayFault.{GatewayFault}
use Rattle.gateway_runs.proofs.Fitting.{Alters, Fits, MayBy, ends_fit, outcome_fits}
use Rattle.gateway_runs.proofs.Walking.{call_there, first_none, hands_ends, hears_ends, line_there}
use Rattle.gateway_runs.specs.Laws.{line_of}
use Rattle.gateway_runs.specs.Runs.{Makes, giving}
use Rattle.orders.specs.Rows.{orderable}
use Rattle.sessions.specs.declared.session.Channel.TheVariants.{RealTime, Recovery}
use Rattle.texts.specs.declared.values.Time.{Time}
use Rattle.venue.specs.Acts.{Act, Open, Alter, Note, Take, Void}
use Rattle.venue.specs.declared.step.Step.{Step}
use Rattle.wire.specs.declared.message.Message.{Message}

-- an act of a call on a line that there is, whatever it changes
abbrev pub OnLine : State → ℕ → Act → Type 0
OnLine s line a = (line < length s.lines) × Fits (λ c. Unit {0}) s line a

-- an act of a call on no line
abbrev pub Inside : Act → Type 0
Inside (Open terms ask) = ⊥
Inside (Alter n c) = ⊥
Inside (Note p e) = ⊥
Inside (Take e) = Unit {0}
Inside (Void n) = Unit {0}

abbrev pub On : State → Option ℕ → Act → Type 0
On s None = Inside
On s (Some line) = OnLine s line

whatever : (may : Change → Type 0) (s : State) (line : ℕ) (a : Act) → Fits may s line a → Fits (λ c. Unit {0}) s line a
whatever may s line (Open terms ask) f = (f.0, f.1, tt)
whatever may s line (Alter n c) f = (f.0, tt, f.2)
whatever may s line (Note p e) f = f
whatever may s line (Take e) f = f
whatever may s line (Void n) f = f

on_line : (may : Change → Type 0) (s : State) (line : ℕ) → line < length s.lines → (acts : List Act)
    → AllByRecursion (Fits may s line) acts → AllByRecursion (OnLine s line) acts
on_line may s line there [] f = tt
on_line may s line there (a ∷ acts) (x, f) = ((there, whatever may s line a x), on_line may s line there acts f)

-- ---- what follows of a change of the session alone and of such acts follows of the call

module _ (G : State → List Act → Type 0) (P : Type 0) (s : State) where
  -- it follows where each of the acts is one of these
  abbrev pub Follows : (Act → Type 0) → Type 0
  Follows p = (u : State) (acts : List Act) → u.venue ≡ s.venue → AllByRecursion p acts → G u acts → P

  hears_on : (g : Given) → Follows (OnLine s g.line) → (r : Result ℕ GatewayFault) (out : List ℕ) → Hears G g s r out → P
  hears_on g by r out h =
      hears_ends G P s (by s [] refl tt) g r out
      (λ m k reads d. does m (call_there (length g.buffer) g.line s k) d.1) h
    where
      does : (m : Message) → g.line < length s.lines → G (outcome_of g.channel g.line m g.time g.spare s).changed
          (outcome_of g.channel g.line m g.time g.spare s).acts → P
      does m there k =
          let o = outcome_of g.channel g.line m g.time g.spare s in
          let f = outcome_fits s g.line g.channel m g.time g.spare in
          by o.changed o.acts f.same (on_line (MayBy m) s g.line there o.acts f.acts) k

  steps_on : (n : ℕ) → Follows Inside → (r : Result Step GatewayFault) → Steps G n s r → P
  steps_on n by (Ok x) (f, e, may, is, k) = by s (Take e ∷ []) refl (tt, tt) k
  steps_on n by (Err f) (x, k) = by s [] refl tt k

  undoes_on : (n spare : ℕ) → Follows Inside → (r : Result (Unit {0}) GatewayFault) → Undoes G n spare s r → P
  undoes_on n spare by (Ok u) (x, k) = by s (Void n ∷ []) refl (tt, tt) k
  undoes_on n spare by (Err f) (x, k) = by s [] refl tt k

  loses_on : (line : ℕ) → Follows (OnLine s line) → (r : Result (Unit {0}) GatewayFault) → Loses G line s r → P
  loses_on line by (Ok u) (x, k) =
      let there = line_there line s (first_none (line_fault line s) (on_fault RealTime line s) x) in
      by (line_closed line s) (ends_of line s) refl
      (on_line (λ c. Unit {0}) s line there (ends_of line s) (ends_fit s line (λ c. Unit {0}) (λ e i. tt))) k
  loses_on line by (Err f) (x, k) = by s [] refl tt k

pub call_on : (G : Time → State → List Act → Type 0) (I : State → List Act → Type 0) (P : Type 0) (s : State) (d : Done)
    → ((t : Time) → Follows (G t) P s (On s (line_of d))) → ((u : State) → u.venue ≡ s.venue → I u [] → P) → (n : ℕ)
    → Makes G I n s d → P
call_on G I P s (done.RealTime line m t r) by or n k =
    hears_on (G t) P s (giving RealTime line m.items t r.before.items n) (by t) r.answer r.after.items k
call_on G I P s (done.Recovery line m t r) by or n k =
    hears_on (G t) P s (giving Recovery line m.items t r.before.items n) (by t) r.answer r.after.items k
call_on G I P s (done.Step t r) by or n k = steps_on (G t) P s n (by t) r k
call_on G I P s (done.CancelTrade x t r) by or n k = undoes_on (G t) P s x n (by t) r k
call_on G I P s (done.LineLost line t r) by or n k = loses_on (G t) P s line (by t) r k
call_on G I P s (done.Send line r) by or n k =
    hands_ends I P s (or s refl) (send_fault RealTime (length r.before.items) line s) (live_handed line s) r.before.items
    r.answer r.after.items (or (live_handed line s).after refl) k
call_on G I P s (done.SendRecovered line r) by or n k =
    hands_ends I P s (or s refl) (send_fault Recovery (length r.before.items) line s) (recovery_handed line s)
    r.before.items r.answer r.after.items (or (recovery_handed line s).after refl) k

-- ---- whatever the line

-- a new order of shares that can be ordered, or a report, of one of so many lines; or a change that makes no order of
-- nothing
abbrev pub Among : ℕ → Act → Type 0
Among lines (Open terms ask) = (terms.owner < lines) × (orderable ask.quantity ≡ true)
Among lines (Alter n c) = Alters c
Among lines (Note p e) = e.owner < lines
Among lines (Take e) = Unit {0}
Among lines (Void n) = Unit {0}

among : (s : State) (line : Option ℕ) (a : Act) → On s line a → Among (length s.lines) a
among s None (Open terms ask) f = absurd f
among s None (Alter n c) f = absurd f
among s None (Note p e) f = absurd f
among s None (Take e) f = tt
among s None (Void n) f = tt
among s (Some line) (Open terms ask) (there, f) = (subst (λ (n : ℕ). n < length s.lines) (sym f.0) there, f.1)
among s (Some line) (Alter n c) (there, f) = f.0
among s (Some line) (Note p e) (there, f) = subst (λ (n : ℕ). n < length s.lines) (sym f) there
among s (Some line) (Take e) f = tt
among s (Some line) (Void n) f = tt

all_among : (s : State) (line : Option ℕ) (acts : List Act) → AllByRecursion (On s line) acts
    → AllByRecursion (Among (length s.lines)) acts
all_among s line [] f = tt
all_among s line (a ∷ acts) (x, f) = (among s line a x, all_among s line acts f)

pub call_among : (G : Time → State → List Act → Type 0) (I : State → List Act → Type 0) (P : Type 0) (s : State) (d : Done)
    → ((t : Time) → Follows (G t) P s (Among (length s.lines))) → ((u : State) → u.venue ≡ s.venue → I u [] → P)
    → (n : ℕ) → Makes G I n s d → P
call_among G I P s d by or n k =
    call_on G I P s d (λ t u acts e f g. by t u acts e (all_among s (line_of d) acts f) g) or n k
