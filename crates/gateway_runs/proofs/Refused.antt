-- A refused call changes nothing. Assumes nothing.
use Rattle.std.specs.Prelude.{is_err}
use Rattle.std.proofs.Common.{◌≡◌, ℕ, true, false, List, Some, None, Option, Ok, Err, Result, length, refl, sym, ap, ◌∙◌}
use Rattle.gateway.specs.Calls.{Hands, Handed, send_fault, live_handed, recovery_handed}
use Rattle.gateway.specs.Doing.{acted}
use Rattle.gateway.specs.Hearing.{Given, Hears}
use Rattle.gateway.specs.State.{State}
use Rattle.gateway.specs.declared.fault.GatewayFault.{GatewayFault}
use Rattle.gateway_runs.proofs.Walking.{hears_by}
use Rattle.gateway_runs.specs.Laws.{RefusedStand}
use Rattle.gateway_runs.specs.Runs.{giving}
use Rattle.gateway_runs.specs.declared.call.Done.TheVariants as done
use Rattle.sessions.specs.declared.session.Channel.TheVariants.{RealTime, Recovery}

not_refused : {A : Type 0} (r : Result ℕ GatewayFault) (n : ℕ) → r ≡ Ok n → is_err r ≡ true → A
not_refused r n e h = absurd (let z : false ≡ true = sym (ap is_err e) ∙ h in cc)

hears : (g : Given) (s : State) (r : Result ℕ GatewayFault) (w : State) (out : List ℕ)
    → Hears (λ u acts. w ≡ acted g.time acts u) g s r out → is_err r ≡ true → w ≡ s
hears g s r w out k h =
    hears_by (λ z. z ≡ s) s refl g r w out (λ m f reads (x, e, y). not_refused r _ x h) k

hands : (o : Option GatewayFault) (p : Handed) (s : State) (buffer : List ℕ) (r : Result ℕ GatewayFault) (w : State)
    (out : List ℕ) → Hands (λ u acts. w ≡ u) o p s buffer r out → is_err r ≡ true → w ≡ s
hands (Some f) p s buffer r w out (x, e, y) h = e
hands None p s buffer r w out (x, e, y) h = not_refused r _ x h

pub refused_stand : RefusedStand
refused_stand s (done.RealTime line bs t r) w (spare, k) h =
    hears (giving RealTime line bs.items t r.before.items spare) s r.answer w r.after.items k h
refused_stand s (done.Recovery line bs t r) w (spare, k) h =
    hears (giving Recovery line bs.items t r.before.items spare) s r.answer w r.after.items k h
refused_stand s (done.Step t (Err f)) w (spare, (x, e)) h = e
refused_stand s (done.Step t (Ok e)) w k h = absurd (cc)
refused_stand s (done.CancelTrade n t (Err f)) w (spare, (x, e)) h = e
refused_stand s (done.CancelTrade n t (Ok u)) w k h = absurd (cc)
refused_stand s (done.LineLost line t (Err f)) w (spare, (x, e)) h = e
refused_stand s (done.LineLost line t (Ok u)) w k h = absurd (cc)
refused_stand s (done.Send line r) w (spare, k) h =
    hands (send_fault RealTime (length r.before.items) line s) (live_handed line s) s r.before.items r.answer w r.after.items k h
refused_stand s (done.SendRecovered line r) w (spare, k) h =
    hands (send_fault Recovery (length r.before.items) line s) (recovery_handed line s) s r.before.items r.answer w r.after.items k h
