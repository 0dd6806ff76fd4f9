-- The ways that a call can end: what holds of the state before it, and of what it made of it. Assumes nothing.
use Rattle.std.specs.Prelude.{nat_lt}
use Rattle.std.proofs.Common.{◌≡◌, ℕ, ◌<◌, Bool, true, false, cond, List, [], Some, None, Option, Result, length, refl, sym, subst, ltb-true}
use Rattle.std.specs.Option.{option_or}
use Rattle.gateway.specs.Calls.{Hands, Handed}
use Rattle.gateway.specs.Doing.{acted}
use Rattle.gateway.specs.Hearing.{Settled, Read, Checked, Given, Hears, outcome_of, call_fault, line_fault, reader_of}
use Rattle.gateway.specs.State.{State}
use Rattle.gateway.specs.declared.fault.GatewayFault.{GatewayFault}
use Rattle.gateway.specs.declared.fault.GatewayFault.TheVariants.{ShortBuffer, NoSuchLine}
use Rattle.keyed.proofs.Under.{none-some}
use Rattle.layout.specs.declared.fault.Fault.{Fault}
use Rattle.venue.specs.Acts.{Act}
use Rattle.wire.specs.Messages.{Reads, verdict}
use Rattle.wire.specs.declared.message.TheConstants.{BUFFER}
use Rattle.wire.specs.declared.message.Message.{Message}

-- ---- the line that a call was not refused on is there

short_or : (line : ℕ) (s : State) (b : Bool) → cond b (Some ShortBuffer) (line_fault line s) ≡ None → line_fault line s
    ≡ None
short_or line s true e = none-some ShortBuffer (sym e)
short_or line s false e = e

there_or : (line : ℕ) (s : State) (b : Bool) → nat_lt line (length s.lines) ≡ b → cond b None (Some NoSuchLine) ≡ None
    → line < length s.lines
there_or line s true h e = ltb-true line (length s.lines) h
there_or line s false h e = none-some NoSuchLine (sym e)

pub line_there : (line : ℕ) (s : State) → line_fault line s ≡ None → line < length s.lines
line_there line s e = there_or line s (nat_lt line (length s.lines)) refl e

pub call_there : (room line : ℕ) (s : State) → call_fault room line s ≡ None → line < length s.lines
call_there room line s e = line_there line s (short_or line s (nat_lt room BUFFER) e)

pub first_none : (f g : Option GatewayFault) → option_or f g ≡ None → f ≡ None
first_none None g e = refl
first_none (Some x) g e = e

-- ---- the ways to end

-- what follows of each way to end follows of the call
module _ (G : State → List Act → Type 0) (P : Type 0) (s : State) (idle : G s [] → P) where
  -- a message is refused, or was read and did what it does
  module _ (g : Given) (r : Result ℕ GatewayFault) (out : List ℕ)
      (does : (m : Message) → call_fault (length g.buffer) g.line s ≡ None → Reads (reader_of g.channel) g.bytes m
      → Settled G (outcome_of g.channel g.line m g.time g.spare s) g.buffer r out → P) where
    read_ends : (o : Option Fault) → call_fault (length g.buffer) g.line s ≡ None → Read G o g s r out → P
    read_ends (Some f) k (x, e, y) = idle e
    read_ends None k (m, reads, h) = does m k reads h

    checked_ends : (o : Option GatewayFault) → call_fault (length g.buffer) g.line s ≡ o → Checked G o g s r out → P
    checked_ends (Some f) k (x, e, y) = idle e
    checked_ends None k h = read_ends (verdict (reader_of g.channel) g.bytes) k h

    pub hears_ends : Hears G g s r out → P
    hears_ends h = checked_ends (call_fault (length g.buffer) g.line s) refl h

  -- nothing is handed out, or what is
  pub hands_ends : (o : Option GatewayFault) (p : Handed) (buffer : List ℕ) (r : Result ℕ GatewayFault) (out : List ℕ)
      → (G p.after [] → P) → Hands G o p s buffer r out → P
  hands_ends (Some f) p buffer r out after (x, e, y) = idle e
  hands_ends None p buffer r out after (x, e, y) = after e

-- so what holds of the state before the call and of what it made of it holds of the state after it
module _ (P : State → Type 0) (s : State) (same : P s) where
  module _ (g : Given) (r : Result ℕ GatewayFault) (w : State) (out : List ℕ)
      (does : (m : Message) → call_fault (length g.buffer) g.line s ≡ None → Reads (reader_of g.channel) g.bytes m
      → Settled (λ u acts. w ≡ acted g.time acts u) (outcome_of g.channel g.line m g.time g.spare s) g.buffer r out
      → P w) where
    pub hears_by : Hears (λ u acts. w ≡ acted g.time acts u) g s r out → P w
    hears_by h =
        hears_ends (λ u acts. w ≡ acted g.time acts u) (P w) s (λ e. subst P (sym e) same) g r out does h

  pub hands_by : (o : Option GatewayFault) (p : Handed) (buffer : List ℕ) (r : Result ℕ GatewayFault) (w : State)
      (out : List ℕ) → P p.after → Hands (λ u acts. w ≡ u) o p s buffer r out → P w
  hands_by o p buffer r w out after h =
      hands_ends (λ u acts. w ≡ u) (P w) s (λ e. subst P (sym e) same) o p buffer r out (λ e. subst P (sym e) after) h
