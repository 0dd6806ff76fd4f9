-- What a preview says is what the same request then does. Assumes nothing.
use Rattle.std.proofs.Common.{◌≡◌, ℕ, ◌≤◌, Bool, true, false, cond, List, length, Some, None, Option, Ok, Err, Result, refl, sym, ap, ◌∙◌, subst, le-ltb}
use Rattle.std.specs.Prelude.{nat_lt}
use Rattle.std.specs.Option.{option_or}
use Rattle.std.proofs.lemmas.Bool.{and_parts}
use Rattle.answers.specs.declared.answer.Reason.TheVariants as reason
use Rattle.codes.specs.declared.session.Partition.{Partition}
use Rattle.codes.specs.declared.session.Partition.TheVariants.{One, Two, Three}
use Rattle.configuration.specs.declared.instrument.Instrument.{Instrument}
use Rattle.gateway.proofs.Alone.{aim_read, the_request}
use Rattle.gateway.proofs.Withdrawn.{OnlyOpen, none_going, swept_going}
use Rattle.gateway.specs.Calls.{on_fault}
use Rattle.gateway.specs.Doing.{acted}
use Rattle.gateway.specs.Hearing.{Checked, Given, Hears, Read, Settled, answered, firm, line_fault, outcome_of, rejection, requested_as}
use Rattle.gateway.specs.Counting.{going_in, going_of}
use Rattle.gateway.specs.Foretelling.{AsForetold, Did, Foretold, Gone, answer_in, is_gone}
use Rattle.gateway.specs.Previews.{alone, by_plan, is_mass_cancel, message_fault, preview_fault, preview_unless, previewed, request_verdict}
use Rattle.gateway.specs.State.{State, session}
use Rattle.gateway.specs.declared.fault.GatewayFault.TheVariants.{NoSuchLine, Session, ShortBuffer}
use Rattle.gateway.specs.declared.fault.SessionFault.TheVariants.{NotLoggedOn}
use Rattle.gateway.specs.declared.preview.Going.{Going}
use Rattle.gateway.specs.declared.preview.PreviewFault.{PreviewFault}
use Rattle.layout.specs.declared.fault.Fault.{Fault}
use Rattle.layout.specs.declared.fault.Fault.TheVariants.{Short, Start, Unknown, Length, Field}
use Rattle.orders.specs.Rows.{is_open}
use Rattle.orders.specs.declared.row.Row.{Row}
use Rattle.order_messages.specs.declared.order_mass_cancel_request.OrderMassCancelRequest.{OrderMassCancelRequest}
use Rattle.partitions.specs.PerPartition.{at}
use Rattle.partitions.specs.declared.per_partition.PerPartition.{PerPartition}
use Rattle.refusals.specs.declared.Turned.{Turned}
use Rattle.requests.proofs.Planning.{Tests, tested}
use Rattle.requests.specs.MassCancels.{Aim, Plan, accepted, acts_of, aim_of, done_as, owner_of, planned, told_everywhere}
use Rattle.requests.specs.MassCancels.Plan.{unserved, within as ends_in, everywhere as ends_in_all}
use Rattle.requests.specs.Selection.{meant}
use Rattle.requests.specs.declared.selection.Cause.TheVariants.{Request}
use Rattle.sessions.specs.Sessions.{on}
use Rattle.sessions.specs.declared.session.Channel.TheVariants.{RealTime}
use Rattle.texts.specs.Says.{kept}
use Rattle.texts.specs.declared.values.Time.{Time}
use Rattle.venue.specs.Acts.{Act, Note, enact, enact_all}
use Rattle.venue.specs.Books.{Sound}
use Rattle.wire.specs.Messages.{Reads, verdict}
use Rattle.wire.specs.declared.kinds.Channel.TheVariants as reader
use Rattle.wire.specs.declared.message.Message.TheVariants as message
use Rattle.wire.specs.declared.message.TheConstants.{BUFFER}

-- the orders that a request means are open
meant_open : (owner : ℕ → Bool) (reach : Row → Bool) → OnlyOpen (meant owner reach false)
meant_open owner reach = record { is = λ r h. (and_parts (is_open r) _ h).0 }

pub planned_open : (aim : Bool × Aim) (s : State) (line spare : ℕ)
    → Tests OnlyOpen (planned aim s.participants (firm s line) line s.venue spare)
planned_open aim s line spare =
    let owner = owner_of aim.0 s.participants (firm s line) line in
    tested OnlyOpen aim.1 owner s.venue spare (λ reach. meant_open owner reach)

at_going : (q : Row → Bool) (is : List Instrument) (rows : List Row) (p : Partition)
    → at (going_of q is rows) p ≡ going_in q is rows p
at_going q is rows One = refl
at_going q is rows Two = refl
at_going q is rows Three = refl

none_at : (g : Going) (p : Partition) → at (record { one = g; two = g; three = g }) p ≡ g
none_at g One = refl
none_at g Two = refl
none_at g Three = refl

module _ (line : ℕ) (bs : List ℕ) (spare : ℕ) (s : State) (sound : Sound s.venue) (t : Time) (buffer : List ℕ)
    (d : Did) where
  abbrev Goes : State → List Act → Type 0
  Goes u acts = (u ≡ d.changed) × (acts ≡ d.acts)

  abbrev given : Given
  given = record { channel = RealTime; line = line; bytes = bs; time = t; buffer = buffer; spare = spare }

  -- the figures, of the acts that are done
  gone_by : (g : PerPartition Going) (acts : List Act) → Goes s acts
      → ((p : Partition) → at g p ≡ going_in (is_gone (enact_all t acts s.venue).rows) s.venue.instruments s.venue.rows p)
      → Gone g t s d
  gone_by g acts (c, a) h =
      subst (λ (u : State). (p : Partition)
      → at g p ≡ going_in (is_gone (acted t d.acts u).venue.rows) s.venue.instruments s.venue.rows p) c
      (subst (λ (xs : List Act). (p : Partition)
      → at g p ≡ going_in (is_gone (enact_all t xs s.venue).rows) s.venue.instruments s.venue.rows p) a h)

  module _ (m : OrderMassCancelRequest) where
    -- by what it comes to
    foretold_plan : (r : Result Plan Turned) → Tests OnlyOpen r
        → Settled Goes (requested_as (message.OrderMassCancelRequest m) s (done_as line m t s.venue r)) buffer d.answer
        d.reply → AsForetold (by_plan s.venue r) t buffer s d
    foretold_plan (Err e) o (a, (c, x), b) = record {
      message = message.OrderMassCancelRequest m;
      answer = a;
      reply = b;
      nothing = record { changed = sym c; acts = sym x };
    }
    foretold_plan (Ok (unserved p)) o (a, (c, x), b) = (
      record { answer = a; reply = b; changed = sym c; report = ap answer_in (sym x) },
      gone_by _ (acts_of line m t s.venue (unserved p)) (c, x)
          (λ k. none_at _ k ∙ none_going s.venue.instruments s.venue.rows k sound.recorded.numbered),
    )
    foretold_plan (Ok (ends_in p q)) o (a, (c, x), b) = (
      record { answer = a; reply = b; changed = sym c; report = ap answer_in (sym x) },
      gone_by _ (acts_of line m t s.venue (ends_in p q)) (c, x)
          (λ k. at_going q s.venue.instruments s.venue.rows k
          ∙ swept_going t q (Request (kept m.client_order_id.text)) s.venue.instruments
          (enact t (Note p (accepted line m t)) s.venue) k o sound.recorded.numbered),
    )
    foretold_plan (Ok (ends_in_all q)) o (a, (c, x), b) = (
      record { answer = a; reply = b; changed = sym c; report = ap answer_in (sym x) },
      gone_by _ (acts_of line m t s.venue (ends_in_all q)) (c, x)
          (λ k. at_going q s.venue.instruments s.venue.rows k
          ∙ swept_going t q (Request (kept m.client_order_id.text)) s.venue.instruments
          (enact_all t (told_everywhere (accepted line m t)) s.venue) k o sound.recorded.numbered),
    )

    -- by whether the line is logged on
    foretold_on : Reads reader.RealTime bs (message.OrderMassCancelRequest m) → (b : Bool)
        → Settled Goes (cond b
        (requested_as (message.OrderMassCancelRequest m) s
        (done_as line m t s.venue (planned (aim_of m.scope) s.participants (firm s line) line s.venue spare)))
        (answered (rejection reason.NotLoggedOn (message.OrderMassCancelRequest m), s))) buffer d.answer d.reply
        → AsForetold (preview_unless (cond b None (Some (Session NotLoggedOn))) line bs spare s) t buffer s d
    foretold_on r true h =
        subst (λ aim. AsForetold (by_plan s.venue (planned aim s.participants (firm s line) line s.venue spare)) t buffer s d)
        (sym (aim_read bs m r)) (foretold_plan _ (planned_open (aim_of m.scope) s line spare) h)
    foretold_on r false (a, (c, x), b) = record {
      message = message.OrderMassCancelRequest m;
      answer = a;
      reply = b;
      nothing = record { changed = sym c; acts = sym x };
    }

  -- by what the channel's reader says, of a type that is the request's or not
  foretold_read : (own : Bool) → is_mass_cancel bs ≡ own → (o : Option Fault) → (alone own o ≡ Some Unknown → ⊥)
      → Read Goes o given s d.answer d.reply
      → AsForetold (preview_unless (option_or (message_fault (alone own o)) (on_fault RealTime line s)) line bs spare s) t
      buffer s d
  foretold_read true e (Some f) ne (a, (c, x), b) =
      record { answer = a; nothing = record { changed = sym c; acts = sym x } }
  foretold_read true e None ne (n, r, h) =
      let (m, is) = the_request bs n r e in
      foretold_on m (subst (Reads reader.RealTime bs) is r) (on RealTime (session s line))
      (subst (λ k. Settled Goes (outcome_of RealTime line k t spare s) buffer d.answer d.reply) is h)
  foretold_read false e (Some Short) ne (a, (c, x), b) =
      record { answer = a; nothing = record { changed = sym c; acts = sym x } }
  foretold_read false e (Some Start) ne (a, (c, x), b) =
      record { answer = a; nothing = record { changed = sym c; acts = sym x } }
  foretold_read false e (Some Unknown) ne h = absurd (ne refl)
  foretold_read false e (Some Length) ne h = absurd (ne refl)
  foretold_read false e (Some (Field at)) ne h = absurd (ne refl)
  foretold_read false e None ne h = absurd (ne refl)

  -- by whether there is such a line
  foretold_line : (request_verdict bs ≡ Some Unknown → ⊥) → (b : Bool)
      → Checked Goes (cond b None (Some NoSuchLine)) given s d.answer d.reply
      → AsForetold (preview_unless (option_or (cond b None (Some NoSuchLine))
      (option_or (message_fault (request_verdict bs)) (on_fault RealTime line s))) line bs spare s) t buffer s d
  foretold_line ne true h = foretold_read (is_mass_cancel bs) refl (verdict reader.RealTime bs) ne h
  foretold_line ne false (a, (c, x), b) =
      record { answer = a; nothing = record { changed = sym c; acts = sym x } }

  foretold_call : (request_verdict bs ≡ Some Unknown → ⊥) → BUFFER ≤ length buffer
      → Hears Goes given s d.answer d.reply → AsForetold (previewed line bs spare s) t buffer s d
  foretold_call ne room h =
      let there : nat_lt (length buffer) BUFFER ≡ false = le-ltb (length buffer) BUFFER room in
      foretold_line ne (nat_lt line (length s.lines))
      (subst (λ b. Checked Goes (cond b (Some ShortBuffer) (line_fault line s)) given s d.answer d.reply) there h)

-- what was answered, of a request that was read
pub exact : (line : ℕ) (bs : List ℕ) (spare : ℕ) (s : State) (m : OrderMassCancelRequest)
    (r : Result (PerPartition Going) PreviewFault) → preview_fault line bs s ≡ None
    → Reads reader.RealTime bs (message.OrderMassCancelRequest m)
    → r ≡ by_plan s.venue (planned (aim_of m.scope) s.participants (firm s line) line s.venue spare)
    → r ≡ previewed line bs spare s
exact line bs spare s m r none read e =
    e
    ∙ ap (λ aim. by_plan s.venue (planned aim s.participants (firm s line) line s.venue spare)) (sym (aim_read bs m read))
    ∙ sym (ap (λ o. preview_unless o line bs spare s) none)

pub foretold : (line : ℕ) (bs : List ℕ) (spare : ℕ) (s : State) (r : Result (PerPartition Going) PreviewFault) → Sound s.venue
    → r ≡ previewed line bs spare s → Foretold line bs spare s r
foretold line bs spare s r sound e t buffer d ne room h =
    subst (λ x. AsForetold x t buffer s d) (sym e) (foretold_call line bs spare s sound t buffer d ne room h)
