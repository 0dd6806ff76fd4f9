-- The calls beside the two that take messages. Assumes nothing.
use Rattle.std.specs.Prelude.{◌≡◌, ℕ, List, [], ◌∷◌, length, Some, None, Ok, Err, Option, Result, nat_lt, if◌then◌else◌}
use Rattle.std.specs.Option.{option_or}
use Rattle.answers.specs.Bytes.{end_bytes}
use Rattle.codes.specs.declared.session.Partition.{Partition}
use Rattle.gateway.specs.Hearing.{call_fault, line_fault, fronted}
use Rattle.gateway.specs.Lines.{ends_of, line_closed}
use Rattle.gateway.specs.State.{State, session, with_session}
use Rattle.gateway.specs.declared.fault.GatewayFault.{GatewayFault}
use Rattle.gateway.specs.declared.fault.GatewayFault.TheVariants.{Session, NoPlace, TradesFull, NoSuchTrade, AlreadyCancelled}
use Rattle.gateway.specs.declared.fault.SessionFault.TheVariants.{NotLoggedOn}
use Rattle.keyed.specs.Numbers.{under}
use Rattle.limits.specs.declared.TheConstants.{TRADES}
use Rattle.orders.specs.Trades.{void_fault}
use Rattle.orders.specs.declared.trade.TradeRefusal.{TradeRefusal}
use Rattle.orders.specs.declared.trade.TradeRefusal.TheVariants.{Unknown, DoneBefore}
use Rattle.sessions.specs.Downloads.{recovered}
use Rattle.sessions.specs.Sending.{next_to_send, sent_after}
use Rattle.sessions.specs.Sessions.{download, on, with_download, with_sent}
use Rattle.sessions.specs.declared.download.HandedOut.{HandedOut}
use Rattle.sessions.specs.declared.download.HandedOut.TheVariants.{Report, Ended}
use Rattle.sessions.specs.declared.session.Channel.{Channel}
use Rattle.sessions.specs.declared.session.Channel.TheVariants.{RealTime, Recovery}
use Rattle.store.specs.Kept.{Kept}
use Rattle.store.specs.Messages.{stored_bytes}
use Rattle.matching.specs.Meaning.{Allowed}
use Rattle.matching.specs.declared.event.Event.{Event}
use Rattle.venue.specs.Acts.{Act, Take, Void, step_of}
use Rattle.venue.specs.Books.{Books}
use Rattle.venue.specs.declared.step.Step.{Step}

-- in all of these, `goes u acts` says that the state is u and that these acts are then done; `spare` places are spare

-- ---- an event of the matcher

abbrev pub step_fault : ℕ → Books → Option GatewayFault
step_fault spare b =
    if nat_lt (length b.trades) TRADES then (if nat_lt spare 2 then Some NoPlace else None) else Some TradesFull

-- one of the events that may come comes, and is answered
abbrev pub Steps : (State → List Act → Type 0) → ℕ → State → Result Step GatewayFault → Type 0
Steps goes spare s (Ok r) =
    (step_fault spare s.venue ≡ None)
    × (e : Event) × Allowed s.venue.market.orders e × (r ≡ step_of e s.venue) × goes s (Take e ∷ [])
Steps goes spare s (Err f) = (step_fault spare s.venue ≡ Some f) × goes s []

-- ---- a trade cancelled

abbrev pub of_trade : TradeRefusal → GatewayFault
of_trade Unknown = NoSuchTrade
of_trade DoneBefore = AlreadyCancelled

abbrev pub undo_fault_by : Option TradeRefusal → ℕ → Option GatewayFault
undo_fault_by (Some e) spare = Some (of_trade e)
undo_fault_by None spare = if nat_lt spare 4 then Some NoPlace else None

abbrev pub undo_fault : ℕ → ℕ → Books → Option GatewayFault
undo_fault n spare b = undo_fault_by (void_fault (under b.trades n)) spare

abbrev pub Undoes : (State → List Act → Type 0) → ℕ → ℕ → State → Result (Unit {0}) GatewayFault → Type 0
Undoes goes n spare s (Ok u) = (undo_fault n spare s.venue ≡ None) × goes s (Void n ∷ [])
Undoes goes n spare s (Err f) = (undo_fault n spare s.venue ≡ Some f) × goes s []

-- ---- a lost line

-- the line has to be logged on, on the channel
abbrev pub on_fault : Channel → ℕ → State → Option GatewayFault
on_fault ch line s = if on ch (session s line) then None else Some (Session NotLoggedOn)

abbrev pub lost_fault : ℕ → State → Option GatewayFault
lost_fault line s = option_or (line_fault line s) (on_fault RealTime line s)

abbrev pub Loses : (State → List Act → Type 0) → ℕ → State → Result (Unit {0}) GatewayFault → Type 0
Loses goes line s (Ok u) = (lost_fault line s ≡ None) × goes (line_closed line s) (ends_of line s)
Loses goes line s (Err f) = (lost_fault line s ≡ Some f) × goes s []

-- ---- what is sent

abbrev pub send_fault : Channel → ℕ → ℕ → State → Option GatewayFault
send_fault ch room line s = option_or (call_fault room line s) (on_fault ch line s)

abbrev pub sent_bytes : Kept → Option (Partition × ℕ) → List ℕ
sent_bytes k None = []
sent_bytes k (Some (p, n)) = stored_bytes k p n

abbrev pub recovered_bytes : Kept → Option HandedOut → List ℕ
recovered_bytes k None = []
recovered_bytes k (Some (Report p n)) = stored_bytes k p n
recovered_bytes k (Some (Ended r)) = end_bytes r

-- what a call hands out, and what it leaves; nothing is written to the buffer past it
pub record Handed : Type 0 where
  pub bytes : List ℕ
  pub after : State

-- the line's next report
abbrev pub live_handed : ℕ → State → Handed
live_handed line s =
    let x = session s line in
    record {
      bytes = sent_bytes s.venue.kept (next_to_send s.venue.kept line x.sent);
      after = with_session s line (with_sent x (sent_after s.venue.kept line x.sent));
    }

-- the next of the line's download
abbrev pub recovery_handed : ℕ → State → Handed
recovery_handed line s =
    let x = session s line in
    let next = recovered s.venue.kept line (download x) in
    record {
      bytes = recovered_bytes s.venue.kept next.0;
      after = with_session s line (with_download x next.1);
    }

abbrev pub Hands : (State → List Act → Type 0) → Option GatewayFault → Handed → State → List ℕ
    → Result ℕ GatewayFault → List ℕ → Type 0
Hands goes (Some f) h s buffer r after = (r ≡ Err f) × goes s [] × (after ≡ buffer)
Hands goes None h s buffer r after =
    (r ≡ Ok (length h.bytes)) × goes h.after [] × (after ≡ fronted h.bytes buffer)

abbrev pub Sends : (State → List Act → Type 0) → ℕ → State → List ℕ → Result ℕ GatewayFault → List ℕ → Type 0
Sends goes line s buffer r after =
    Hands goes (send_fault RealTime (length buffer) line s) (live_handed line s) s buffer r after

abbrev pub Recovers : (State → List Act → Type 0) → ℕ → State → List ℕ → Result ℕ GatewayFault → List ℕ → Type 0
Recovers goes line s buffer r after =
    Hands goes (send_fault Recovery (length buffer) line s) (recovery_handed line s) s buffer r after
