-- What a Mass Cancel Request is decided to be. Assumes nothing.
use Rattle.std.specs.Prelude.{ℕ, ◌+◌, ◌≤◌, Bool, true, false, not, List, [], ◌∷◌, ◌++◌, Ok, Err, Result, IfOk, nat_lt, if◌then◌else◌}
use Rattle.std.specs.List.{list_any}
use Rattle.std.specs.Str.{bytes_eq}
use Rattle.codes.specs.declared.order.Book.{Book}
use Rattle.codes.specs.declared.session.Partition.{Partition}
use Rattle.codes.specs.declared.session.Partition.TheVariants.{One, Two, Three}
use Rattle.configuration.specs.declared.instrument.Instrument.{Instrument}
use Rattle.configuration.specs.declared.participant.Participant.{Participant}
use Rattle.matching.specs.Meaning.{serves}
use Rattle.order_messages.specs.declared.order_mass_cancel_request.OrderMassCancelRequest.{OrderMassCancelRequest}
use Rattle.order_messages.specs.declared.order_mass_cancel_request.Scope.{Scope}
use Rattle.order_messages.specs.declared.order_mass_cancel_request.Scope.TheVariants.{FirmInstrument, FirmSegment, CompId, Firm, CompIdInstrument, CompIdSegment}
use Rattle.orders.specs.Tables.{open_count}
use Rattle.orders.specs.declared.row.Row.{Row}
use Rattle.reports.specs.declared.report.Entry.{Entry}
use Rattle.reports.specs.declared.report.MassAnswer.{MassAnswer}
use Rattle.reports.specs.declared.report.MassAnswer.TheVariants.{Accepted, Rejected}
use Rattle.reports.specs.declared.report.Report.TheVariants.{MassCancel}
use Rattle.requests.specs.Deciding.{Decision, turned_if, with_listing}
use Rattle.requests.specs.Instruments.{look_up}
use Rattle.requests.specs.Selection.{anywhere, meant, of_firm, of_instrument, of_line, of_segment, picks, withdrawals}
use Rattle.requests.specs.declared.listing.Listing.{Listing}
use Rattle.refusals.specs.declared.Refusal.TheVariants.{BookNotServed}
use Rattle.refusals.specs.declared.Turned.{Turned}
use Rattle.refusals.specs.declared.Turned.TheVariants.{UnknownInstrument, NoPlace}
use Rattle.requests.specs.declared.mass_cancel.Sweep.{Sweep}
use Rattle.requests.specs.declared.mass_cancel.Sweep.TheVariants.{Unserved, Within, Everywhere}
use Rattle.requests.specs.declared.selection.Cause.TheVariants.{Request}
use Rattle.texts.specs.Bytes.{said}
use Rattle.texts.specs.Says.{says, kept}
use Rattle.texts.specs.declared.values.Time.{Time}
use Rattle.venue.specs.Acts.{Act, Note}
use Rattle.venue.specs.Books.{Books, Over}

-- an instrument of the segment is there
abbrev pub has_segment : List Instrument → List ℕ → Bool
has_segment is s = list_any (λ i. bytes_eq (said i.segment.bytes) s) is

abbrev pub mass_entry : ℕ → OrderMassCancelRequest → MassAnswer → Time → Entry
mass_entry line m a t = record {
  owner = line;
  report = MassCancel (record { client = kept m.client_order_id.text; answer = a; time = t });
}

abbrev pub accepted : ℕ → OrderMassCancelRequest → Time → Entry
accepted line m t = mass_entry line m Accepted t

abbrev pub refused : ℕ → OrderMassCancelRequest → Time → Entry
refused line m t = mass_entry line m (Rejected BookNotServed) t

-- ---- what it comes to, where it is not turned down

-- its book is not served, which is told in a partition; or the open orders of which a test is true end, and the requester
-- is told in a partition or in each
pub data Plan : Type 0 where
  unserved : Partition → Plan
  within : Partition → (Row → Bool) → Plan
  everywhere : (Row → Bool) → Plan

abbrev pub plan_of : List Instrument → Sweep → Plan
plan_of is (Unserved p) = unserved p
plan_of is (Within p s) = within p (picks is s)
plan_of is (Everywhere s) = everywhere (picks is s)

abbrev pub planned_as : List Instrument → Result Sweep Turned → Result Plan Turned
planned_as is (Err e) = Err e
planned_as is (Ok s) = Ok (plan_of is s)

-- how many reports the requester gets
abbrev pub told_count : Sweep → ℕ
told_count (Unserved p) = 1
told_count (Within p s) = 1
told_count (Everywhere s) = 3

-- where it is not turned down, the places for these are spare
abbrev pub Roomed : {M : Type 0} → Over Books M → Result Sweep Turned → Type 0
Roomed v r = IfOk r (λ s. open_count v.state.rows + told_count s ≤ v.free)

-- ---- by scope

-- an instrument's orders in a book
abbrev pub in_instrument : (ℕ → Bool) → Book → Books → Listing → Plan
in_instrument owner k b l =
    if serves b.market k
    then within l.instrument.partition (meant owner (of_instrument l.place k) false)
    else unserved l.instrument.partition

abbrev pub in_listing : List ℕ → (ℕ → Bool) → Book → Books → ℕ → Result Plan Turned
in_listing s owner k b spare =
    with_listing (look_up b.instruments s) (λ l. turned_if (nat_lt spare 1) NoPlace (Ok (in_instrument owner k b l)))

-- orders of all partitions
abbrev pub in_all : (ℕ → Bool) → (Row → Bool) → ℕ → Result Plan Turned
in_all owner reach spare = turned_if (nat_lt spare 3) NoPlace (Ok (everywhere (meant owner reach false)))

abbrev pub in_segment : List ℕ → (ℕ → Bool) → Books → ℕ → Result Plan Turned
in_segment s owner b spare =
    turned_if (not (has_segment b.instruments s)) UnknownInstrument (in_all owner (of_segment b.instruments s) spare)

-- what a request aims at
pub data Aim : Type 0 where
  instrument : List ℕ → Book → Aim
  segment : List ℕ → Aim
  all : Aim

-- whether at orders of the firm, and at which
abbrev pub aim_of : Scope → Bool × Aim
aim_of (FirmInstrument s k) = (true, instrument (says s) k)
aim_of (CompIdInstrument s k) = (false, instrument (says s) k)
aim_of (FirmSegment s) = (true, segment (says s))
aim_of (CompIdSegment s) = (false, segment (says s))
aim_of Firm = (true, all)
aim_of CompId = (false, all)

-- of a firm among the participants, or of one of its lines
abbrev pub owner_of : Bool → List Participant → ℕ → ℕ → ℕ → Bool
owner_of true ps firm line = of_firm ps firm
owner_of false ps firm line = of_line line

abbrev pub planned_at : Aim → (ℕ → Bool) → Books → ℕ → Result Plan Turned
planned_at (instrument s k) owner b spare = in_listing s owner k b spare
planned_at (segment s) owner b spare = in_segment s owner b spare
planned_at all owner b spare = in_all owner anywhere spare

-- over the books and the spare places
abbrev pub planned : Bool × Aim → List Participant → ℕ → ℕ → Books → ℕ → Result Plan Turned
planned aim ps firm line b spare = planned_at aim.1 (owner_of aim.0 ps firm line) b spare

-- ---- the acts: the reports to the requester, and the withdrawals

-- all that is told in each partition
abbrev pub told_everywhere : Entry → List Act
told_everywhere e = Note One e ∷ Note Two e ∷ Note Three e ∷ []

-- the orders of which p is true end, each told under the request's client order id
abbrev pub swept : (Row → Bool) → OrderMassCancelRequest → Books → List Act
swept p m b = withdrawals p (Request (kept m.client_order_id.text)) b.rows

abbrev pub acts_of : ℕ → OrderMassCancelRequest → Time → Books → Plan → List Act
acts_of line m t b (unserved p) = Note p (refused line m t) ∷ []
acts_of line m t b (within p q) = Note p (accepted line m t) ∷ swept q m b
acts_of line m t b (everywhere q) = told_everywhere (accepted line m t) ++ swept q m b

abbrev pub done_as : ℕ → OrderMassCancelRequest → Time → Books → Result Plan Turned → Decision
done_as line m t b (Err e) = Err e
done_as line m t b (Ok p) = Ok (acts_of line m t b p)

abbrev pub mass_cancel : List Participant → ℕ → ℕ → OrderMassCancelRequest → Time → Books → ℕ → Decision
mass_cancel ps firm line m t b spare = done_as line m t b (planned (aim_of m.scope) ps firm line b spare)
