-- Open orders that are withdrawn together: whose they are, where they stand, and why they end. Assumes nothing.
use Rattle.std.specs.Prelude.{ℕ, Bool, true, false, not, ◌&&◌, ◌||◌, ◌==◌, List, [], ◌∷◌, filter, map, slice_get, Some, None, Option, if◌then◌else◌}
use Rattle.std.specs.Option.{option_map_or}
use Rattle.std.specs.Str.{bytes_eq}
use Rattle.codes.specs.Order.{book_code}
use Rattle.codes.specs.declared.order.AutoCancel.{AutoCancel}
use Rattle.codes.specs.declared.order.AutoCancel.TheVariants.{Keep, AsConfigured}
use Rattle.codes.specs.declared.order.Book.{Book}
use Rattle.configuration.specs.declared.instrument.Instrument.{Instrument as Listed}
use Rattle.configuration.specs.declared.participant.Participant.{Participant}
use Rattle.changes.specs.declared.change.Change.TheVariants.{Withdraw}
use Rattle.orders.specs.declared.row.Ending.TheVariants.{Cancelled, Expired}
use Rattle.orders.specs.Rows.{is_open}
use Rattle.orders.specs.declared.row.Row.{Row}
use Rattle.requests.specs.declared.selection.Cause.{Cause}
use Rattle.requests.specs.declared.selection.Cause.TheVariants.{Request, LineLost}
use Rattle.requests.specs.declared.selection.Owners.{Owners}
use Rattle.requests.specs.declared.selection.Owners.TheVariants.{Line, Firm}
use Rattle.requests.specs.declared.selection.Reach.{Reach}
use Rattle.requests.specs.declared.selection.Reach.TheVariants.{All, Instrument, Segment}
use Rattle.requests.specs.declared.selection.Selection.{Selection}
use Rattle.texts.specs.Bytes.{said}
use Rattle.venue.specs.Acts.{Act, Alter}

-- ---- whose

abbrev pub of_line : ℕ → ℕ → Bool
of_line line owner = owner == line

-- each line has the place of its participant
abbrev pub of_firm : List Participant → ℕ → ℕ → Bool
of_firm ps firm owner = option_map_or (λ p. p.firm == firm) (slice_get ps owner) false

abbrev pub is_owner : Owners → ℕ → Bool
is_owner (Line line) = of_line line
is_owner (Firm ps firm) = of_firm ps.now firm

-- ---- where

abbrev pub anywhere : Row → Bool
anywhere r = true

abbrev pub is_book : Book → Book → Bool
is_book b c = book_code b == book_code c

abbrev pub of_instrument : ℕ → Book → Row → Bool
of_instrument place b r = r.terms.instrument == place && is_book r.terms.book b

abbrev pub is_segment : List ℕ → Option Listed → Bool
is_segment s o = option_map_or (λ i. bytes_eq (said i.segment.bytes) s) o false

abbrev pub of_segment : List Listed → List ℕ → Row → Bool
of_segment is s r = is_segment s (slice_get is r.terms.instrument)

abbrev pub in_reach : List Listed → Reach → Row → Bool
in_reach is All = anywhere
in_reach is (Instrument place b) = of_instrument place b
in_reach is (Segment s) = of_segment is (said s.bytes)

-- ---- an open order of such an owner that stands there, and is marked where that is asked

abbrev pub is_marked : AutoCancel → Bool
is_marked Keep = false
is_marked AsConfigured = true

abbrev pub meant : (ℕ → Bool) → (Row → Bool) → Bool → Row → Bool
meant owner within marked r =
    is_open r && (owner r.terms.owner && (within r && (not marked || is_marked r.terms.auto_cancel)))

abbrev pub picks : List Listed → Selection → Row → Bool
picks is s r = meant (is_owner s.owners) (in_reach is s.reach) s.marked r

-- ---- the end of each

-- at somebody's request it is told under his client order id, else under its own
abbrev pub ended_for : Cause → Row → Act
ended_for (Request c) r = Alter r.number (Withdraw Cancelled c)
ended_for LineLost r = Alter r.number (Withdraw Expired r.client)

abbrev pub withdrawal : (Row → Bool) → Cause → Option Row → List Act
withdrawal p c None = []
withdrawal p c (Some r) = if p r then ended_for c r ∷ [] else []

-- a withdrawal for each order of which p is true, by rising number
abbrev pub withdrawals : (Row → Bool) → Cause → List Row → List Act
withdrawals p c rows = map (ended_for c) (filter p rows)
