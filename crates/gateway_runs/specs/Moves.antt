-- Which changes an act makes of which orders. Assumes nothing.
use Rattle.std.specs.Prelude.{ℕ, ◌+◌, List, [], ◌∷◌, ◌++◌, filter, is_some, length, map, Some, None, Option, ◌==◌, if◌then◌else◌}
use Rattle.std.specs.Option.{option_map_or}
use Rattle.changes.specs.Changes.{after}
use Rattle.changes.specs.declared.change.Change.{Change}
use Rattle.changes.specs.declared.change.Change.TheVariants.{Accept, Withdraw, Fill, Undo}
use Rattle.changes.specs.declared.change.Fill.{Fill as Filling}
use Rattle.codes.specs.declared.report.Liquidity.TheVariants.{Added, Removed}
use Rattle.configuration.specs.declared.instrument.Instrument.{Instrument}
use Rattle.keyed.specs.Numbers.{under}
use Rattle.matching.specs.declared.event.Event.{Event}
use Rattle.matching.specs.declared.event.Event.TheVariants as event
use Rattle.orders.specs.declared.row.Ending.TheVariants.{Expired}
use Rattle.orders.specs.declared.row.Row.{Row}
use Rattle.orders.specs.declared.trade.Leg.{Leg}
use Rattle.orders.specs.declared.trade.Trade.{Trade}
use Rattle.texts.specs.declared.values.Time.{Time}
use Rattle.venue.specs.Acts.{Act, Open, Alter, Note, Take, Void, deal_of, enact, ledger_of}
use Rattle.venue.specs.Books.{Books}
use Rattle.venue.specs.Ledger.{Ledger}
use Rattle.venue.specs.Trading.{filling, passive_filled, passive_undone, undoing}
use Rattle.venue.specs.declared.trading.Deal.{Deal}

-- a change of the order of a number
abbrev pub Move : Type 0
Move = ℕ × Change

-- in all lists of these the newest stands first

-- a change that may not be made is none
abbrev pub taken : ℕ → Change → List Row → List Move
taken n c rows = if is_some (after n c (under rows n)) then (n, c) ∷ [] else []

-- ---- an event of the matcher

abbrev pub side_fills : Filling → Option ℕ → Ledger → List Move
side_fills f None l = []
side_fills f (Some n) l = taken n (Fill f) l.rows

abbrev pub fills : List Instrument → Time → Deal → Option ℕ → Option ℕ → Ledger → List Move
fills is t d p a l =
    side_fills (filling d Removed) a (passive_filled is t d p l) ++ side_fills (filling d Added) p l

abbrev pub expiry : ℕ → Option Row → List Row → List Move
expiry n o rows = option_map_or (λ r. taken n (Withdraw Expired r.client) rows) o []

abbrev pub of_event : Time → Event → Books → List Move
of_event t event.Nothing b = []
of_event t (event.Expired n) b = expiry n (under b.rows n) b.rows
of_event t (event.Trade p a q x) b = fills b.instruments t (deal_of b q x) p a (ledger_of b)

-- ---- a trade that is cancelled

abbrev pub side_undoes : List Instrument → ℕ → Option Leg → Ledger → List Move
side_undoes is q None l = []
side_undoes is q (Some s) l = taken s.order (Undo (undoing is q s l)) l.rows

abbrev pub undoes : List Instrument → Time → Trade → Ledger → List Move
undoes is t tr l =
    side_undoes is tr.quantity tr.aggressive (passive_undone is t tr l) ++ side_undoes is tr.quantity tr.passive l

-- ---- any act

abbrev pub of_act : Time → Act → Books → List Move
of_act t (Open s a) b = (length b.rows + 1, Accept s a) ∷ []
of_act t (Alter n c) b = taken n c b.rows
of_act t (Note p e) b = []
of_act t (Take e) b = of_event t e b
of_act t (Void n) b = option_map_or (λ tr. undoes b.instruments t tr (ledger_of b)) (under b.trades n) []

abbrev pub of_acts : Time → List Act → Books → List Move
of_acts t [] b = []
of_acts t (a ∷ acts) b = of_acts t acts (enact t a b) ++ of_act t a b

-- those of one order
abbrev pub of_order : ℕ → List Move → List Change
of_order n ms = map (λ m. m.1) (filter (λ m. m.0 == n) ms)
