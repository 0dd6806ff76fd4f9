-- What a trade of the matcher does to the orders. Assumes nothing.
use Rattle.std.specs.Prelude.{◌≡◌, ℕ, ◌≤◌, slice_get, true, List, is_some, Some, None, Option, false}
use Rattle.std.specs.Option.{option_map_or}
use Rattle.codes.specs.Session.{partition_code}
use Rattle.codes.specs.declared.report.Liquidity.{Liquidity}
use Rattle.codes.specs.declared.report.Liquidity.TheVariants.{Added, Removed}
use Rattle.texts.specs.declared.values.Time.{Time}
use Rattle.keyed.specs.Numbers.{under}
use Rattle.orders.specs.declared.row.Row.{Row}
use Rattle.orders.specs.declared.trade.Leg.{Leg}
use Rattle.orders.specs.declared.trade.Trade.{Trade}
use Rattle.changes.specs.declared.change.Change.TheVariants.{Fill, Undo}
use Rattle.changes.specs.declared.change.Undone.{Undone}
use Rattle.changes.specs.declared.change.Fill.{Fill as Filling}
use Rattle.changes.specs.Changes.{after}
use Rattle.configuration.specs.declared.instrument.Instrument.{Instrument}
use Rattle.venue.specs.declared.trading.Deal.{Deal}
use Rattle.venue.specs.Ledger.{Ledger, changed, next_report}
use Rattle.venue.specs.Books.{executed_of}

abbrev pub filling : Deal → Liquidity → Filling
filling d liquidity = record {
  quantity = d.quantity;
  price = d.price;
  trade = d.number;
  liquidity = liquidity;
}

-- one side is filled and told; a side that is not named changes nothing
abbrev pub side_filled : List Instrument → Time → Filling → Option ℕ → Ledger → Ledger
side_filled is t f None l = l
side_filled is t f (Some n) l = changed is t n (Fill f) l

-- the side's order, and the number of the report that tells the fill
abbrev pub side_told : List Instrument → Option ℕ → Ledger → Option Leg
side_told is None l = None
side_told is (Some n) l = Some (record { order = n; report = next_report is n l })

-- an order that can be filled so
abbrev pub SideAllows : Filling → Option ℕ → List Row → Type 0
SideAllows f None rows = Unit {0}
SideAllows f (Some n) rows = is_some (after n (Fill f) (under rows n)) ≡ true

-- first the order that was at rest, then the one that came to it
abbrev pub passive_filled : List Instrument → Time → Deal → Option ℕ → Ledger → Ledger
passive_filled is t d p l = side_filled is t (filling d Added) p l

abbrev pub both_filled : List Instrument → Time → Deal → Option ℕ → Option ℕ → Ledger → Ledger
both_filled is t d p a l = side_filled is t (filling d Removed) a (passive_filled is t d p l)

abbrev pub trade_of : List Instrument → Time → Deal → Option ℕ → Option ℕ → Ledger → Trade
trade_of is t d p a l = record {
  quantity = d.quantity;
  price = d.price;
  passive = side_told is p l;
  aggressive = side_told is a (passive_filled is t d p l);
  cancelled = false;
}

-- ---- a trade is cancelled

-- the number of the partition of an order's instrument
abbrev pub partition_in : Option Instrument → ℕ
partition_in o = option_map_or (λ i. partition_code i.partition) o 0

abbrev pub partition_of : List Instrument → Option Row → ℕ
partition_of is o = option_map_or (λ r. partition_in (slice_get is r.terms.instrument)) o 0

-- a side's fill, named by the report that told it
abbrev pub undoing : List Instrument → ℕ → Leg → Ledger → Undone
undoing is q s l = record {
  quantity = q;
  report = record { partition = partition_of is (under l.rows s.order); sequence = s.report };
}

-- one side's fill is undone and told; a side that is not named changes nothing
abbrev pub side_undone : List Instrument → Time → ℕ → Option Leg → Ledger → Ledger
side_undone is t q None l = l
side_undone is t q (Some s) l = changed is t s.order (Undo (undoing is q s l)) l

-- an order that has as much executed
abbrev pub SideExecuted : ℕ → Option Leg → List Row → Type 0
SideExecuted q None rows = Unit {0}
SideExecuted q (Some s) rows = (1 ≤ q) × (q ≤ executed_of (under rows s.order))

abbrev pub passive_undone : List Instrument → Time → Trade → Ledger → Ledger
passive_undone is t tr l = side_undone is t tr.quantity tr.passive l

abbrev pub both_undone : List Instrument → Time → Trade → Ledger → Ledger
both_undone is t tr l = side_undone is t tr.quantity tr.aggressive (passive_undone is t tr l)
