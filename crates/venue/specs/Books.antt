-- The books of a venue, and what holds of them at all times. Assumes nothing.
use Rattle.std.specs.Prelude.{◌≡◌, ℕ, ◌+◌, ◌≤◌, ◌<◌, List, [], length, Some, None, Option, ◌==◌, if◌then◌else◌}
use Rattle.std.specs.List.{sum_by}
use Rattle.std.specs.FinMap.{get}
use Rattle.std.specs.Option.{option_map_or}
use Rattle.keyed.specs.Numbers.{under}
use Rattle.matching.specs.declared.matcher.Held.{Held}
use Rattle.matching.specs.Meaning.{Meaning}
use Rattle.orders.specs.declared.row.Row.{Row}
use Rattle.orders.specs.declared.trade.Leg.{Leg}
use Rattle.orders.specs.declared.trade.Trade.{Trade}
use Rattle.orders.specs.Rows.{is_open}
use Rattle.orders.specs.Tables.{open_count}
use Rattle.store.specs.Kept.{Kept, empty}
use Rattle.configuration.specs.declared.instrument.Instrument.{Instrument}
use Rattle.limits.specs.declared.TheConstants.{INSTRUMENTS}
use Rattle.venue.specs.Ledger.{Recorded}

pub record Books : Type 0 where
  pub instruments : List Instrument
  pub rows : List Row
  pub trades : List Trade
  -- what the matcher holds
  pub market : Meaning
  -- the reports that the store keeps
  pub kept : Kept

-- books, or more that is determined with them; and beside them what is the matcher's and the store's own to choose: the
-- matcher as it is, and how many places the store has free
pub record Over (B M : Type 0) : Type 0 where
  pub state : B
  pub engine : M
  pub free : ℕ

-- what the matcher holds of a row: what is open of it
abbrev pub held_as : Row → Held
held_as r = record { instrument = r.terms.instrument; quantity = r.leaves }

abbrev pub open_of : Option Row → Option Held
open_of None = None
open_of (Some r) = if is_open r then Some (held_as r) else None

abbrev pub executed_of : Option Row → ℕ
executed_of o = option_map_or (λ r. r.executed) o 0

-- how much of an order a side of a trade has filled
abbrev pub side_of : ℕ → ℕ → Option Leg → ℕ
side_of n q None = 0
side_of n q (Some f) = if f.order == n then q else 0

abbrev pub share_of : ℕ → Trade → ℕ
share_of n t = if t.cancelled then 0 else side_of n t.quantity t.passive + side_of n t.quantity t.aggressive

-- how much of an order the trades that are not cancelled have filled
abbrev pub traded : ℕ → List Trade → ℕ
traded n ts = sum_by (share_of n) ts

-- the matcher holds exactly the open orders
abbrev pub Booked : List Row → Meaning → Type 0
Booked rows m = (n : ℕ) → get m.orders n ≡ open_of (under rows n)

-- what is executed of each order is what its trades have filled
abbrev pub Summed : List Row → List Trade → Type 0
Summed rows ts = (n : ℕ) → traded n ts ≡ executed_of (under rows n)

-- a trade has at least one share
abbrev pub Filling : List Trade → Type 0
Filling ts = (n : ℕ) (t : Trade) → under ts n ≡ Some t → 0 < t.quantity

-- what the books of a venue keep in every state
pub record Sound (b : Books) : Type 0 where
  pub listed : length b.instruments ≤ INSTRUMENTS
  pub recorded : Recorded b.instruments b.rows b.kept
  pub booked : Booked b.rows b.market
  pub filling : Filling b.trades
  pub summed : Summed b.rows b.trades

-- each open order has a place for the report of its end
abbrev pub Roomy : Books → ℕ → Type 0
Roomy b free = open_count b.rows ≤ free

-- a new day
abbrev pub fresh : List Instrument → Meaning → Books
fresh is m = record { instruments = is; rows = []; trades = []; market = m; kept = empty }
