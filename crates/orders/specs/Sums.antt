-- What a table of orders keeps of its rows. Assumes nothing.
use Rattle.std.specs.Prelude.{ℕ, ◌+◌, List, if◌then◌else◌}
use Rattle.orders.specs.declared.row.Row.{Row}
use Rattle.orders.specs.declared.sums.Sums.{Sums}
use Rattle.orders.specs.Rows.{is_open}
use Rattle.orders.specs.Tables.{open_count}

-- the sums over rows
abbrev pub sums : List Row → Sums
sums rs = record { open_orders = open_count rs }

-- how many of the open orders a row is
abbrev pub opens : Row → ℕ
opens r = if is_open r then 1 else 0

-- the sums with one row more
abbrev pub with_row : Row → Sums → Sums
with_row r s = record { open_orders = s.open_orders + opens r }
