-- The rows of a tape. Assumes nothing.
use Rattle.std.specs.Prelude.{ℕ, Bool, List, Option}
use Rattle.keyed.specs.Look.{Found, distinct, keyed}
use Rattle.matching.specs.declared.matcher.Held.{Held}
use Rattle.matching.specs.declared.tape.Row.{Row}
use Rattle.matching.specs.Meaning.{Orders}

abbrev pub row_number : Row → ℕ
row_number row = row.number

abbrev pub row_held : Row → Held
row_held row = record { instrument = row.instrument; quantity = row.quantity }

-- no two rows have one number
abbrev pub all_apart : List Row → Bool
all_apart rows = distinct row_number row_held rows

-- what is open under each number
abbrev pub orders_of : List Row → Orders
orders_of rows = keyed row_number row_held rows

-- r is the place of the row that has the number n
abbrev pub FoundRow : List Row → ℕ → Option ℕ → Type 0
FoundRow rows n r = Found row_number row_held rows n r
