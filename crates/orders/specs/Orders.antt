-- What a change of an order answers. Assumes nothing.
use Rattle.std.specs.Prelude.{◌≡◌, ℕ, Bool, true, false, not, ◌&&◌, Some, None, Ok, Err, Option, Result, nat_le, nat_lt, if◌then◌else◌}
use Rattle.orders.specs.declared.row.Row.{Row}
use Rattle.orders.specs.Rows.{is_open, orderable}
use Rattle.refusals.specs.declared.Refusal.{Refusal}
use Rattle.refusals.specs.declared.Refusal.TheVariants.{NotOpen, BadTerms}

-- a change that is made exactly where it is allowed, and what it then makes of the row
abbrev pub Makes : Bool → Row → Option Row → Type 0
Makes allowed after None = allowed ≡ false
Makes allowed after (Some r) = (allowed ≡ true) × (r ≡ after)

-- a number of shares that can be filled, and one that can be undone
abbrev pub fillable : ℕ → Row → Bool
fillable q r = nat_lt 0 q && nat_le q r.leaves

abbrev pub undoable : ℕ → Row → Bool
undoable q r = nat_lt 0 q && nat_le q r.executed

-- why a replacement quantity is refused, tried in this order
abbrev pub replace_fault : ℕ → Row → Option Refusal
replace_fault q r =
    if not (is_open r) then Some NotOpen
    else if not (orderable q) then Some BadTerms else None

abbrev pub Replaces : Option Refusal → Row → Result Row Refusal → Type 0
Replaces fault after (Ok r) = (fault ≡ None) × (r ≡ after)
Replaces fault after (Err e) = fault ≡ Some e
