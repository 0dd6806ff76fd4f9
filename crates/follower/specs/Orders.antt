-- The orders that are known, by rising number. Assumes nothing.
use Rattle.std.specs.Prelude.{◌≡◌, ◌<◌, ◌≤◌, ℕ, Some, None, Option, nat_le, nat_lt, if◌then◌else◌}
use Rattle.std.specs.FinMap.{get}
use Rattle.reports.specs.declared.standings.Known.{Known}
use Rattle.reports.specs.Fold.{Knowledge}

-- no order from one number up to below another is known
abbrev pub NoneWithin : Knowledge → ℕ → ℕ → Type 0
NoneWithin k from to = (n : ℕ) → from ≤ n → n < to → get k n ≡ None

-- an order that is known, from a number on, with none before it
pub record IsFirst (k : Knowledge) (from : ℕ) (o : Known) : Type 0 where
  pub reached : from ≤ o.number
  pub stands : get k o.number ≡ Some o.standing
  pub first : NoneWithin k from o.number

-- the known order of the lowest number from a given one on; none where none is known from there on
abbrev pub FirstFrom : Knowledge → ℕ → Option Known → Type 0
FirstFrom k from None = (n : ℕ) → from ≤ n → get k n ≡ None
FirstFrom k from (Some o) = IsFirst k from o

-- the one of two that comes first, of those from a number on
abbrev pub earlier : ℕ → Option Known → Known → Option Known
earlier from None k = if nat_le from k.number then Some k else None
earlier from (Some b) k =
    if nat_lt k.number from then Some b
    else if nat_lt k.number b.number then Some k
    else Some b

abbrev pub earlier_of : ℕ → Option Known → Option Known → Option Known
earlier_of from b None = b
earlier_of from b (Some k) = earlier from b k
