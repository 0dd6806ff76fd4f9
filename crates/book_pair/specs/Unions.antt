-- Two finite maps as one. Assumes nothing.
use Rattle.std.specs.Prelude.{◌≡◌, ℕ, true, List, [], ◌∷◌, is_some, Some, None, Option}
use Rattle.std.specs.FinMap.{FinMap, entries, get, insert}
use Rattle.std.specs.Ordering.{nat_cmp}

abbrev pub first_of : {V : Type 0} → Option V → Option V → Option V
first_of None w = w
first_of (Some v) w = Some v

module _ {V : Type 0} where
  abbrev pub over : List (ℕ × V) → FinMap nat_cmp V → FinMap nat_cmp V
  over [] m = m
  over (e ∷ es) m = insert (over es m) e.0 e.1

  -- under each number what the first has, and where it has nothing what the second has
  abbrev pub union : FinMap nat_cmp V → FinMap nat_cmp V → FinMap nat_cmp V
  union a b = over (entries a) b

  -- no number is in both
  abbrev pub Apart : FinMap nat_cmp V → FinMap nat_cmp V → Type 0
  Apart a b = (n : ℕ) → is_some (get a n) ≡ true → get b n ≡ None
