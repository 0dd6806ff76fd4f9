-- Whether a list has a number. Assumes nothing.
use Rattle.std.specs.Prelude.{ℕ, Bool, List, ◌==◌}
use Rattle.std.specs.List.{list_any}

abbrev pub member : ℕ → List ℕ → Bool
member x vs = list_any (λ v. x == v) vs
