-- Names that differ. Assumes nothing.
use Rattle.std.specs.Prelude.{ℕ, Bool, true, not, ◌&&◌, List, [], ◌∷◌}
use Rattle.std.specs.List.{list_any}
use Rattle.std.specs.Str.{bytes_eq}

-- no two items have one name
abbrev pub all_differ : {X : Type 0} → (X → List ℕ) → List X → Bool
all_differ name [] = true
all_differ name (x ∷ xs) = not (list_any (λ y. bytes_eq (name y) (name x)) xs) && all_differ name xs
