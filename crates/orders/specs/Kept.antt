-- Rows that a table of orders holds. Assumes nothing.
use Rattle.std.specs.Prelude.{ℕ, suc, Bool, true, ◌&&◌, List, [], ◌∷◌, ◌==◌}
use Rattle.orders.specs.declared.row.Row.{Row}
use Rattle.orders.specs.Rows.{orderly}

-- rows that have the numbers from n on, each of which holds an order
unfoldable pub kept_from : ℕ → List Row → Bool
kept_from n [] = true
kept_from n (r ∷ rs) = r.number == n && (orderly r && kept_from (suc n) rs)
