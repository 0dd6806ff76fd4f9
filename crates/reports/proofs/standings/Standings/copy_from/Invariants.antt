use Rattle.std.proofs.Common.{◌≡◌, take, vec_items, vec_len}
use Rattle.reports.proofs.standings.Standings.copy_from.Given as goal

abbrev pub invariant-loop-row : goal.invariant-loop-row
invariant-loop-row l =
    (vec_items l.self-inside.rows ≡ take l.row-index (l.other)) × (vec_len l.self-inside.rows ≡ l.row-index)
