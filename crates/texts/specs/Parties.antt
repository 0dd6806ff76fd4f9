-- One side of a trade, as it is written. Assumes nothing.
use Rattle.std.specs.Prelude.{ℕ, List, Some, None, Option, codes, decimal}

-- an order's number, or a dash
abbrev pub party_text : Option ℕ → List ℕ
party_text (Some n) = decimal n
party_text None = codes "-"
