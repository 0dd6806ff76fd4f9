-- An owner as a byte. Assumes nothing.
use Rattle.std.specs.Prelude.{ℕ, min}

-- owners from 255 on share one byte
abbrev pub mark : ℕ → ℕ
mark owner = min owner 255
