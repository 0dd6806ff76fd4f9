-- Bytes written to the front of a buffer. Assumes nothing.
use Rattle.std.specs.Prelude.{◌≡◌, ℕ, ◌≤◌, List, ◌++◌, length, drop}
use Rattle.wire.specs.declared.message.TheConstants.{BUFFER}

-- just these bytes, which any buffer has room for; all past them is as it was
abbrev pub Sent : List ℕ → List ℕ → List ℕ → ℕ → Type 0
Sent bs before after n = (n ≡ length bs) × (n ≤ BUFFER) × (after ≡ bs ++ drop n before)
