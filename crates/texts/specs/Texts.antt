-- Which texts a field of a width can hold. Assumes nothing.
use Rattle.std.specs.Prelude.{ℕ, Bool, ◌&&◌, List, length, nat_le, nat_lt}
use Rattle.texts.specs.Bytes.{all_printable}

-- a text that a field of a width can hold
abbrev pub fitting : ℕ → List ℕ → Bool
fitting w t = nat_le (length t) w && all_printable t

-- the same, of one that says something
abbrev pub fitting_name : ℕ → List ℕ → Bool
fitting_name w t = nat_lt 0 (length t) && fitting w t
