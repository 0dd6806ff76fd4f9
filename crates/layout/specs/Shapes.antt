-- How the messages of a type are laid out. Assumes nothing.
use Rattle.std.specs.Prelude.{◌≡◌, ℕ, Bool, ◌&&◌, List, nat_le}
use Rattle.layout.specs.declared.field.Field.{Field}
use Rattle.layout.specs.declared.framed.Shape.{Shape}
use Rattle.layout.specs.Layout.{within}
use Rattle.layout.specs.Writing.{tiled}

-- the type byte, the bytes in all, and the fields one behind the other
pub record Laid : Type 0 where
  pub letter : ℕ
  pub total : ℕ
  pub table : List Field

abbrev pub laid : ℕ → ℕ → List Field → Laid
laid l n fs = record { letter = l; total = n; table = fs }

-- behind the four bytes of the header the fields fill the message, one behind the other
abbrev pub well_laid : Laid → Bool
well_laid s = nat_le 4 s.total && (within s.total s.table && tiled 4 s.total s.table)

-- a shape says so
abbrev pub Shaped : Laid → Shape → Type 0
Shaped l s = (s.letter ≡ l.letter) × (s.total ≡ l.total) × (s.table.now ≡ l.table)
