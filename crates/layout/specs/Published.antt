-- A message's layout as it is published: its type byte, its bytes in all, and its fields in rows of literals.
-- Assumes nothing.
use Rattle.std.specs.Prelude.{ℕ, List, [], ◌∷◌, map}
use Rattle.codes.specs.Lists.{listed}
use Rattle.layout.specs.declared.field.Form.{Form}
use Rattle.layout.specs.declared.field.Form.TheVariants as form
use Rattle.layout.specs.declared.field.Field.{Field}
use Rattle.layout.specs.declared.field.Field.TheVariants as field
use Rattle.layout.specs.Layout.{wide}
use Rattle.layout.specs.Shapes.{Laid}

-- what a field holds
pub data DataType : Type 0 where
  text : DataType
  -- text that is not empty
  name : DataType
  -- an order's identifier, or null
  order_id : DataType
  unsigned : DataType
  signed : DataType
  -- signed, and not negative
  sequence : DataType
  price : DataType
  time : DataType
  -- one of these bytes
  one_of : List ℕ → DataType
  any_byte : DataType
  reserved : DataType

-- when it is looked at: always, or where the byte at a place is one of these
pub data When : Type 0 where
  always : When
  where_byte : ℕ → List ℕ → When

-- a field's offset and its bytes
pub record Row : Type 0 where
  pub at : ℕ
  pub bytes : ℕ
  pub held : DataType
  pub when : When

abbrev pub row : ℕ → ℕ → DataType → Row
row at n h = record { at = at; bytes = n; held = h; when = always }

abbrev pub row_when : ℕ → ℕ → DataType → ℕ → List ℕ → Row
row_when at n h other bs = record { at = at; bytes = n; held = h; when = where_byte other bs }

-- the type byte as a text of one character
pub record Published : Type 0 where
  pub letter : List ℕ
  pub total : ℕ
  pub rows : List Row

abbrev pub published : List ℕ → ℕ → List Row → Published
published l n rs = record { letter = l; total = n; rows = rs }

-- what a form holds
abbrev pub held_of : Form → DataType
held_of (form.Text w) = text
held_of (form.Name w) = name
held_of form.Order = order_id
held_of form.UInt32 = unsigned
held_of form.UInt64 = unsigned
held_of form.Sequence = sequence
held_of form.Int8 = signed
held_of form.Int32 = signed
held_of form.Price = price
held_of form.Time = time
held_of (form.Code cs) = one_of (listed cs)
held_of form.Alpha = any_byte
held_of (form.Reserved w) = reserved

-- a table's field as a row
abbrev pub row_of : Field → Row
row_of (field.Always at f) = row at (wide f) (held_of f)
row_of (field.When at f other cs) = row_when at (wide f) (held_of f) other (listed cs)

-- what a layout lays out
abbrev pub published_of : Laid → Published
published_of s = published (s.letter ∷ []) s.total (map row_of s.table)
