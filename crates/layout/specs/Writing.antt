-- A message's bytes, from its table and what its fields hold. Assumes nothing.
use Rattle.std.specs.Prelude.{◌&&◌, ◌≡◌, ℕ, ◌+◌, ◌-◌, Bool, List, [], ◌∷◌, ◌++◌, length, take, drop, replicate, Option, ◌==◌}
use Rattle.std.proofs.Common.{of_z}
use Rattle.std.specs.Int.{w8, w32, w64}
use Rattle.std.specs.Option.{option_map_or}
use Rattle.texts.specs.Bytes.{to_le, padded}
use Rattle.texts.specs.Identifiers.{order_id_text}
use Rattle.layout.specs.declared.field.Form.{Form}
use Rattle.layout.specs.declared.field.Form.TheVariants.{Text, Name, Order, UInt32, UInt64, Sequence, Int8, Int32, Price, Time, Code, Alpha}
use Rattle.layout.specs.declared.field.Field.{Field}
use Rattle.layout.specs.Layout.{Content, place, wide, width, form_of}
use Rattle.layout.specs.Layout.Content.{words, order, figure, int8, int32, price, clock}

-- an order's identifier, or nulls
abbrev pub order_bytes : Option ℕ → List ℕ
order_bytes o = option_map_or order_id_text o (replicate 12 0)

-- a form's bytes: nulls where it holds nothing
abbrev pub bytes_of : Form → Content → List ℕ
bytes_of (Text w) (words t) = padded w t
bytes_of (Name w) (words t) = padded w t
bytes_of Order (order o) = order_bytes o
bytes_of UInt32 (figure n) = to_le 4 n
bytes_of UInt64 (figure n) = to_le 8 n
bytes_of Sequence (figure n) = to_le 4 n
bytes_of Int8 (int8 z) = to_le 1 (of_z w8 z)
bytes_of Int32 (int32 z) = to_le 4 (of_z w32 z)
bytes_of Price (price z) = to_le 8 (of_z w64 z)
bytes_of Time (clock s u) = to_le 4 s ++ to_le 4 u
bytes_of (Code cs) (figure n) = to_le 1 n
bytes_of Alpha (figure n) = to_le 1 n
bytes_of f v = replicate (wide f) 0

unfoldable pub field_bytes : Field → Content → List ℕ
field_bytes f v = bytes_of (form_of f) v

-- the bytes of all fields, in their order
unfoldable pub encode : List Field → List Content → List ℕ
encode [] vs = []
encode (f ∷ fs) [] = []
encode (f ∷ fs) (v ∷ vs) = field_bytes f v ++ encode fs vs

-- a message begins with the start byte 2, its length from the type on, and the type
abbrev pub header : ℕ → ℕ → List ℕ
header letter total = 2 ∷ to_le 2 (total - 3) ++ (letter ∷ [])

-- what a buffer holds once bytes are written at a place
unfoldable pub over : List ℕ → ℕ → List ℕ → List ℕ
over b at s = (take at b ++ s) ++ drop (at + length s) b

abbrev pub over_all : List Field → List Content → List ℕ → List ℕ
over_all [] vs b = b
over_all (f ∷ fs) [] b = b
over_all (f ∷ fs) (v ∷ vs) b = over_all fs vs (over b (place f) (field_bytes f v))

-- a buffer once a message is written at its front: all past the message is as it was
abbrev pub Wrote : ℕ → ℕ → List Field → List Content → List ℕ → List ℕ → Type 0
Wrote letter total fs vs before after = after ≡ header letter total ++ (encode fs vs ++ drop total before)

-- the fields stand one behind the other, from one place to another
abbrev pub tiled : ℕ → ℕ → List Field → Bool
tiled n end [] = n == end
tiled n end (f ∷ fs) = (place f == n) && tiled (n + width f) end fs
