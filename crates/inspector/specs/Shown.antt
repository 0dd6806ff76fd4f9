-- A message as text: its name, and each field that is not reserved under its name. Assumes nothing.
use Rattle.std.specs.Prelude.{ℕ, suc, ◌+◌, ◌*◌, ◌/◌, ◌%◌, Bool, true, false, if◌then◌else◌, ◌&&◌, List, [], ◌∷◌, map, ◌++◌, ℤ, pos, negsuc, codes, decimal, Option, ◌==◌, nat_le}
use Rattle.std.specs.Fmt.{digits, signed_decimal}
use Rattle.std.specs.Option.{option_map_or}
use Rattle.texts.specs.Identifiers.{order_id_text}
use Rattle.texts.specs.Prices.{price_text}
use Rattle.codes.specs.Lists.{alpha}
use Rattle.layout.specs.declared.field.Form.{Form}
use Rattle.layout.specs.declared.field.Form.TheVariants as form
use Rattle.layout.specs.declared.field.Field.{Field}
use Rattle.layout.specs.Layout.{Content, form_of, got}
use Rattle.wire.specs.declared.kinds.Kind.{Kind}
use Rattle.wire.specs.Blanks.{reserved}
use Rattle.wire.specs.Kinds.{table_of}
use Rattle.inspector.specs.Labels.{title_of, names_of}
use Rattle.layout.specs.Layout.Content.{words, order, figure, int8, int32, price, clock, nothing}

-- in double quotes
abbrev pub quoted : List ℕ → List ℕ
quoted t = 34 ∷ (t ++ (34 ∷ []))

-- an order's identifier, or nothing, in double quotes
abbrev pub order_text : Option ℕ → List ℕ
order_text o = option_map_or (λ n. quoted (order_id_text n)) o (quoted [])

-- a byte that is a character: itself where it is printable and no space, null, or 0x and two hex digits
abbrev pub alpha_text : ℕ → List ℕ
alpha_text b =
    if b == 0 then codes "null"
    else if nat_le 33 b && nat_le b 126 then b ∷ []
    else codes "0x" ++ (digits 16 true (b / 16) ++ digits 16 true (b % 16))

-- whether a field's byte is a character and no number
abbrev pub holds_alpha : Form → Bool
holds_alpha (form.Code list) = alpha list
holds_alpha form.Alpha = true
holds_alpha f = false

-- what a field of a form holds; a time is shown as the one number that its eight bytes write
abbrev pub content_text : Form → Content → List ℕ
content_text f (words t) = quoted t
content_text f (order o) = order_text o
content_text f (figure n) = if holds_alpha f then alpha_text n else decimal n
content_text f (int8 z) = signed_decimal z
content_text f (int32 z) = signed_decimal z
content_text f (price z) = price_text z
content_text f (clock s u) = decimal (s + 4294967296 * u)
content_text f nothing = codes "ignored"

-- a space, the name, = and what the field holds; nothing for a reserved field
abbrev pub field_text : List ℕ → Form → Content → List ℕ
field_text name f v = if reserved f then [] else 32 ∷ (name ++ (61 ∷ content_text f v))

-- one field after the other
abbrev pub fields_text : List (List ℕ) → List Field → List Content → List ℕ
fields_text [] fs vs = []
fields_text (n ∷ ns) [] vs = []
fields_text (n ∷ ns) (f ∷ fs) [] = []
fields_text (n ∷ ns) (f ∷ fs) (v ∷ vs) = field_text n (form_of f) v ++ fields_text ns fs vs

-- the same, of fields that are read in a message's bytes
abbrev pub bytes_text : List (List ℕ) → List Field → List ℕ → List ℕ
bytes_text ns fs bs = fields_text ns fs (map (got bs) fs)

-- a message of a kind, by what its fields hold
abbrev pub message_text : Kind → List Content → List ℕ
message_text k vs = title_of k ++ fields_text (names_of k) (table_of k) vs

-- and by its bytes
abbrev pub shown_text : Kind → List ℕ → List ℕ
shown_text k bs = title_of k ++ bytes_text (names_of k) (table_of k) bs
