-- What the fields of a message can hold: exactly this can be written, and is read again. Assumes nothing.
use Rattle.std.specs.Prelude.{◌≡◌, ℕ, ◌^◌, ◌<◌, ◌≤◌, Bool, true, false, if◌then◌else◌, List, [], ◌∷◌, length, Some, None, Option, FitsSigned, ◌==◌}
use Rattle.std.specs.Int.{w8, w32, w64}
use Rattle.codes.specs.Lists.{listed}
use Rattle.texts.specs.Bytes.{all_printable}
use Rattle.layout.specs.declared.field.Form.{Form}
use Rattle.layout.specs.declared.field.Form.TheVariants.{Text, Name, Order, UInt32, UInt64, Sequence, Int8, Int32, Price, Time, Code, Alpha, Reserved}
use Rattle.layout.specs.declared.field.Field.{Field}
use Rattle.layout.specs.declared.field.Field.TheVariants.{Always, When}
use Rattle.layout.specs.Layout.{Content, place, taken, figure_of}
use Rattle.layout.specs.Layout.Content.{words, order, figure, int8, int32, price, clock, nothing}

abbrev pub Below : Option ℕ → Type 0
Below None = Unit {0}
Below (Some n) = n < 2 ^ 64

-- a content that a field of a form can hold
abbrev pub HoldsForm : Form → Content → Type 0
HoldsForm (Text w) (words t) = (length t ≤ w) × (all_printable t ≡ true)
HoldsForm (Name w) (words t) = (length t ≤ w) × (all_printable t ≡ true) × (0 < length t)
HoldsForm Order (order o) = Below o
HoldsForm UInt32 (figure n) = n < 2 ^ 32
HoldsForm UInt64 (figure n) = n < 2 ^ 64
HoldsForm Sequence (figure n) = n < 2 ^ 31
HoldsForm Int8 (int8 z) = FitsSigned w8 z
HoldsForm Int32 (int32 z) = FitsSigned w32 z
HoldsForm Price (price z) = FitsSigned w64 z
HoldsForm Time (clock s u) = (s < 2 ^ 32) × (u < 2 ^ 32)
HoldsForm (Code cs) (figure n) = taken n (listed cs) ≡ true
HoldsForm Alpha (figure n) = n < 2 ^ 8
HoldsForm (Reserved w) nothing = Unit {0}
HoldsForm f v = ⊥

abbrev pub If : Bool → Type 0 → Type 0 → Type 0
If true P Q = P
If false P Q = Q

-- the same of a field, by what the fields at other places hold: nothing, where it does not matter
abbrev pub Holds : (ℕ → ℕ) → Field → Content → Type 0
Holds at (Always here f) v = HoldsForm f v
Holds at (When here f other cs) v = If (taken (at other) (listed cs)) (HoldsForm f v) (v ≡ nothing)

abbrev pub HoldsAll : (ℕ → ℕ) → List Field → List Content → Type 0
HoldsAll at [] [] = Unit {0}
HoldsAll at [] (v ∷ vs) = ⊥
HoldsAll at (f ∷ fs) [] = ⊥
HoldsAll at (f ∷ fs) (v ∷ vs) = Holds at f v × HoldsAll at fs vs

-- the number that the field at a place holds
abbrev pub figure_at : List Field → List Content → ℕ → ℕ
figure_at [] vs n = 0
figure_at (f ∷ fs) [] n = 0
figure_at (f ∷ fs) (v ∷ vs) n = if place f == n then figure_of v else figure_at fs vs n

unfoldable pub HoldsIn : List Field → List Content → Type 0
HoldsIn fs vs = HoldsAll (figure_at fs vs) fs vs
