-- A message as a table of fields: which bytes are taken, which are refused and where, and what they hold.
-- Assumes nothing.
use Rattle.std.specs.Prelude.{◌&&◌, ◌≡◌, ℕ, ◌+◌, ◌^◌, max, Bool, true, false, List, [], ◌∷◌, filter, map, take, drop, ℤ, pos, is_some, is_none, Some, None, Option, Result, MatchResult, nat_le, nat_lt, if◌then◌else◌, not, slice_index_or, ◌==◌}
use Rattle.std.proofs.Common.{to_z}
use Rattle.std.specs.Int.{w8, w32, w64}
use Rattle.std.specs.List.{AllByRecursion, find, list_all}
use Rattle.std.specs.Option.{option_map, unwrap_or}
use Rattle.codes.specs.Member.{member}
use Rattle.codes.specs.Lists.{listed}
use Rattle.texts.specs.Bytes.{le, all_null, said, is_text, named, part}
use Rattle.texts.specs.Identifiers.{number_of}
use Rattle.layout.specs.declared.fault.Fault.{Fault}
use Rattle.layout.specs.declared.fault.Fault.TheVariants as fault
use Rattle.layout.specs.declared.field.Form.{Form}
use Rattle.layout.specs.declared.field.Form.TheVariants.{Text, Name, Order, UInt32, UInt64, Sequence, Int8, Int32, Price, Time, Code, Alpha, Reserved}
use Rattle.layout.specs.declared.field.Field.{Field}
use Rattle.layout.specs.declared.field.Field.TheVariants.{Always, When}

-- a byte that is listed; shut, so that a proof takes it as one test
unfoldable pub taken : ℕ → List ℕ → Bool
taken b vs = member b vs

-- what a field holds
pub data Content : Type 0 where
  words : List ℕ → Content
  order : Option ℕ → Content
  figure : ℕ → Content
  int8 : ℤ → Content
  int32 : ℤ → Content
  price : ℤ → Content
  clock : ℕ → ℕ → Content
  nothing : Content

abbrev pub wide : Form → ℕ
wide (Text w) = w
wide (Name w) = w
wide Order = 12
wide UInt32 = 4
wide UInt64 = 8
wide Sequence = 4
wide Int8 = 1
wide Int32 = 4
wide Price = 8
wide Time = 8
wide (Code cs) = 1
wide Alpha = 1
wide (Reserved w) = w

-- the order that a field names: none where it is null
unfoldable pub order_at : List ℕ → Option ℕ
order_at f = number_of 79 f

-- a field that names an order, or is null
unfoldable pub is_order : List ℕ → Bool
is_order f = if all_null f then true else is_some (number_of 79 f)

-- whether a field's bytes are of its form
abbrev pub ok_form : Form → List ℕ → Bool
ok_form (Text w) f = is_text f
ok_form (Name w) f = is_text f && named f
ok_form Order f = is_order f
ok_form UInt32 f = true
ok_form UInt64 f = true
ok_form Sequence f = nat_lt (le f) (2 ^ 31)
ok_form Int8 f = true
ok_form Int32 f = true
ok_form Price f = true
ok_form Time f = true
ok_form (Code cs) f = taken (le f) (listed cs)
ok_form Alpha f = true
ok_form (Reserved w) f = true

-- what they then hold
abbrev pub content : Form → List ℕ → Content
content (Text w) f = words (said f)
content (Name w) f = words (said f)
content Order f = order (order_at f)
content UInt32 f = figure (le f)
content UInt64 f = figure (le f)
content Sequence f = figure (le f)
content Int8 f = int8 (to_z w8 (le f))
content Int32 f = int32 (to_z w32 (le f))
content Price f = price (to_z w64 (le f))
content Time f = clock (le (take 4 f)) (le (take 4 (drop 4 f)))
content (Code cs) f = figure (le f)
content Alpha f = figure (le f)
content (Reserved w) f = nothing

abbrev pub place : Field → ℕ
place (Always at f) = at
place (When at f other cs) = at

abbrev pub form_of : Field → Form
form_of (Always at f) = f
form_of (When at f other cs) = f

abbrev pub width : Field → ℕ
width f = wide (form_of f)

-- how far a field reaches, with the byte that it looks at
abbrev pub span : Field → ℕ
span (Always at f) = at + wide f
span (When at f other cs) = max (at + wide f) (other + 1)

-- whether a field matters in these bytes
abbrev pub matters : List ℕ → Field → Bool
matters bs (Always at f) = true
matters bs (When at f other cs) = taken (le (part other 1 bs)) (listed cs)

abbrev pub ok : List ℕ → Field → Bool
ok bs f = if matters bs f then ok_form (form_of f) (part (place f) (width f) bs) else true

abbrev pub got : List ℕ → Field → Content
got bs f = if matters bs f then content (form_of f) (part (place f) (width f) bs) else nothing

abbrev pub within : ℕ → List Field → Bool
within n fs = list_all (λ f. nat_le (span f) n) fs

-- the offset of the first field that is refused
unfoldable pub first_bad : List Field → List ℕ → Option ℕ
first_bad fs bs = option_map place (find (λ f. not (ok bs f)) fs)

-- whether a form asks anything of its bytes
abbrev pub asks : Form → Bool
asks (Text w) = true
asks (Name w) = true
asks Order = true
asks Sequence = true
asks (Code cs) = true
asks _ = false

-- what is so, and each field that asks something is taken: as tests of one field behind the other say it
abbrev pub good_from : Bool → List Field → List ℕ → Bool
good_from b [] bs = b
good_from b (f ∷ fs) bs = good_from (if asks (form_of f) then b && ok bs f else b) fs bs

-- whether each field is taken, in one test
unfoldable pub all_good : List Field → List ℕ → Bool
all_good fs bs = good_from true fs bs

-- which is so just where a walk along the table finds none that is refused
abbrev pub OneLook : Type 0
OneLook = (fs : List Field) (bs : List ℕ) → all_good fs bs ≡ is_none (first_bad fs bs)

-- each field is taken
abbrev pub AllOk : List Field → List ℕ → Type 0
AllOk fs bs = AllByRecursion (λ f. ok bs f ≡ true) fs

-- each content is what its field holds
unfoldable pub Says : List Content → List Field → List ℕ → Type 0
Says vs fs bs = vs ≡ map (got bs) fs

abbrev pub is_words : Form → Bool
is_words (Text w) = true
is_words (Name w) = true
is_words _ = false

-- where the texts of a message stand
abbrev pub text_places : List Field → List ℕ → List ℕ
text_places fs bs = map place (filter (λ f. is_words (form_of f) && matters bs f) fs)

-- the first field that is refused, as a fault
abbrev pub fault_of : List Field → List ℕ → Option Fault
fault_of fs bs = option_map (λ at. fault.Field at) (first_bad fs bs)

-- a table was gone through
abbrev pub Checked : List Field → List ℕ → {X : Type 0} → Result X Fault → Type 0
Checked fs bs r = MatchResult r (λ _. (first_bad fs bs ≡ None) × AllOk fs bs) (λ e. fault_of fs bs ≡ Some e)

-- a message's fields were read: all of them, or the first refusal
abbrev pub Body : {M : Type 0} → List Field → (M → List Content) → (M → List ℕ) → List ℕ → Result M Fault → Type 0
Body fs contents places bs r =
    MatchResult r
    (λ m. (first_bad fs bs ≡ None) × Says (contents m) fs bs × (places m ≡ text_places fs bs))
    (λ e. fault_of fs bs ≡ Some e)

-- a content as what a form asks for
abbrev pub words_of : Content → List ℕ
words_of (words t) = t
words_of _ = []

abbrev pub order_of : Content → Option ℕ
order_of (order o) = o
order_of _ = None

abbrev pub figure_of : Content → ℕ
figure_of (figure n) = n
figure_of _ = 0

-- the value of a byte, or another one where none has it
abbrev pub value_of : {V : Type 0} → (V → ℕ) → List V → V → Content → V
value_of code values other c = unwrap_or (find (λ v. code v == figure_of c) values) other

-- the content at a place of a message's contents
abbrev pub nth : ℕ → List Content → Content
nth i vs = slice_index_or vs i nothing

abbrev pub int8_of : Content → ℤ
int8_of (int8 z) = z
int8_of _ = pos 0

abbrev pub int32_of : Content → ℤ
int32_of (int32 z) = z
int32_of _ = pos 0

abbrev pub price_of : Content → ℤ
price_of (price z) = z
price_of _ = pos 0

abbrev pub seconds_of : Content → ℕ
seconds_of (clock s u) = s
seconds_of _ = 0

abbrev pub micros_of : Content → ℕ
micros_of (clock s u) = u
micros_of _ = 0
