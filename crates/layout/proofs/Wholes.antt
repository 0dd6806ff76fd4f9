-- What a message that can be held is written as: as many bytes as its fields are wide, one field behind the other.
-- Assumes nothing.
use Rattle.std.proofs.Common.{◌≡◌, ℕ, ◌+◌, Bool, true, false, eqb, List, [], ◌∷◌, ◌++◌, length, drop, replicate, Some, None, Option, refl, ap, ◌∙◌, append_assoc, length-append, eqb-true, arith}
use Rattle.std.proofs.lemmas.Bool.{and_parts}
use lib.ListN.{length-replicate}
use Rattle.codes.specs.Lists.{listed}
use Rattle.texts.proofs.Padding.{length-padded}
use Rattle.texts.proofs.Digits.{length-id_of}
use Rattle.layout.specs.declared.field.Form.{Form}
use Rattle.layout.specs.declared.field.Form.TheVariants.{Text, Name, Order, Reserved}
use Rattle.layout.specs.declared.field.Field.{Field}
use Rattle.layout.specs.declared.field.Field.TheVariants.{Always, When}
use Rattle.layout.specs.Layout.{Content, place, width, wide, taken}
use Rattle.layout.specs.Layout.Content.{words, order, nothing}
use Rattle.layout.specs.Holding.{HoldsForm, If, Holds, HoldsAll, HoldsIn, figure_at}
use Rattle.layout.specs.Writing.{over, over_all, order_bytes, bytes_of, field_bytes, encode, tiled, header, Wrote}
use Rattle.layout.proofs.Overs.{over_front}

-- a field's bytes are as many as its width
order_wide : (o : Option ℕ) → length (order_bytes o) ≡ 12
order_wide None = refl
order_wide (Some n) = length-id_of 79 n

form_wide : (f : Form) (v : Content) → HoldsForm f v → length (bytes_of f v) ≡ wide f
form_wide (Text w) (words t) h = length-padded w t h.0
form_wide (Name w) (words t) h = length-padded w t h.0
form_wide Order (order o) h = order_wide o
form_wide (Reserved w) nothing h = length-replicate {A = ℕ} w 0
form_wide f v h = grind arith

pub nothing_bytes : (f : Form) → bytes_of f nothing ≡ replicate (wide f) 0
nothing_bytes (Text w) = refl
nothing_bytes f = refl

wide_if : (b : Bool) (f : Form) (v : Content) → If b (HoldsForm f v) (v ≡ nothing) → length (bytes_of f v) ≡ wide f
wide_if true f v h = form_wide f v h
wide_if false f v h = rw (h, nothing_bytes f) (length-replicate {A = ℕ} (wide f) 0)

pub field_wide : (at : ℕ → ℕ) (f : Field) (v : Content) → Holds at f v → length (field_bytes f v) ≡ width f
unfolding field_bytes
field_wide at (Always here f) v h = form_wide f v h
field_wide at (When here f other cs) v h = wide_if (taken (at other) (listed cs)) f v h

-- a table that is tiled, written behind the front p
behind : (at : ℕ → ℕ) (fs : List Field) (vs : List Content) (p b : List ℕ) (n end : ℕ) → length p ≡ n → tiled n end fs
    ≡ true → HoldsAll at fs vs → over_all fs vs (p ++ drop n b) ≡ p ++ (encode fs vs ++ drop end b)
unfolding encode
behind at [] vs p b n end l t h = rw (eqb-true n end t)
behind at (f ∷ fs) [] p b n end l t h = absurd h
behind at (f ∷ fs) (v ∷ vs) p b n end l t h =
    let q = and_parts (eqb (place f) n) (tiled (n + width f) end fs) t in
    let e = eqb-true (place f) n q.0 in
    let w = field_wide at f v h.0 in
    let l' : length (p ++ field_bytes f v) ≡ n + width f = rw (length-append p (field_bytes f v), w, l) in
    let s : over (p ++ drop n b) (place f) (field_bytes f v) ≡ (p ++ field_bytes f v) ++ drop (n + width f) b =
    rw e (over_front p b n (field_bytes f v) l ∙ rw w) in
    ap (over_all fs vs) s ∙ behind at fs vs (p ++ field_bytes f v) b (n + width f) end l' q.1 h.1 ∙ simp append_assoc

-- a whole message, its header first
pub whole : (letter total : ℕ) (fs : List Field) (vs : List Content) (b c d : List ℕ) → tiled 4 total fs ≡ true
    → HoldsIn fs vs
    → c ≡ over b 0 (header letter total) → d ≡ over_all fs vs c → Wrote letter total fs vs b d
unfolding over HoldsIn
whole letter total fs vs b c d t h e k =
    k ∙ ap (over_all fs vs) e ∙ behind (figure_at fs vs) fs vs (header letter total) b 4 total refl t h
