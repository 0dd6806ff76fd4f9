-- A field of any form: reading undoes writing, and writing undoes reading. Assumes nothing.
use Rattle.std.proofs.Common.{◌&&◌, ◌||◌, ◌≡◌, ℕ, ◌^◌, ◌<◌, Bool, true, false, eqb, ltb, List, [], ◌∷◌, ℤ, is_some, Some, None, Option, sym, refl, ap, ◌∙◌, arith, w8, w32, w64, SFits, to_z, of_z, ltb-true, lt-ltb, eqb-true}
use Rattle.std.proofs.lemmas.Bool.{and_parts}
use mir.Val.{bits}
use mir.Facts.{Fits-of_z}
use mir.Syntax.{Width}
use Rattle.std.proofs.lemmas.Int.{to_z-of_z}
use Rattle.codes.specs.declared.lists.Codes.{Codes}
use Rattle.codes.specs.declared.lists.Codes.TheVariants as list
use Rattle.codes.specs.Member.{member}
use Rattle.codes.specs.Lists.{listed}
use Rattle.texts.specs.Bytes.{le, to_le}
use Rattle.texts.proofs.Padding.{said-padded, is_text-padded, named-padded, le-to_le}
use Rattle.texts.proofs.Digits.{returns_of}
use Rattle.layout.specs.declared.field.Form.{Form}
use Rattle.layout.specs.declared.field.Form.TheVariants.{Text, Name, Order, UInt32, UInt64, Sequence, Int8, Int32, Price, Time, Code, Alpha, Reserved}
use Rattle.layout.specs.declared.sequence.TheConstants.{SEQUENCE_LIMIT}
use Rattle.layout.specs.Layout.{Content, taken, order_at, is_order, ok_form, content}
use Rattle.layout.specs.Layout.Content.{words, order, figure, int8, int32, price, clock, nothing}
use Rattle.layout.specs.Writing.{order_bytes, bytes_of}
use Rattle.layout.specs.Holding.{Below, HoldsForm}

-- every listed code is a byte

abbrev small : List ℕ → Bool
small [] = true
small (n ∷ ns) = ltb n 256 && small ns

small_lists : (cs : Codes) → small (listed cs) ≡ true
small_lists list.Sides = refl
small_lists cs = refl

member_by : (b : Bool) (n v : ℕ) (vs : List ℕ) → eqb n v ≡ b → (b || member n vs) ≡ true → v < 256
    → (member n vs ≡ true → n < 256) → n < 256
member_by true n v vs e h l k = let q = eqb-true n v e in omega arith
member_by false n v vs e h l k = k h

member_small : (n : ℕ) (vs : List ℕ) → small vs ≡ true → member n vs ≡ true → n < 256
member_small n [] s h = let z : ◌≡◌ {A = ℕ} 0 1 = cc in absurd (omega arith)
member_small n (v ∷ vs) s h =
    let q = and_parts (ltb v 256) (small vs) s in
    member_by (eqb n v) n v vs refl h (ltb-true v 256 q.0) (member_small n vs q.1)

pub code_small : (cs : Codes) (n : ℕ) → taken n (listed cs) ≡ true → n < 256
unfolding taken
code_small cs n h = member_small n (listed cs) (small_lists cs) h

-- reading undoes writing

of_z_below : (w : Width) (z : ℤ) → SFits w z → of_z w z < 2 ^ bits w
of_z_below w z f = (Fits-of_z {w = w} {z = z} f).fits

order_read : (o : Option ℕ) → Below o → (is_order (order_bytes o) ≡ true) × (order_at (order_bytes o) ≡ o)
unfolding is_order order_at
order_read None h = (refl, refl)
order_read (Some n) h = let r = (returns_of 79 n h).0 in (ap is_some r, r)

signed_read : (w : Width) (k : ℕ) (z : ℤ) → 256 ^ k ≡ 2 ^ bits w → SFits w z → z ≡ to_z w (le (to_le k (of_z w z)))
signed_read w k z e f =
    sym (ap (to_z w) (le-to_le k (of_z w z) (rw e (of_z_below w z f))) ∙ to_z-of_z w z f)

pub form_read : (f : Form) (v : Content) → HoldsForm f v → (ok_form f (bytes_of f v) ≡ true)
    × (v ≡ content f (bytes_of f v))
form_read (Text w) (words t) h = (is_text-padded w t h.1, ap words (sym (said-padded w t h.1)))
form_read (Name w) (words t) h =
    (rw (is_text-padded w t h.1, named-padded w t h.1 h.2), ap words (sym (said-padded w t h.1)))
form_read Order (order o) h = let r = order_read o h in (r.0, ap order (sym r.1))
form_read UInt32 (figure n) h = (refl, ap figure (sym (le-to_le 4 n h)))
form_read UInt64 (figure n) h = (refl, ap figure (sym (le-to_le 8 n h)))
form_read Sequence (figure n) h =
    let e = le-to_le 4 n (omega arith) in (rw e (lt-ltb n SEQUENCE_LIMIT h), ap figure (sym e))
form_read Int8 (int8 z) h = (refl, ap int8 (signed_read w8 1 z refl h))
form_read Int32 (int32 z) h = (refl, ap int32 (signed_read w32 4 z refl h))
form_read Price (price z) h = (refl, ap price (signed_read w64 8 z refl h))
form_read Time (clock s u) h =
    (refl, sym (ap (λ n. clock n (le (to_le 4 u))) (le-to_le 4 s h.0) ∙ ap (clock s) (le-to_le 4 u h.1)))
form_read (Code cs) (figure n) h = let e = le-to_le 1 n (code_small cs n h) in (rw e h, ap figure (sym e))
form_read Alpha (figure n) h = (refl, ap figure (sym (le-to_le 1 n h)))
form_read (Reserved w) nothing h = (refl, refl)
form_read f v h = absurd h
