-- Any table: what was read is written again as it stood, but for reserved and irrelevant fields. Assumes nothing.
use Rattle.std.proofs.Common.{◌≡◌, ℕ, zero, suc, ◌+◌, ◌*◌, ◌/◌, ◌%◌, ◌^◌, ◌<◌, ◌≤◌, Bool, true, false, cond, leb, List, [], ◌∷◌, ◌++◌, length, get_or, map, take, drop, replicate, is_some, Some, None, Option, sym, refl, ap, ◌∙◌, pow-suc, arith, length-drop, take-append-drop, w8, w32, w64, leb-true}
use Rattle.std.proofs.lemmas.Bool.{and_parts}
use native.Mathlib.Nat.{le-max_left}
use Rattle.std.proofs.lemmas.List.{length-take-le, take_all, get_or-drop}
use Rattle.std.proofs.lemmas.Nat.{mod-mul-add, div-mul-add}
use Rattle.std.proofs.lemmas.Int.{of_z-to_z}
use Rattle.texts.specs.Bytes.{le, to_le, all_null, said, is_text, named, padded, part}
use Rattle.texts.specs.Identifiers.{number_of}
use Rattle.texts.proofs.Padding.{padded-said, null_is}
use Rattle.layout.specs.declared.field.Form.{Form}
use Rattle.layout.specs.declared.field.Form.TheVariants.{Text, Name, Order, UInt32, UInt64, Sequence, Int8, Int32, Price, Time, Code, Alpha, Reserved}
use Rattle.layout.specs.declared.field.Field.{Field}
use Rattle.layout.specs.declared.field.Field.TheVariants.{Always, When}
use Rattle.layout.specs.Layout.{place, width, wide, span, form_of, matters, ok, got, ok_form, content, within, AllOk, order_at, is_order}
use Rattle.layout.specs.Layout.Content.{nothing}
use Rattle.layout.specs.Writing.{order_bytes, bytes_of, field_bytes, encode}
use Rattle.layout.proofs.Parts.{part_long}
use Rattle.layout.proofs.Wholes.{nothing_bytes}
use Rattle.wire.specs.Blanks.{reserved, field_again, blanked}
use Rattle.wire.proofs.Unique.{unique}

-- bytes are below 256
abbrev pub Bytes : List ℕ → Type 0
Bytes bs = (i : ℕ) → get_or bs i 0 < 256

bytes_drop : (n : ℕ) (xs : List ℕ) → Bytes xs → Bytes (drop n xs)
bytes_drop n xs h i = rw (get_or-drop n xs i 0) (h (n + i))

pub bytes_take : (n : ℕ) (xs : List ℕ) → Bytes xs → Bytes (take n xs)
bytes_take zero xs h i = omega arith
bytes_take (suc n) [] h i = omega arith
bytes_take (suc n) (x ∷ xs) h zero = h zero
bytes_take (suc n) (x ∷ xs) h (suc i) = bytes_take n xs (λ j. h (suc j)) i

pub to_le_le : (xs : List ℕ) → Bytes xs → to_le (length xs) (le xs) ≡ xs
to_le_le [] h = refl
to_le_le (b ∷ bs) h =
    let l : b < 256 = h 0 in
    let c : b + 256 * le bs ≡ le bs * 256 + b = omega arith in
    let m : (b + 256 * le bs) % 256 ≡ b = rw c (mod-mul-add (le bs) 256 b l) in
    let d : (b + 256 * le bs) / 256 ≡ le bs = rw c (div-mul-add (le bs) 256 b l) in
    rw (m, d, to_le_le bs (λ i. h (suc i)))

le_below : (xs : List ℕ) → Bytes xs → le xs < 256 ^ length xs
le_below [] h = omega arith
le_below (b ∷ bs) h = rw pow-suc (omega (arith, le_below bs (λ i. h (suc i)), h 0))

wide_as : (w : ℕ) (s : List ℕ) → length s ≡ w → Bytes s → to_le w (le s) ≡ s
wide_as w s l b = ap (λ k. to_le k (le s)) (sym l) ∙ to_le_le s b

below_as : (w : ℕ) (s : List ℕ) → length s ≡ w → Bytes s → le s < 256 ^ w
below_as w s l b = rw l at (le_below s b)

-- one field, written again

none_null : (a : Bool) (o : Option ℕ) → cond a true (is_some o) ≡ true → o ≡ None → a ≡ true
none_null true o h e = refl
none_null false o h e = let k = ap is_some e in cc

order_by : (s : List ℕ) (o : Option ℕ) → number_of 79 s ≡ o → cond (all_null s) true (is_some (number_of 79 s)) ≡ true
    → length s ≡ 12 → order_bytes o ≡ s
order_by s (Some n) e h l = sym (unique 79 n s e)
order_by s None e h l = sym (null_is s (none_null (all_null s) (number_of 79 s) h e) ∙ ap (λ k. replicate k 0) l)

order_write : (s : List ℕ) → is_order s ≡ true → length s ≡ 12 → order_bytes (order_at s) ≡ s
unfolding is_order order_at
order_write s h l = order_by s (number_of 79 s) refl h l

text_write : (w : ℕ) (s : List ℕ) → is_text s ≡ true → length s ≡ w → padded w (said s) ≡ s
text_write w s h l = ap (λ k. padded k (said s)) (sym l) ∙ padded-said s h

halves : (s : List ℕ) → length s ≡ 8 → Bytes s → to_le 4 (le (take 4 s)) ++ to_le 4 (le (take 4 (drop 4 s))) ≡ s
halves s l b =
    let h : 4 ≤ length s = omega arith in
    let n : length (drop 4 s) ≡ 4 = length-drop 4 s ∙ (omega arith) in
    let t : take 4 (drop 4 s) ≡ drop 4 s = take_all 4 (drop 4 s) (omega arith) in
    let p = wide_as 4 (take 4 s) (length-take-le 4 s h) (bytes_take 4 s b) in
    let q = wide_as 4 (drop 4 s) n (bytes_drop 4 s b) in
    ap (λ x. x ++ to_le 4 (le (take 4 (drop 4 s)))) p ∙ ap (λ x. take 4 s ++ x)
    (ap (λ y. to_le 4 (le y)) t ∙ q) ∙ take-append-drop 4 s

form_write : (f : Form) (s : List ℕ) → ok_form f s ≡ true → length s ≡ wide f → Bytes s
    → bytes_of f (content f s) ≡ cond (reserved f) (replicate (wide f) 0) s
form_write (Text w) s h l b = text_write w s h l
form_write (Name w) s h l b = text_write w s (and_parts (is_text s) (named s) h).0 l
form_write Order s h l b = order_write s h l
form_write UInt32 s h l b = wide_as 4 s l b
form_write UInt64 s h l b = wide_as 8 s l b
form_write Sequence s h l b = wide_as 4 s l b
form_write Int8 s h l b = ap (to_le 1) (of_z-to_z w8 (le s) (below_as 1 s l b)) ∙ wide_as 1 s l b
form_write Int32 s h l b = ap (to_le 4) (of_z-to_z w32 (le s) (below_as 4 s l b)) ∙ wide_as 4 s l b
form_write Price s h l b = ap (to_le 8) (of_z-to_z w64 (le s) (below_as 8 s l b)) ∙ wide_as 8 s l b
form_write Time s h l b = halves s l b
form_write (Code cs) s h l b = wide_as 1 s l b
form_write Alpha s h l b = wide_as 1 s l b
form_write (Reserved w) s h l b = refl

write_by : (m : Bool) (f : Form) (s : List ℕ) → cond m (ok_form f s) true ≡ true → length s ≡ wide f → Bytes s
    → bytes_of f (cond m (content f s) nothing) ≡ cond m (cond (reserved f) (replicate (wide f) 0) s)
    (replicate (wide f) 0)
write_by true f s h l b = form_write f s h l b
write_by false f s h l b = nothing_bytes f

write_one : (f : Field) (bs : List ℕ) → Bytes bs → place f + width f ≤ length bs → ok bs f ≡ true
    → field_bytes f (got bs f) ≡ field_again bs f
unfolding field_bytes
write_one f bs b l h =
    write_by (matters bs f) (form_of f) (part (place f) (width f) bs) h (part_long (place f) (width f) bs l)
    (bytes_take (width f) (drop (place f) bs) (bytes_drop (place f) bs b))

ends : (f : Field) → place f + width f ≤ span f
ends (Always at f) = omega arith
ends (When at f other cs) = le-max_left (at + wide f) (other + 1)

pub write_all : (fs : List Field) (bs : List ℕ) (n : ℕ) → Bytes bs → n ≤ length bs → within n fs ≡ true → AllOk fs bs
    → encode fs (map (got bs) fs) ≡ blanked fs bs
unfolding encode blanked
write_all [] bs n b l t o = refl
write_all (f ∷ fs) bs n b l t o =
    let q = and_parts (leb (span f) n) (within n fs) t in
    let h : place f + width f ≤ length bs = omega (arith, leb-true (span f) n q.0, ends f) in
    rw (write_one f bs b h o.0, write_all fs bs n b l q.1 o.1)
