-- Any table: what its fields are written as is read again, field by field. Assumes nothing.
use Rattle.std.proofs.Common.{◌≡◌, ℕ, ◌+◌, Bool, true, false, cond, eqb, List, [], ◌∷◌, ◌++◌, length, None, sym, refl, ap, ◌∙◌, subst, append_assoc, append-nil, arith, length-append, eqb-true}
use Rattle.std.proofs.lemmas.Bool.{and_parts}
use Rattle.std.proofs.lemmas.List.{take_at, drop_at}
use Rattle.std.specs.List.{list_all}
use Rattle.codes.specs.Lists.{listed}
use Rattle.texts.specs.Bytes.{le, part}
use Rattle.texts.proofs.Padding.{le-to_le}
use Rattle.layout.specs.declared.field.Form.{Form}
use Rattle.layout.specs.declared.field.Form.TheVariants.{Code}
use Rattle.layout.specs.declared.field.Field.{Field}
use Rattle.layout.specs.declared.field.Field.TheVariants.{Always, When}
use Rattle.layout.specs.Layout.{Content, taken, place, width, wide, ok, got, ok_form, content, first_bad, Says, figure_of}
use Rattle.layout.specs.Layout.Content.{figure, nothing}
use Rattle.layout.specs.Writing.{bytes_of, field_bytes, encode, tiled}
use Rattle.layout.specs.Holding.{HoldsForm, If, Holds, HoldsAll, HoldsIn, figure_at}
use Rattle.layout.proofs.Wholes.{field_wide}
use Rattle.wire.proofs.Forms.{code_small, form_read}

-- a field in the middle of the bytes
part_mid : (p s r : List ℕ) (at w : ℕ) → length p ≡ at → length s ≡ w → part at w (p ++ (s ++ r)) ≡ s
part_mid p s r at w h k = rw (drop_at p (s ++ r) at h) (take_at s r w k)

-- the fields that others look at hold listed bytes
abbrev pub is_code : Field → Bool
is_code (Always at (Code cs)) = true
is_code _ = false

abbrev pub code_at : List Field → ℕ → Bool
code_at [] n = false
code_at (f ∷ fs) n = cond (eqb (place f) n) (is_code f) (code_at fs n)

abbrev pub looks : List Field → Field → Bool
looks whole (Always at f) = true
looks whole (When at f other cs) = code_at whole other

abbrev pub looked : List Field → List Field → Bool
looked whole fs = list_all (looks whole) fs

code_read : (at : ℕ → ℕ) (f : Field) (v : Content) (bs : List ℕ) → is_code f ≡ true → Holds at f v
    → part (place f) (width f) bs ≡ field_bytes f v → le (part (place f) 1 bs) ≡ figure_of v
unfolding field_bytes
code_read at (Always here (Code cs)) (figure n) bs c h e = ap le e ∙ le-to_le 1 n (code_small cs n h)
code_read at f v bs c h e = grind arith

look_by : (b : Bool) (at : ℕ → ℕ) (f : Field) (v : Content) (bs : List ℕ) (n m : ℕ) (c : Bool) → eqb (place f) n ≡ b
    → cond b (is_code f) c ≡ true → Holds at f v
    → part (place f) (width f) bs ≡ field_bytes f v → (c ≡ true → le (part n 1 bs) ≡ m) → le (part n 1 bs)
    ≡ cond b (figure_of v) m
look_by true at f v bs n m c q s h e k =
    ap (λ j. le (part j 1 bs)) (sym (eqb-true (place f) n q)) ∙ code_read at f v bs s h e
look_by false at f v bs n m c q s h e k = k s

-- the front field of a table as it is written, behind the bytes p, and what follows it
record Front (f : Field) (v : Content) (fs : List Field) (vs : List Content) (bs p r : List ℕ) (n end : ℕ) : Type 0 where
  pub tiles : tiled (n + width f) end fs ≡ true
  pub wide : length (field_bytes f v) ≡ width f
  pub here : part (place f) (width f) bs ≡ field_bytes f v
  pub behind : bs ≡ (p ++ field_bytes f v) ++ (encode fs vs ++ r)
  pub long : length (p ++ field_bytes f v) ≡ n + width f

front : (at : ℕ → ℕ) (f : Field) (v : Content) (fs : List Field) (vs : List Content) (bs p r : List ℕ) (n end : ℕ)
    → bs ≡ p ++ ((field_bytes f v ++ encode fs vs) ++ r) → length p ≡ n → tiled n end (f ∷ fs) ≡ true → Holds at f v
    → Front f v fs vs bs p r n end
front at f v fs vs bs p r n end e l t h =
    let q = and_parts (eqb (place f) n) (tiled (n + width f) end fs) t in
    let a : place f ≡ n = eqb-true (place f) n q.0 in
    let k = field_wide at f v h in
    let e' : bs ≡ p ++ (field_bytes f v ++ (encode fs vs ++ r)) = e ∙ simp append_assoc in
    record {
      tiles = q.1;
      wide = k;
      here = rw e' (part_mid p (field_bytes f v) (encode fs vs ++ r) (place f) (width f) (l ∙ sym a) k);
      behind = e ∙ simp append_assoc;
      long = rw (length-append p (field_bytes f v), k, l);
    }

-- the number that a listed field holds is the byte at its place
look : (at : ℕ → ℕ) (fs : List Field) (vs : List Content) (bs p r : List ℕ) (n end o : ℕ) → bs ≡ p
    ++ (encode fs vs ++ r) → length p ≡ n → tiled n end fs ≡ true → HoldsAll at fs vs → code_at fs o ≡ true
    → le (part o 1 bs) ≡ figure_at fs vs o
unfolding encode
look at [] vs bs p r n end o e l t h c = cc
look at (f ∷ fs) [] bs p r n end o e l t h c = absurd h
look at (f ∷ fs) (v ∷ vs) bs p r n end o e l t h c =
    let w = front at f v fs vs bs p r n end e l t h.0 in
    look_by (eqb (place f) o) at f v bs o (figure_at fs vs o) (code_at fs o) refl c h.0 w.here
    (look at fs vs bs (p ++ field_bytes f v) r (n + width f) end o w.behind w.long w.tiles h.1)

-- one field, read again
held_read : (b : Bool) (f : Form) (v : Content) (s : List ℕ) → If b (HoldsForm f v) (v ≡ nothing) → s ≡ bytes_of f v
    → (cond b (ok_form f s) true ≡ true) × (v ≡ cond b (content f s) nothing)
held_read true f v s h e = let r = form_read f v h in (ap (ok_form f) e ∙ r.0, r.1 ∙ ap (content f) (sym e))
held_read false f v s h e = (refl, h)

-- bytes whose listed fields hold this
abbrev Seen : List Field → (ℕ → ℕ) → List ℕ → Type 0
Seen whole at bs = (o : ℕ) → code_at whole o ≡ true → le (part o 1 bs) ≡ at o

read_one : (whole : List Field) (at : ℕ → ℕ) (f : Field) (v : Content) (bs : List ℕ) → Seen whole at bs
    → looks whole f ≡ true → Holds at f v → part (place f) (width f) bs ≡ field_bytes f v
    → (ok bs f ≡ true) × (v ≡ got bs f)
unfolding field_bytes
read_one whole at (Always here f) v bs k s h e = held_read true f v (part here (wide f) bs) h e
read_one whole at (When here f other cs) v bs k s h e =
    let P : ℕ → Type 0 = λ n. If (taken n (listed cs)) (HoldsForm f v) (v ≡ nothing) in
    held_read (taken (le (part other 1 bs)) (listed cs)) f v (part here (wide f) bs) (subst P (sym (k other s)) h) e

read_all : (whole : List Field) (at : ℕ → ℕ) (fs : List Field) (vs : List Content) (bs p r : List ℕ) (n end : ℕ)
    → bs ≡ p ++ (encode fs vs ++ r) → length p ≡ n → tiled n end fs ≡ true → HoldsAll at fs vs
    → Seen whole at bs → looked whole fs ≡ true
    → (first_bad fs bs ≡ None) × Says vs fs bs × (n + length (encode fs vs) ≡ end)
unfolding encode first_bad Says
read_all whole at [] [] bs p r n end e l t h k s = (refl, refl, omega (arith, eqb-true n end t))
read_all whole at [] (v ∷ vs) bs p r n end e l t h k s = absurd h
read_all whole at (f ∷ fs) [] bs p r n end e l t h k s = absurd h
read_all whole at (f ∷ fs) (v ∷ vs) bs p r n end e l t h k s =
    let w = front at f v fs vs bs p r n end e l t h.0 in
    let q = and_parts (looks whole f) (looked whole fs) s in
    let o = read_one whole at f v bs k q.0 h.0 w.here in
    let j = read_all whole at fs vs bs (p ++ field_bytes f v) r (n + width f) end w.behind w.long w.tiles h.1 k q.1 in
    let x = o.1 in
    let y = j.1 in
    (rw o.0 j.0, cc, omega (arith, j.2, w.wide, length-append (field_bytes f v) (encode fs vs)))

-- a whole table, written behind its header and read again
pub trip : (fs : List Field) (vs : List Content) (q : List ℕ) (total : ℕ) → length q ≡ 4 → tiled 4 total fs ≡ true
    → looked fs fs ≡ true → HoldsIn fs vs
    → (first_bad fs (q ++ encode fs vs) ≡ None) × Says vs fs (q ++ encode fs vs) × (4 + length (encode fs vs) ≡ total)
unfolding HoldsIn
trip fs vs q total l t k h =
    let at = figure_at fs vs in
    let bs = q ++ encode fs vs in
    let b : bs ≡ q ++ (encode fs vs ++ []) = simp append-nil in
    read_all fs at fs vs bs q [] 4 total b l t h (λ o c. look at fs vs bs q [] 4 total o b l t h c) k
