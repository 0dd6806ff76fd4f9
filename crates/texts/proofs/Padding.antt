-- Text and its one form in a field, and numbers and their bytes. Assumes nothing.
use Rattle.std.proofs.Common.{◌≡◌, ℕ, zero, suc, ◌+◌, ◌-◌, ◌*◌, ◌/◌, ◌^◌, ◌<◌, ◌≤◌, Bool, true, false, cond, eqb, List, [], ◌∷◌, ◌++◌, length, take, drop, replicate, refl, sym, ap, ◌∙◌, pow-suc, arith, length-append, length-drop, take-append-drop, lt-ltb, eqb-true}
use Rattle.std.proofs.lemmas.Bool.{and_parts}
use lib.ListN.{length-replicate}
use Rattle.std.specs.List.{prefix_len}
use Rattle.std.proofs.lemmas.List.{take_at, drop_at, length-take-le, drop_all, take_all}
use Rattle.std.proofs.lemmas.List.Sums.{prefix_len-le-length}
use Rattle.std.proofs.lemmas.Nat.{div-add-mod', div_below}
use Rattle.std.proofs.lemmas.Slice.Eq.{bytes_eq-Decides}
use Rattle.std.specs.Str.{bytes_eq}
use Rattle.texts.specs.Bytes.{le, to_le, printable, all_printable, all_null, said, is_text, named, padded, text_end}

-- the front that is printable

pub end_within : (f : List ℕ) → text_end f ≤ length f
end_within f = prefix_len-le-length printable f

pub lead-all : (t : List ℕ) → all_printable t ≡ true → prefix_len printable t ≡ length t
lead-all [] h = refl
lead-all (b ∷ t) h = let q = and_parts (printable b) (all_printable t) h in rw (q.0, lead-all t q.1) (omega arith)

pub lead-padded : (t : List ℕ) (k : ℕ) → all_printable t ≡ true → prefix_len printable (t ++ replicate k 0) ≡ length t
lead-padded [] zero h = refl
lead-padded [] (suc k) h = refl
lead-padded (b ∷ t) k h =
    let q = and_parts (printable b) (all_printable t) h in rw (q.0, lead-padded t k q.1) (omega arith)

said-by : (p : Bool) (b : ℕ) (f : List ℕ) → printable b ≡ p → all_printable (said f) ≡ true
    → all_printable (take (cond p (1 + prefix_len printable f) 0) (b ∷ f)) ≡ true
said-by true b f e h = let o : 1 + prefix_len printable f ≡ suc (prefix_len printable f) = omega arith in rw (o, e) h
said-by false b f e h = refl

pub said_printable : (f : List ℕ) → all_printable (said f) ≡ true
said_printable [] = refl
said_printable (b ∷ f) = said-by (printable b) b f refl (said_printable f)

-- nulls

pub null-all : (k : ℕ) → all_null (replicate k 0) ≡ true
null-all zero = refl
null-all (suc k) = null-all k

pub null_is : (xs : List ℕ) → all_null xs ≡ true → xs ≡ replicate (length xs) 0
null_is [] h = refl
null_is (x ∷ xs) h =
    let q = and_parts (eqb x 0) (all_null xs) h in rw (eqb-true x 0 q.0) (ap (λ (ys : List ℕ). 0 ∷ ys) (null_is xs q.1))

-- padding

pub length-padded : (w : ℕ) (t : List ℕ) → length t ≤ w → length (padded w t) ≡ w
length-padded w t h =
    rw (length-append t (replicate (w - length t) 0), length-replicate {A = ℕ} (w - length t) 0) (omega arith)

pub said-padded : (w : ℕ) (t : List ℕ) → all_printable t ≡ true → said (padded w t) ≡ t
said-padded w t h = rw (lead-padded t (w - length t) h) (take_at t (replicate (w - length t) 0) (length t) refl)

pub is_text-padded : (w : ℕ) (t : List ℕ) → all_printable t ≡ true → is_text (padded w t) ≡ true
unfolding is_text
is_text-padded w t h =
    rw (lead-padded t (w - length t) h, drop_at t (replicate (w - length t) 0) (length t) refl)
    (null-all (w - length t))

pub named-padded : (w : ℕ) (t : List ℕ) → all_printable t ≡ true → 0 < length t → named (padded w t) ≡ true
unfolding named
named-padded w t h l = rw (lead-padded t (w - length t) h) (lt-ltb 0 (length t) l)

pub padded-said : (f : List ℕ) → is_text f ≡ true → padded (length f) (said f) ≡ f
unfolding is_text
padded-said f h =
    let n = prefix_len printable f in
    let l = length-take-le n f (prefix_len-le-length printable f) in
    let z : drop n f ≡ replicate (length f - n) 0 = null_is (drop n f) h ∙ rw (length-drop n f) in
    rw (l, ← z) (take-append-drop n f)

-- fields of one width that hold text are the same where they say the same
said-apart : (w : ℕ) (f g : List ℕ) → length f ≡ w → length g ≡ w → is_text f ≡ true → is_text g ≡ true → said f ≡ said g
    → f ≡ g
said-apart w f g a b t u e =
    let p : padded w (said f) ≡ f = ap (λ n. padded n (said f)) (sym a) ∙ padded-said f t in
    let q : padded w (said g) ≡ g = ap (λ n. padded n (said g)) (sym b) ∙ padded-said g u in
    sym p ∙ ap (padded w) e ∙ q

pub same_said : (w : ℕ) (f g : List ℕ) → length f ≡ w → length g ≡ w → is_text f ≡ true → is_text g ≡ true
    → bytes_eq f g ≡ bytes_eq (said f) (said g)
same_said w f g a b t u =
    same_test (bytes_eq f g) (bytes_eq (said f) (said g))
    (λ h. (bytes_eq-Decides (said f) (said g)).1 (ap said ((bytes_eq-Decides f g).0 h)))
    (λ h. (bytes_eq-Decides f g).1 (said-apart w f g a b t u ((bytes_eq-Decides (said f) (said g)).0 h)))
  where
    same_test : (p q : Bool) → (p ≡ true → q ≡ true) → (q ≡ true → p ≡ true) → p ≡ q
    same_test true q there back = sym (there refl)
    same_test false true there back = back refl
    same_test false false there back = refl

-- text that fills its field
pub is_text-all : (t : List ℕ) → all_printable t ≡ true → is_text t ≡ true
unfolding is_text
is_text-all t h = rw (lead-all t h, drop_all (length t) t (omega arith))

pub said_all : (t : List ℕ) → all_printable t ≡ true → said t ≡ t
said_all t h = rw (lead-all t h) (take_all (length t) t (omega arith))

-- numbers

pub le-to_le : (w n : ℕ) → n < 256 ^ w → le (to_le w n) ≡ n
le-to_le zero n h = omega arith
le-to_le (suc w) n h =
    let h' : n < 256 ^ w * 256 = rw pow-suc at h in
    let p : 0 < 256 = omega arith in
    let e = le-to_le w (n / 256) (div_below n 256 (256 ^ w) p h') in
    omega (arith, e, div-add-mod' n 256)
