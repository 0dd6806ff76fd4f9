-- What a name says is not empty; texts of the same bytes are the same. Assumes nothing.
use Rattle.std.proofs.Common.{◌≡◌, ◌<◌, true, List, ℕ, length, arith, ltb-true, refl, sym, ap, ◌∙◌, subst}
use Rattle.std.proofs.Math.Bool.{Bool-set}
use Rattle.std.proofs.Math.Nat.{ℕ_set}
use Rattle.std.specs.List.{prefix_len}
use Rattle.std.proofs.lemmas.List.{length-take-le}
use Rattle.std.proofs.lemmas.List.Sums.{prefix_len-le-length}
use Rattle.texts.specs.Bytes.{is_text, printable, said, named, text_end}
use Rattle.texts.specs.declared.fixed.FixedText.{FixedText}

pub named_says : (f : List ℕ) → named f ≡ true → 0 < length (said f)
unfolding named
named_says f h =
    let p : 0 < prefix_len printable f = ltb-true 0 (prefix_len printable f) h in
    let e = length-take-le (prefix_len printable f) f (prefix_len-le-length printable f) in
    omega arith

-- a kept text is made of its bytes alone
abbrev made : {N : ℕ} (f : List ℕ) → length f ≡ N → is_text f ≡ true → FixedText N
made f w t = record { bytes = f; end = text_end f; wide = w; text = t; ends = refl }

made_of : {N : ℕ} (x : FixedText N) → x ≡ made x.bytes x.wide x.text
made_of {N} x =
    let with : (k : ℕ) → k ≡ text_end x.bytes → FixedText N =
    λ k e. record { bytes = x.bytes; end = k; wide = x.wide; text = x.text; ends = e } in
    let P : ℕ → Type 0 = λ k. (e : k ≡ text_end x.bytes) → with k e ≡ made x.bytes x.wide x.text in
    subst P (sym x.ends) (λ e. ap (with (text_end x.bytes)) (ℕ_set (text_end x.bytes) (text_end x.bytes) e refl)) x.ends

made_same : {N : ℕ} (f g : List ℕ) (v : length f ≡ N) (w : length g ≡ N) (t : is_text f ≡ true) (u : is_text g ≡ true)
    → f ≡ g → made f v t ≡ made g w u
made_same {N} f g v w t u e =
    let P : List ℕ → Type 0 = λ h. (w : length h ≡ N) (u : is_text h ≡ true) → made f v t ≡ made h w u in
    subst P e (λ w u. ap (λ v. made f v t) (ℕ_set (length f) N v w) ∙ ap (made f w) (Bool-set (is_text f) true t u)) w u

pub fixed_same : {N : ℕ} (x y : FixedText N) → x.bytes ≡ y.bytes → x ≡ y
fixed_same x y e = made_of x ∙ made_same x.bytes y.bytes x.wide y.wide x.text y.text e ∙ sym (made_of y)
