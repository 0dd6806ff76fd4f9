-- A reader takes a kind by the kind's own type byte. Assumes nothing.
use Rattle.std.proofs.Common.{◌≡◌, ℕ, Bool, true, false, cond, eqb, List, [], ◌∷◌, Some, Option, sym, refl, ap, ◌∙◌, eqb-true}
use Rattle.std.specs.List.{find}
use Rattle.wire.specs.declared.kinds.Channel.{Channel}
use Rattle.wire.specs.declared.kinds.Kind.{Kind}
use Rattle.wire.specs.Kinds.{letter_of, kinds_of, takes}

found_by : (t : ℕ) (x k : Kind) (r : Option Kind) (b : Bool) → eqb (letter_of x) t ≡ b → (r ≡ Some k → letter_of k ≡ t)
    → cond b (Some x) r ≡ Some k → letter_of k ≡ t
found_by t x k r true q f e = let d : x ≡ k = cc in ap letter_of (sym d) ∙ eqb-true (letter_of x) t q
found_by t x k r false q f e = f e

found_in : (ks : List Kind) (t : ℕ) (k : Kind) → find (λ j. eqb (letter_of j) t) ks ≡ Some k → letter_of k ≡ t
found_in [] t k e = cc
found_in (x ∷ ks) t k e =
    found_by t x k (find (λ j. eqb (letter_of j) t) ks) (eqb (letter_of x) t) refl (found_in ks t k) e

pub spelt : (ch : Channel) (k : Kind) (t : ℕ) → takes ch t ≡ Some k → letter_of k ≡ t
spelt ch k t e = found_in (kinds_of ch) t k e
