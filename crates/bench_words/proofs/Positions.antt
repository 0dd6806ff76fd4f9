-- Where a character stands in a word. Assumes nothing.
use Rattle.std.proofs.Common.{◌≡◌, ℕ, Bool, false, List, [], ◌∷◌, length, refl, ap, inl, inr, arith}
use Rattle.std.specs.List.{list_any, position_or_len}
use Rattle.std.specs.Str.Parse.{starts_with_minus}
use Rattle.std.proofs.lemmas.Bool.{cases_Bool}
use Rattle.std.proofs.lemmas.Bool.Decides.{eqb_tells}
use Rattle.std.proofs.lemmas.Grind.{common_steps}

-- what is at no place of a list is nowhere in it
pub at_no_place : (p : ℕ → Bool) (w : List ℕ) → position_or_len p w ≡ length w → list_any p w ≡ false
at_no_place p [] h = refl
at_no_place p (b ∷ bs) h =
    elim (cases_Bool (p b)) [
      | inl y ↦ grind (arith, common_steps)
      | inr n ↦ grind (arith, common_steps, at_no_place p bs)
    ]

pub no_minus : (w : List ℕ) → ((rest : List ℕ) → w ≡ 45 ∷ rest → ⊥) → starts_with_minus w ≡ false
no_minus [] h = refl
no_minus (b ∷ bs) h = elim (eqb_tells b 45) [ inl y ↦ absurd (h bs (ap (λ x. x ∷ bs) y.1)) | inr n ↦ n.0 ]
