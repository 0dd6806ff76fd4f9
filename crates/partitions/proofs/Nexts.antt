-- An owner's next number as a search that counts from the number. Assumes nothing.
use Rattle.std.proofs.Common.{◌≡◌, ℕ, ◌+◌, Bool, true, false, cond, eqb, List, [], ◌∷◌, drop, Some, Option, sym, refl, ap, ◌∙◌, arith}
use Rattle.std.specs.Prelude.{position}
use Rattle.std.specs.List.{position_from}
use Rattle.std.specs.Option.{option_map}
use Rattle.std.proofs.lemmas.Iterator.Adapters.{position_from-zero}
use Rattle.partitions.specs.Series.{next_of}

-- indices that begin higher by m
from-higher : {X : Type 0} (p : X → Bool) (m k : ℕ) (xs : List X) → position_from p (m + k) xs
    ≡ option_map (λ i. m + i) (position_from p k xs)
from-higher p m k [] = refl
from-higher p m k (x ∷ xs) =
    either (p x) (let e : m + k + 1 ≡ m + (k + 1) = omega arith in ap (λ j. position_from p j xs) e ∙ from-higher p m
    (k + 1) xs)
  where
    either : (b : Bool) → position_from p (m + k + 1) xs ≡ option_map (λ i. m + i) (position_from p (k + 1) xs)
        → cond b (Some (m + k)) (position_from p (m + k + 1) xs)
        ≡ option_map (λ i. m + i) (cond b (Some k) (position_from p (k + 1) xs))
    either true h = refl
    either false h = h

-- a number, by how many items are passed over
next-passed : {X : Type 0} (p : X → Bool) (above : ℕ) (xs : List X) (r : Option ℕ) → r ≡ position p xs
    → position_from p (above + 1) xs ≡ option_map (λ i. above + 1 + i) r
next-passed p above xs r e =
    let same : above + 1 ≡ above + 1 + 0 = omega arith in
    ap (λ j. position_from p j xs) same ∙ from-higher p (above + 1) 0 xs ∙ ap (option_map (λ i. above + 1 + i))
    (sym (e ∙ position_from-zero p xs))

pub next-from : {X : Type 0} (owner : X → ℕ) (xs : List X) (o above : ℕ) → next_of owner xs o above
    ≡ position_from (λ x. eqb (owner x) o) (above + 1) (drop above xs)
next-from owner xs o above = sym (next-passed (λ x. eqb (owner x) o) above (drop above xs) _ refl)
