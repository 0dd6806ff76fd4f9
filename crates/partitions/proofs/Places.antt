-- A byte that is found is an owner that is found. Assumes nothing.
use Rattle.std.specs.Prelude.{position}
use Rattle.std.proofs.Common.{◌≡◌, ◌≢◌, ℕ, ◌+◌, ◌<◌, ◌⊎◌, cond, not, eqb, ltb, List, [], ◌∷◌, map, drop, length, Some, None, Option, inl, inr, refl, sym, ap, ◌∙◌, arith}
use Rattle.std.specs.List.{position_or_len}
use Rattle.std.proofs.lemmas.Bool.{eq-eqb, ne_eqb, cases_eq, cond-true, cond-false, lt-ltb, le-ltb, false_from_ne_true}
use Rattle.std.proofs.lemmas.List.{drop-map, length-map}
use Rattle.std.proofs.lemmas.List.Sums.{position_or_len_is}
use Rattle.memchr.specs.Find.{IsFirstByte, is_byte}
use Rattle.partitions.specs.Marks.{mark}

mark_same : (a o : ℕ) → o < 255 → eqb (mark a) o ≡ eqb a o
mark_same a o lt = go (cases_eq a o)
  where
    go : (a ≡ o) ⊎ (a ≢ o) → eqb (mark a) o ≡ eqb a o
    go (inl e) = eq-eqb (mark a) o (omega arith) ∙ sym (eq-eqb a o e)
    go (inr ne) = ne_eqb (mark a) o (λ q. ne (omega arith)) ∙ sym (ne_eqb a o ne)

module _ {X : Type 0} (owner : X → ℕ) where
  abbrev marks : List X → List ℕ
  marks xs = map (λ x. mark (owner x)) xs

  length-before : (xs : List X) (o : ℕ) → o < 255 → position_or_len (λ m. eqb m o) (marks xs)
      ≡ position_or_len (λ x. eqb (owner x) o) xs
  length-before [] o lt = refl
  length-before (x ∷ xs) o lt =
      ap (λ b. cond (not b) (1 + position_or_len (λ m. eqb m o) (marks xs)) 0) (mark_same (owner x) o lt)
      ∙ ap (λ n. cond (not (eqb (owner x) o)) (1 + n) 0) (length-before xs o lt)

  in_marks : (xs : List X) (o : ℕ) → o < 255 → position (λ m. eqb m o) (marks xs) ≡ position (λ x. eqb (owner x) o) xs
  in_marks xs o lt =
      ap (λ n. cond (ltb n (length (marks xs))) (Some n) None) (length-before xs o lt)
      ∙ ap (λ k. cond (ltb (position_or_len (λ x. eqb (owner x) o) xs) k)
      (Some (position_or_len (λ x. eqb (owner x) o) xs)) None) (length-map xs (λ x. mark (owner x)))

  pub found_by_mark : (xs : List X) (ms : List ℕ) (o above : ℕ) (r : Option ℕ) → r
      ≡ position (λ m. eqb m o) (drop above ms) → ms ≡ map (λ x. mark (owner x)) xs → o < 255 → r
      ≡ position (λ x. eqb (owner x) o) (drop above xs)
  found_by_mark xs ms o above r e same lt =
      e ∙ ap (λ t. position (λ m. eqb m o) (drop above t)) same ∙ ap (position (λ m. eqb m o))
      (drop-map (λ x. mark (owner x)) above xs) ∙ in_marks (drop above xs) o lt

-- the first byte that is a given one
pub first_is_position : (o : ℕ) (hay : List ℕ) (r : Option ℕ) → IsFirstByte (is_byte o) hay r → r
    ≡ position (λ m. eqb m o) hay
first_is_position o hay None h =
    let p = position_or_len_is (λ m. eqb m o) hay (length hay) 0 (omega arith)
    (λ k lt. false_from_ne_true _ (h k (omega arith) lt)) (λ lt. absurd (let no : ⊥ = omega arith in no)) in
    sym (cond-false _ _ _ (le-ltb (position_or_len (λ m. eqb m o) hay) (length hay) (omega arith)))
first_is_position o hay (Some k) h =
    let first = h.0 in
    let p = position_or_len_is (λ m. eqb m o) hay k 0 (omega (arith, first.high))
    (λ j lt. false_from_ne_true _ (first.before j (omega arith) lt)) (λ lt. h.1) in
    sym (ap (λ n. cond (ltb n (length hay)) (Some n) None) p ∙ cond-true _ _ _ (lt-ltb k (length hay) first.high))
