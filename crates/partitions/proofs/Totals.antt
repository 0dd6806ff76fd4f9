-- How many items there are, as one partition grows. Assumes nothing.
use Rattle.std.proofs.Common.{◌≡◌, ℕ, zero, suc, ◌+◌, ◌≤◌, Bool, cond, eqb, List, [], ◌∷◌, map, drop, length, Some, length-append, refl, sym, ap, ◌∙◌, arith}
use Rattle.std.specs.List.{position_from}
use Rattle.std.specs.Option.{option_map}
use Rattle.std.proofs.lemmas.List.{length-map, drop-map}
use Rattle.std.proofs.lemmas.Option.{slice_get-map}
use Rattle.codes.specs.declared.session.Partition.{Partition}
use Rattle.codes.specs.declared.session.Partition.TheVariants.{One, Two, Three}
use Rattle.partitions.specs.declared.per_partition.PerPartition.{PerPartition}
use Rattle.partitions.specs.PerPartition.{at}
use Rattle.partitions.specs.Series.{total, grown, mapped, next_of}
use Rattle.keyed.specs.Numbers.{under}
use Rattle.partitions.proofs.Nexts.{next-from}

module _ {X : Type 0} where
  pub at_total : (k : PerPartition (List X)) (p : Partition) → length (at k p) ≤ total k
  at_total k One = omega arith
  at_total k Two = omega arith
  at_total k Three = omega arith

  pub total_grown : (k : PerPartition (List X)) (p : Partition) (x : X) → total (grown k p x) ≡ total k + 1
  total_grown k One x = let l = length-append k.one (x ∷ []) in omega arith
  total_grown k Two x = let l = length-append k.two (x ∷ []) in omega arith
  total_grown k Three x = let l = length-append k.three (x ∷ []) in omega arith

  pub length_grown : (k : PerPartition (List X)) (p : Partition) (x : X) → length (at (grown k p x) p)
      ≡ length (at k p) + 1
  length_grown k One x = length-append k.one (x ∷ [])
  length_grown k Two x = length-append k.two (x ∷ [])
  length_grown k Three x = length-append k.three (x ∷ [])

module _ {X Y : Type 0} (f : X → Y) where
  pub total_mapped : (k : PerPartition (List X)) → total (mapped f k) ≡ total k
  total_mapped k =
      let one = length-map k.one f in let two = length-map k.two f in let three = length-map k.three f in omega arith

  pub at_mapped : (k : PerPartition (List X)) (p : Partition) → at (mapped f k) p ≡ map f (at k p)
  at_mapped k One = refl
  at_mapped k Two = refl
  at_mapped k Three = refl

  -- what stands under a number, and the owner's next
  pub under_mapped : (k : PerPartition (List X)) (p : Partition) (n : ℕ) → under (at (mapped f k) p) n
      ≡ option_map f (under (at k p) n)
  under_mapped k p n = ap (λ l. under l n) (at_mapped k p) ∙ under-map (at k p) n
    where
      under-map : (xs : List X) (n : ℕ) → under (map f xs) n ≡ option_map f (under xs n)
      under-map xs zero = refl
      under-map xs (suc n) = slice_get-map f xs n

  pub next_mapped : (owner : Y → ℕ) (k : PerPartition (List X)) (p : Partition) (o above : ℕ)
      → next_of owner (at (mapped f k) p) o above ≡ next_of (λ x. owner (f x)) (at k p) o above
  next_mapped owner k p o above =
      let xs = at k p in
      ap (λ l. next_of owner l o above) (at_mapped k p) ∙ next-from owner (map f xs) o above
      ∙ ap (position_from (λ y. eqb (owner y) o) (above + 1)) (drop-map f above xs)
      ∙ position_from-map (λ y. eqb (owner y) o) (above + 1) (drop above xs) ∙ sym
      (next-from (λ x. owner (f x)) xs o above)
    where
      position_from-map : (p : Y → Bool) (k : ℕ) (xs : List X) → position_from p k (map f xs)
          ≡ position_from (λ x. p (f x)) k xs
      position_from-map p k [] = refl
      position_from-map p k (x ∷ xs) = ap (cond (p (f x)) (Some k)) (position_from-map p (k + 1) xs)
