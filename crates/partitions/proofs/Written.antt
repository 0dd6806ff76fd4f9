-- What is true of the thing of each partition after one was written. Assumes nothing.
use Rattle.std.proofs.Common.{◌≡◌, ◌≢◌, refl, sym, subst}
use Rattle.codes.specs.declared.session.Partition.{Partition}
use Rattle.codes.specs.declared.session.Partition.TheVariants.{One, Two, Three}
use Rattle.partitions.specs.PerPartition.{at, with_at}
use Rattle.partitions.specs.declared.per_partition.PerPartition.{PerPartition}

module _ {T : Type 0} where
  pub at_written : (xs : PerPartition T) (q : Partition) (y : T) → at (with_at xs q y) q ≡ y
  at_written xs One y = refl
  at_written xs Two y = refl
  at_written xs Three y = refl

  -- what is true of the thing written, and of those of all others
  pub by_partition : (P : Partition → T → Type 0) (xs : PerPartition T) (q : Partition) (y : T) → P q y
      → ((p : Partition) → (q ≢ p) → P p (at xs p)) → (p : Partition) → P p (at (with_at xs q y) p)
  by_partition P xs One y f g One = f
  by_partition P xs One y f g Two = g Two (λ e. cc)
  by_partition P xs One y f g Three = g Three (λ e. cc)
  by_partition P xs Two y f g One = g One (λ e. cc)
  by_partition P xs Two y f g Two = f
  by_partition P xs Two y f g Three = g Three (λ e. cc)
  by_partition P xs Three y f g One = g One (λ e. cc)
  by_partition P xs Three y f g Two = g Two (λ e. cc)
  by_partition P xs Three y f g Three = f

  -- the same where nothing is asked of the others but what was
  pub or_as_it_was : (P : Partition → T → Type 0) (xs : PerPartition T) (q : Partition) (y : T) → P q y
      → ((p : Partition) → P p (at xs p)) → (p : Partition) → P p (at (with_at xs q y) p)
  or_as_it_was P xs q y f g = by_partition P xs q y f (λ p n. g p)

  -- and of one partition alone
  pub written : (P : Partition → T → Type 0) (xs : PerPartition T) (q p : Partition) (y : T) → (q ≡ p → P p y)
      → P p (at xs p) → P p (at (with_at xs q y) p)
  written P xs q p y f g =
      by_partition (λ r z. r ≡ p → P r z) xs q y (λ e. subst (λ r. P r y) (sym e) (f e))
      (λ r n e. subst (λ r. P r (at xs r)) (sym e) g) p refl
