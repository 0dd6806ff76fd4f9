-- A follower reads each report that is kept from its message. Assumes nothing.
use Rattle.std.specs.Prelude.{ℕ}
use Rattle.codes.specs.declared.session.Partition.{Partition}
use Rattle.store.specs.Kept.{Kept}
use Rattle.store.specs.Messages.{StoredTold}

abbrev pub AllTold : Kept → Type 0
AllTold k = (p : Partition) (n : ℕ) → StoredTold k p n
