-- What a store of bytes keeps, over any form of bytes. Assumes nothing.
use Rattle.std.specs.Prelude.{ℕ, vec_items, vec_len}
use Rattle.partitions.specs.Series.{total, mapped}
use Rattle.store.specs.Kept.{Kept}
use Rattle.byte_store.specs.declared.buffered.Buffered.{Buffered}
use Rattle.byte_store.specs.declared.codec.Codec.{Ghosts as Coding}
use Rattle.byte_store.specs.Places.{entry_in, free_places}

module _ {C : Type 0} {c : Coding C} where
  abbrev pub kept_in : Buffered C c → Kept
  kept_in s = mapped (entry_in c.decoded (vec_items s.buffer)) s.places

  abbrev pub free_in : Buffered C c → ℕ
  free_in s = free_places s.size (vec_len s.buffer) (total s.places)
