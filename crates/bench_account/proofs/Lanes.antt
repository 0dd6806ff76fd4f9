-- The bytes of messages, cut short. Assumes nothing.
use Rattle.std.proofs.Common.{◌≡◌, ℕ, List, take, sym}
use Rattle.std.specs.Prelude.{map}
use Rattle.std.proofs.lemmas.List.{take-map}

pub cut_short : {X Y : Type 0} (f : X → Y) (n : ℕ) (xs : List X) → map f (take n xs) ≡ take n (map f xs)
cut_short f n xs = sym (take-map f n xs)
