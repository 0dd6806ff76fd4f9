use Rattle.std.proofs.Common.{◌≡◌, ◌+◌, ◌≤◌, ◌∷◌, ◌++◌, length, take, drop, replicate}
use Rattle.texts.specs.Identifiers.{base62}
use Rattle.texts.proofs.identifiers.write_id.Given as goal

abbrev pub invariant-loop-k : goal.invariant-loop-k
invariant-loop-k l =
    (l.k ≤ 11) × (length l.out ≡ 12) × (take (l.k + 1) l.out ≡ l.letter ∷ replicate l.k 48)
    × (base62 11 l.number ≡ base62 l.k l.n ++ drop (l.k + 1) l.out)

abbrev pub decreases-loop-k : goal.decreases-loop-k
decreases-loop-k l = l.k
