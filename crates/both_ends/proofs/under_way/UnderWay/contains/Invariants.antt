use Rattle.std.proofs.Common.{◌≡◌, ℕ, List, Bor, map}
use Rattle.std.specs.List.{list_any}
use Rattle.std.specs.Str.{bytes_eq}
use Rattle.std.specs.VecDeque.Iter.{deque_iter_rest}
use Rattle.both_ends.proofs.under_way.UnderWay.contains.Given as goal

abbrev pub invariant-loop-other : goal.invariant-loop-other
invariant-loop-other l =
    list_any (bytes_eq l.message) l.self ≡ list_any (bytes_eq l.message)
    (map (λ (x : Bor (List ℕ)). x.now) (deque_iter_rest l.other-iterator))
