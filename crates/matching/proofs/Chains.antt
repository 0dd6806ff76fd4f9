-- Calls after calls. Assumes nothing.
use Rattle.std.proofs.Common.{List, [], ◌∷◌, ◌++◌, sym, subst}
use Rattle.matching.specs.Asked.{Asked, Asks}

pub asks-append : {M : Type 0} (did : M → Asked → M → Type 0) (xs ys : List Asked) (a b c : M) → Asks did xs a b
    → Asks did ys b c → Asks did (xs ++ ys) a c
asks-append did [] ys a b c f g = subst (λ x. Asks did ys x c) f g
asks-append did (x ∷ xs) ys a b c (m, one, rest) g = (m, one, asks-append did xs ys m b c rest g)
