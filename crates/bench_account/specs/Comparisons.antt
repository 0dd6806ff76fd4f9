-- An order on both sides of a line, and how that is written. Assumes nothing.
use Rattle.std.specs.Prelude.{ℕ, Bool, true, false, ◌&&◌, ◌==◌, List, ◌++◌, Some, None, Option, codes, decimal}
use Rattle.bench_account.specs.declared.compared.Compared.{Compared}
use Rattle.bench_account.specs.declared.compared.Seen.{Seen}

abbrev pub agree : Seen → Option Seen → Bool
agree g None = false
agree g (Some f) = (f.status == g.status) && ((f.executed == g.executed) && (f.leaves == g.leaves))

abbrev pub seen_text : Seen → List ℕ
seen_text s =
    (codes "status " ++ (decimal s.status ++ codes " "))
    ++ (codes "executed " ++ (decimal s.executed ++ (codes " open " ++ decimal s.leaves)))

abbrev pub known_text : Option Seen → List ℕ
known_text None = codes "does not know it"
known_text (Some s) = seen_text s

abbrev pub verdict_text : Bool → List ℕ
verdict_text true = codes "they agree"
verdict_text false = codes "not yet"

abbrev pub compared_text : Compared → List ℕ
compared_text c =
    (codes "order " ++ (decimal c.number ++ (codes ": gateway " ++ (seen_text c.gateway ++ codes "; "))))
    ++ (codes "follower " ++ (known_text c.follower ++ (codes "; " ++ verdict_text (agree c.gateway c.follower))))
