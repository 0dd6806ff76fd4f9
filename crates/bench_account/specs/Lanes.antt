-- The messages of a channel that a script plays. Assumes nothing.
use Rattle.std.specs.Prelude.{ℕ, ◌-◌, ◌||◌, if◌then◌else◌, List, map, Some, None, Option, nat_lt, ◌==◌, slice_get, Vec}
use Rattle.std.specs.Borrow.{Bor}
use Rattle.std.specs.declared.alloc.Global.{Global}

-- each message as its bytes
abbrev pub texts : List (Vec ℕ Global) → List (List ℕ)
texts messages = map (λ m. m.items) messages

-- of what has come, the last for 1, the one before it for 2
abbrev pub again : List (List ℕ) → ℕ → ℕ → Option (List ℕ)
again messages came back = if (back == 0) || nat_lt came back then None else slice_get messages (came - back)

abbrev pub now_of : Option (Bor (List ℕ)) → Option (List ℕ)
now_of None = None
now_of (Some m) = Some m.now
