-- The numbers of the waiting orders, the oldest first. Assumes nothing.
use Rattle.std.specs.Prelude.{ℕ, List}
use Rattle.queue.specs.Ring.{ring}
use Rattle.order_book.specs.declared.turns.Turns.TheInside.{Inside}

abbrev pub queued : Inside → List ℕ
queued t = ring t.slots t.marks.head t.marks.len
