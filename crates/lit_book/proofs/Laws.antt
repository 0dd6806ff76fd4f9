-- The laws of the book, said of its next event. Assumes nothing.
use Rattle.std.specs.Prelude.{◌≡◌, ℕ, true, ◌++◌}
use Rattle.std.proofs.Common.{sym, subst, arith}
use Rattle.matching.specs.declared.event.Event.{Event}
use Rattle.order_book.specs.Laws.{open_orders}
use Rattle.order_book.specs.Lists.{all_apart}
use Rattle.order_book.specs.Rules.{Lists}
use Rattle.order_book.proofs.Ends as ends
use Rattle.lit_book.specs.Keeping.{lit_keeps}
use Rattle.lit_book.specs.Laws.{Enough, Served, Uncrossed}
use Rattle.lit_book.specs.Lists.{settled}
use Rattle.lit_book.specs.Rules.{lit_rule, next}
use Rattle.lit_book.proofs.Passing.{served_next, uncrossed_rest}

pub served : (b : Lists) (e : Event) → all_apart (b.resting ++ b.waiting) ≡ true → settled b.resting ≡ true
    → e ≡ (next b).0 → Served b e
served b e u q f = subst (Served b) (sym f) (served_next b u q)

pub uncrossed : (b : Lists) → settled b.resting ≡ true → Uncrossed b.resting
uncrossed b q = uncrossed_rest b.resting q

pub enough : (b : Lists) (n : ℕ) → n ≡ open_orders b → Enough n b
enough b n e = ends.enough lit_rule lit_keeps n b (omega arith)
