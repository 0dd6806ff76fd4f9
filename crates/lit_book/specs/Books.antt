-- What a lit book means. Assumes nothing.
use Rattle.std.specs.Prelude.{◌≡◌, ◌≤◌, true, false, None}
use Rattle.std.specs.FinMap.{len}
use Rattle.lit_book.specs.Rules.{next}
use Rattle.lit_book.specs.declared.book.LitBook.{LitBook}
use Rattle.matching.specs.Asked.{Asked, Enter, Cancel, Amend, Next}
use Rattle.matching.specs.Meaning.{Meaning, Orders}
use Rattle.order_book.specs.Books.{booked, bounded, lists_of, open_in}
use Rattle.order_book.specs.Rules.{Lists, altered, amended, entered, order_of, order_under}

abbrev pub lit : LitBook → Lists
lit b = lists_of b.orders

-- such orders, of the integrated book
abbrev pub lit_up : Orders → Meaning
lit_up os = booked false true os

abbrev pub lit_meaning : LitBook → Meaning
lit_meaning b = lit_up (open_in b.orders)

-- what comes of a call, by the rules of the book
abbrev pub LitDid : LitBook → Asked → LitBook → Type 0
LitDid b (Enter n t) c = lit c ≡ entered (lit b) (order_of n t)
LitDid b (Cancel n) c = lit c ≡ altered (lit b) n None
LitDid b (Amend n q p) c = lit c ≡ amended (lit b) (order_under (lit b) n) q p
LitDid b (Next e) c = (e ≡ (next (lit b)).0) × (lit c ≡ (next (lit b)).1)

-- no more orders are open than it takes
pub lit_bounded : (b : LitBook) → len (lit_meaning b).orders ≤ (lit_meaning b).capacity
lit_bounded b = bounded b.orders
