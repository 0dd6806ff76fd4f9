-- What a dark book means. Assumes nothing.
use Rattle.std.specs.Prelude.{◌≡◌, ℕ, ◌≤◌, Bool, true, false, List, None, Option, slice_set}
use Rattle.std.specs.FinMap.{len}
use Rattle.dark_book.specs.Rules.{next}
use Rattle.dark_book.specs.declared.book.DarkBook.{DarkBook}
use Rattle.matching.specs.Asked.{Asked, Enter, Cancel, Amend, Next}
use Rattle.matching.specs.Meaning.{Meaning, Orders}
use Rattle.order_book.specs.Books.{booked, bounded, lists_of, open_in}
use Rattle.order_book.specs.Rules.{Lists, altered, amended, entered, order_of, order_under}
use Rattle.texts.specs.declared.values.Price.{Price}

abbrev pub dark : DarkBook → Lists
dark b = lists_of b.orders

-- each instrument's midpoint, if it has one
abbrev pub midpoints : DarkBook → List (Option Price)
midpoints b = b.rule.prices

-- such orders, of the dark midpoint book
abbrev pub darkened : Orders → Meaning
darkened os = booked true false os

abbrev pub dark_meaning : DarkBook → Meaning
dark_meaning b = darkened (open_in b.orders)

-- both lists after a call, by the rules of the book
abbrev pub Moves : DarkBook → Asked → DarkBook → Type 0
Moves b (Enter n t) c = dark c ≡ entered (dark b) (order_of n t)
Moves b (Cancel n) c = dark c ≡ altered (dark b) n None
Moves b (Amend n q p) c = dark c ≡ amended (dark b) (order_under (dark b) n) q p
Moves b (Next e) c = (e ≡ (next (midpoints b) (dark b)).0) × (dark c ≡ (next (midpoints b) (dark b)).1)

-- what comes of a call: the midpoints stay
abbrev pub DarkDid : DarkBook → Asked → DarkBook → Type 0
DarkDid b x c = Moves b x c × (midpoints c ≡ midpoints b)

-- a midpoint that is taken stands in place of the one before, one that is not changes none; and all orders stay
abbrev pub told : List (Option Price) → ℕ → Option Price → Bool → List (Option Price)
told ms i p true = slice_set ms i p
told ms i p false = ms

abbrev pub DarkLearns : DarkBook → ℕ → Option Price → Bool → DarkBook → Type 0
DarkLearns b i p taken c = (midpoints c ≡ told (midpoints b) i p taken) × (dark c ≡ dark b)

-- no more orders are open than it takes
pub dark_bounded : (b : DarkBook) → len (dark_meaning b).orders ≤ (dark_meaning b).capacity
dark_bounded b = bounded b.orders
