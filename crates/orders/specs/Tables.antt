-- What the calls of the order table answer. Assumes nothing.
use Rattle.std.specs.Prelude.{◌≡◌, ℕ, ◌+◌, Bool, not, ◌&&◌, List, [], ◌∷◌, ◌++◌, length, Some, None, Ok, Err, Option, Result, ◌==◌, nat_le, count_by, find, reverse, if◌then◌else◌}
use Rattle.std.specs.Str.{bytes_eq}
use Rattle.texts.specs.Bytes.{said}
use Rattle.limits.specs.declared.TheConstants.{ORDERS}
use Rattle.orders.specs.declared.row.Row.{Row}
use Rattle.orders.specs.declared.row.Terms.{Terms}
use Rattle.orders.specs.declared.row.Ask.{Ask}
use Rattle.orders.specs.Rows.{accepted, is_open, orderable}
use Rattle.refusals.specs.declared.Refusal.{Refusal}
use Rattle.refusals.specs.declared.Refusal.TheVariants.{BadTerms, OrdersFull}

-- how many orders have shares open
abbrev pub open_count : List Row → ℕ
open_count rs = count_by is_open rs

-- a row, where it is the owner's
abbrev pub owned : ℕ → Option Row → Option Row
owned o None = None
owned o (Some r) = if r.terms.owner == o then Some r else None

-- whether a row is the owner's and has a text as its current client order id
abbrev pub goes_by : ℕ → List ℕ → Row → Bool
goes_by o c r = r.terms.owner == o && bytes_eq (said r.client.bytes) c

-- the owner's highest-numbered row that goes by a client order id
abbrev pub latest : ℕ → List ℕ → List Row → Option Row
latest o c rs = find (goes_by o c) (reverse rs)

-- whether a day has as many orders as it has room for
abbrev pub is_full : List Row → Bool
is_full rs = nat_le ORDERS (length rs)

-- why no order is added, tried in this order
abbrev pub add_fault : ℕ → List Row → Option Refusal
add_fault q rs =
    if not (orderable q) then Some BadTerms
    else if is_full rs then Some OrdersFull else None

abbrev pub Adds : List Row → Terms → Ask → Result Row Refusal → List Row → Type 0
Adds rs t a (Ok r) rs' = (add_fault a.quantity rs ≡ None) × (r ≡ accepted (length rs + 1) t a) × (rs' ≡ rs ++ r ∷ [])
Adds rs t a (Err e) rs' = (add_fault a.quantity rs ≡ Some e) × (rs' ≡ rs)
