-- The tape's rows and what is open, after each change of one row. Assumes nothing.
use Rattle.std.specs.Prelude.{◌≡◌, ℕ, ◌-◌, ◌<◌, ◌≤◌, true, List, [], ◌∷◌, ◌++◌, length, is_some, Some, None, Option, nat_eq, nat_lt, slice_index_or, slice_set}
use Rattle.std.proofs.Common.{sym, ap, ◌∙◌}
use Rattle.std.proofs.lemmas.Bool.{cond-true, cond-false, lt-ltb, le-ltb}
use Rattle.std.specs.List.{position, remove}
use Rattle.std.specs.FinMap.{get, len}
use Rattle.keyed.specs.Look.{put}
use Rattle.keyed.proofs.Keyed.{position-found}
use Rattle.keyed.proofs.Tables as tables
use Rattle.std.specs.Option.{option_map}
use Rattle.matching.specs.declared.matcher.Held.{Held}
use Rattle.matching.specs.declared.tape.Row.{Row}
use Rattle.matching.specs.Meaning.{Orders, closed, filled, left, opened, resized, with_order}
use Rattle.matching.specs.TapeRows.{FoundRow, all_apart, orders_of, row_held, row_number}
use Rattle.matching.specs.Tapes.{taped}

pub found : (rows : List Row) (n : ℕ) (r : Option ℕ) → r ≡ position (λ row. nat_eq row.number n) rows
    → FoundRow rows n r
found rows n r e = position-found row_number row_held rows n r e

pub found_known : (rows : List Row) (n : ℕ) (r : Option ℕ) → r ≡ position (λ row. nat_eq row.number n) rows
    → is_some r ≡ is_some (get (orders_of rows) n)
found_known rows n r e = tables.known row_number row_held rows n r (found rows n r e)

pub pushed : (rows : List Row) (row : Row) → get (orders_of rows) row.number ≡ None
    → taped (orders_of (rows ++ row ∷ [])) ≡ opened (taped (orders_of rows)) row.number (row_held row)
pushed rows row new = ap taped (tables.pushed row_number row_held rows row new)

pub pushed_apart : (rows : List Row) (row : Row) → all_apart rows ≡ true → get (orders_of rows) row.number ≡ None
    → all_apart (rows ++ row ∷ []) ≡ true
pushed_apart rows row u new = tables.pushed_apart row_number row_held rows row u new

pub removed : (rows : List Row) (i n : ℕ) → all_apart rows ≡ true → FoundRow rows n (Some i)
    → taped (orders_of (remove rows i)) ≡ closed (taped (orders_of rows)) n
removed rows i n u f = ap taped (tables.removed row_number row_held rows i n u f)

pub removed_apart : (rows : List Row) (i : ℕ) → all_apart rows ≡ true → all_apart (remove rows i) ≡ true
removed_apart rows i u = tables.removed_apart row_number row_held rows i u

pub held : (rows : List Row) (i n : ℕ) (row : Row) → FoundRow rows n (Some i) → row ≡ slice_index_or rows i row
    → get (orders_of rows) n ≡ Some (row_held row)
held rows i n row f read =
    tables.stands_at row_number row_held rows i n row f ∙ ap (λ (x : Row). Some (row_held x)) (sym read)

-- the row at a place with another quantity
abbrev pub with_quantity : Row → ℕ → Row
with_quantity row q = record { number = row.number; instrument = row.instrument; quantity = q }

own : (rows : List Row) (i n : ℕ) (row : Row) → FoundRow rows n (Some i) → row ≡ slice_index_or rows i row → row.number
    ≡ n
own rows i n row f read = ap row_number read ∙ f.2 row

pub requantified : (rows : List Row) (i n q : ℕ) (row : Row) → FoundRow rows n (Some i)
    → row ≡ slice_index_or rows i row
    → taped (orders_of (slice_set rows i (with_quantity row q))) ≡ resized (taped (orders_of rows)) n q
requantified rows i n q row f read =
    ap taped
    (tables.rewritten row_number row_held rows i n (with_quantity row q) f (own rows i n row f read)
    ∙ ap (λ (w : Option Held). put (orders_of rows) n (option_map (λ (h : Held). record h { quantity = q }) w))
    (sym (held rows i n row f read)))

pub requantified_apart : (rows : List Row) (i n q : ℕ) (row : Row) → all_apart rows ≡ true → FoundRow rows n (Some i)
    → row ≡ slice_index_or rows i row
    → all_apart (slice_set rows i (with_quantity row q)) ≡ true
requantified_apart rows i n q row u f read =
    tables.rewritten_apart row_number row_held rows i n (with_quantity row q) u f (own rows i n row f read)

pub count : (rows : List Row) → all_apart rows ≡ true → len (orders_of rows) ≡ length rows
count rows u = tables.count row_number row_held rows u

-- what is left of an order of which a quantity is traded
pub filled_part : (os : Orders) (n q : ℕ) (h : Held) → get os n ≡ Some h → q < h.quantity
    → resized (taped os) n (h.quantity - q) ≡ filled (taped os) q (Some n)
filled_part os n q h is lt =
    let f = λ (w : Option Held). with_order (taped os) n
    (option_map (λ (x : Held). record x { quantity = h.quantity - q }) w) in
    let g = λ (w : Option Held). with_order (taped os) n (left q w) in
    ap f is ∙ sym (ap g is ∙ ap (with_order (taped os) n) (cond-true (nat_lt q h.quantity) _ _ (lt-ltb _ _ lt)))

pub filled_whole : (os : Orders) (n q : ℕ) (h : Held) → get os n ≡ Some h → h.quantity ≤ q → closed (taped os) n
    ≡ filled (taped os) q (Some n)
filled_whole os n q h is le =
    let g = λ (w : Option Held). with_order (taped os) n (left q w) in
    sym (ap g is ∙ ap (with_order (taped os) n) (cond-false (nat_lt q h.quantity) _ _ (le-ltb _ _ le)))
