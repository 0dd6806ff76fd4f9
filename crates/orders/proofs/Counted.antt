-- The sums over rows to which one is added, or of which one is rewritten. Assumes nothing.
use Rattle.std.proofs.Common.{◌≡◌, ℕ, ◌+◌, ◌<◌, ◌≤◌, List, [], ◌∷◌, ◌++◌, length, set, get_or, sym, ap, ◌∙◌, arith}
use Rattle.std.proofs.lemmas.List.Sums.{count_by-le-length, sum_by-append, sum_by-set}
use Rattle.orders.specs.Rows.{is_open}
use Rattle.orders.specs.Sums.{opens, sums, with_row}
use Rattle.orders.specs.Tables.{open_count}
use Rattle.orders.specs.declared.row.Row.{Row}
use Rattle.orders.specs.declared.sums.Sums.{Sums}

count-push : (rs : List Row) (r : Row) → open_count (rs ++ r ∷ []) ≡ open_count rs + opens r
count-push rs r = sum_by-append opens rs (r ∷ []) ∙ omega arith

count-set : (rs : List Row) (i : ℕ) (r d : Row) → i < length rs
    → open_count (set rs i r) + opens (get_or rs i d) ≡ open_count rs + opens r
count-set rs i r d h = sum_by-set opens rs i r d h

-- an order of a row is among those that are open
count-at : (rs : List Row) (i : ℕ) (d : Row) → i < length rs → opens (get_or rs i d) ≤ open_count rs
count-at rs i d h =
    let shut : Row = record (get_or rs i d) { leaves = 0 } in
    let e : open_count (set rs i shut) + opens (get_or rs i d) ≡ open_count rs + 0 = count-set rs i shut d h in
    omega (arith, e)

abbrev made : ℕ → Sums
made n = record { open_orders = n }

pub sums_none : (rs : List Row) (s : Sums) → rs ≡ [] → s ≡ sums [] → s ≡ sums rs
sums_none rs s e k = k ∙ ap sums (sym e)

pub sums_push : (rs rs' : List Row) (r : Row) (s s' : Sums) → s ≡ sums rs → rs' ≡ rs ++ r ∷ [] → s' ≡ with_row r s
    → s' ≡ sums rs'
sums_push rs rs' r s s' h e k =
    let a : s.open_orders ≡ open_count rs = ap (λ (t : Sums). t.open_orders) h in
    let b : open_count rs' ≡ open_count rs + opens r = ap open_count e ∙ count-push rs r in
    let c : s.open_orders + opens r ≡ open_count rs' = omega (arith, a, b) in
    k ∙ ap made c

-- x is the row that stood at the place
pub sums_set : (rs rs' : List Row) (i : ℕ) (x r : Row) (s less s' : Sums) → s ≡ sums rs → i < length rs
    → rs' ≡ set rs i r → x ≡ get_or rs i x → with_row x less ≡ s → s' ≡ with_row r less → s' ≡ sums rs'
sums_set rs rs' i x r s less s' h l e at k m =
    let a : less.open_orders + opens x ≡ open_count rs = ap (λ (t : Sums). t.open_orders) (k ∙ h) in
    let o : opens x ≡ opens (get_or rs i x) = ap opens at in
    let b : open_count rs' + opens (get_or rs i x) ≡ open_count rs + opens r = rw e (count-set rs i r x l) in
    let c : less.open_orders + opens r ≡ open_count rs' = omega (arith, a, b, o) in
    m ∙ ap made c

pub counted_at : (rs : List Row) (i : ℕ) (x : Row) (s : Sums) → s ≡ sums rs → i < length rs → x ≡ get_or rs i x
    → opens x ≤ s.open_orders
counted_at rs i x s h l at =
    let a : s.open_orders ≡ open_count rs = ap (λ (t : Sums). t.open_orders) h in
    let o : opens x ≡ opens (get_or rs i x) = ap opens at in
    let b = count-at rs i x l in
    omega (arith, a, b, o)

pub few_open : (rs : List Row) (s : Sums) (n : ℕ) → s ≡ sums rs → length rs ≤ n → s.open_orders ≤ n
few_open rs s n h l =
    let a : s.open_orders ≡ open_count rs = ap (λ (t : Sums). t.open_orders) h in
    let b = count_by-le-length is_open rs in
    omega (arith, a, b)
