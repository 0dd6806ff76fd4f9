-- What a change of the table does to the two lists of the book and to the queue. Assumes nothing.
use Rattle.std.specs.Prelude.{◌≡◌, ℕ, zero, suc, ◌+◌, ◌-◌, ◌<◌, ◌≤◌, true, false, cond, List, [], ◌∷◌, ◌++◌, map, length, get_or, take, drop, slice_set, is_some, Some, None, Option, nat_eq, nat_lt, slice_index_or, refl}
use Rattle.std.proofs.Common.{sym, ap, ◌∙◌, inl, inr, arith}
use Rattle.std.proofs.lemmas.List.{drop-append-le, drop_at, drop-drop, drop_more, length-drop, length-map, length-take-le, map_push, drop-map, take-append-le, take_at, take_more}
use Rattle.std.proofs.lemmas.List.Elements.{All-push, All-set, All-cons}
use Rattle.std.proofs.lemmas.Bool.{cases_lt, cond-true, lt-ltb}
use Rattle.std.specs.FinMap.{get, len}
use Rattle.std.specs.List.{All, slice_get, position, remove}
use Rattle.keyed.proofs.Keyed.{position-found}
use Rattle.keyed.proofs.Looks.{distinct_from}
use Rattle.keyed.proofs.Tables as tables
use Rattle.std.specs.Option.{option_map}
use Rattle.keyed.specs.Look.{put}
use Rattle.matching.specs.declared.matcher.Held.{Held}
use Rattle.matching.specs.Meaning.{closed, opened, resized}
use Rattle.limits.specs.declared.TheConstants.{ORDERS}
use Rattle.order_book.specs.declared.order.Order.{Order}
use Rattle.order_book.specs.Books.{booked}
use Rattle.order_book.specs.Orders.{with_quantity}
use Rattle.order_book.specs.Lists.{FoundOrder, all_apart, changed, order_held, order_number, orders_of}
use Rattle.order_book.specs.Rules.{Lists, altered}
use Rattle.order_book.proofs.Changes.{absent, as_long, behind, fewer_numbers, front_absent, in_front, removed_is, rest_absent, same_numbers, set_is, shorter}

abbrev Open : Order → Type 0
Open o = 0 < o.quantity

-- the two lists of a table of which the first k rest
abbrev pub lists : List Order → ℕ → Lists
lists xs k = record { resting = take k xs; waiting = drop k xs }

pub count : (xs : List Order) → all_apart xs ≡ true → len (orders_of xs) ≡ length xs
count xs u = tables.count order_number order_held xs u

pub found : (xs : List Order) (n : ℕ) (r : Option ℕ) → r ≡ position (λ o. nat_eq o.number n) xs → FoundOrder xs n r
found xs n r e = position-found order_number order_held xs n r e

pub found_known : (xs : List Order) (n : ℕ) (r : Option ℕ) → r ≡ position (λ o. nat_eq o.number n) xs → is_some r
    ≡ is_some (get (orders_of xs) n)
found_known xs n r e = tables.known order_number order_held xs n r (found xs n r e)

pub held : (xs : List Order) (i n : ℕ) (o : Order) → FoundOrder xs n (Some i) → o ≡ slice_index_or xs i o
    → get (orders_of xs) n ≡ Some (order_held o)
held xs i n o f read =
    tables.stands_at order_number order_held xs i n o f ∙ ap (λ (x : Order). Some (order_held x)) (sym read)

-- ---- one more at the end

pub add_means : (xs : List Order) (o : Order) → get (orders_of xs) o.number ≡ None
    → booked false false (orders_of (xs ++ o ∷ [])) ≡ opened (booked false false (orders_of xs)) o.number (order_held o)
add_means xs o new = ap (booked false false) (tables.pushed order_number order_held xs o new)

pub add_apart : (xs : List Order) (o : Order) → all_apart xs ≡ true → get (orders_of xs) o.number ≡ None
    → all_apart (xs ++ o ∷ []) ≡ true
add_apart xs o u new = tables.pushed_apart order_number order_held xs o u new

pub add_open : (xs : List Order) (o : Order) → All Open xs → 0 < o.quantity → All Open (xs ++ o ∷ [])
add_open xs o h lt = All-push Open xs o h lt

pub add_turn : (xs : List Order) (k : ℕ) (ns : List ℕ) (o : Order) → ns ≡ map order_number (drop k xs) → k ≤ length xs
    → length xs < ORDERS
    → cond (nat_lt (length ns) ORDERS) (ns ++ o.number ∷ []) ns ≡ map order_number (drop k (xs ++ o ∷ []))
add_turn xs k ns o t le room =
    let e = ap length t ∙ length-map (drop k xs) order_number in
    let d = length-drop k xs in
    cond-true (nat_lt (length ns) ORDERS) _ _ (lt-ltb _ _ (omega arith))
    ∙ ap (λ (l : List ℕ). l ++ o.number ∷ []) t
    ∙ sym (map_push order_number (drop k xs) o)
    ∙ ap (map order_number) (sym (drop-append-le k xs (o ∷ []) le))

-- ---- one order changed

-- the two parts of the table after a change of the order n
pub record Parts (xs ys : List Order) (k k' n : ℕ) (w : Option ℕ) : Type 0 where
  pub front : take k' ys ≡ changed n w (take k xs)
  pub back : drop k' ys ≡ changed n w (drop k xs)

cut : (xs ys f g : List Order) (k k' n : ℕ) (w : Option ℕ) → ys ≡ f ++ g → length f ≡ k' → f ≡ changed n w (take k xs)
    → g ≡ changed n w (drop k xs)
    → Parts xs ys k k' n w
cut xs ys f g k k' n w e long p q = record {
  front = ap (take k') e ∙ take_at f g k' long ∙ p;
  back = ap (drop k') e ∙ drop_at f g k' long ∙ q;
}

removed_front : (xs : List Order) (i k n : ℕ) → all_apart xs ≡ true → FoundOrder xs n (Some i) → i < k → k ≤ length xs
    → Parts xs (remove xs i) k (k - 1) n None
removed_front xs i k n u f lt le =
    let e = shorter xs i k n f lt in
    let t = length-take-le k xs le in
    cut xs (remove xs i) (changed n None (take k xs)) (drop k xs) k (k - 1) n None
    (removed_is xs i n f ∙ sym (in_front None xs i k n f lt)) (omega arith) refl
    (sym (absent n None (drop k xs) (rest_absent xs i k n (distinct_from order_number order_held xs u) f lt)))

removed_back : (xs : List Order) (i k n : ℕ) → FoundOrder xs n (Some i) → k ≤ i → k ≤ length xs
    → Parts xs (remove xs i) k k n None
removed_back xs i k n f ge le =
    cut xs (remove xs i) (take k xs) (changed n None (drop k xs)) k k n None
    (removed_is xs i n f ∙ sym (behind None xs i k n f ge)) (length-take-le k xs le)
    (sym (absent n None (take k xs) (front_absent xs i k n f ge))) refl

set_parts : (xs : List Order) (i k n q : ℕ) (x : Order) → all_apart xs ≡ true → FoundOrder xs n (Some i) → x
    ≡ get_or xs i x → k ≤ length xs
    → Parts xs (slice_set xs i (with_quantity x q)) k k n (Some q)
set_parts xs i k n q x u f read le =
    elim (cases_lt i k) [
      | inl lt ↦
          cut xs (slice_set xs i (with_quantity x q)) (changed n (Some q) (take k xs)) (drop k xs) k k n (Some q)
          (set_is xs i n q x f read ∙ sym (in_front (Some q) xs i k n f lt))
          (as_long n q (take k xs) ∙ length-take-le k xs le) refl
          (sym (absent n (Some q) (drop k xs) (rest_absent xs i k n (distinct_from order_number order_held xs u) f lt)))
      | inr ge ↦
          cut xs (slice_set xs i (with_quantity x q)) (take k xs) (changed n (Some q) (drop k xs)) k k n (Some q)
          (set_is xs i n q x f read ∙ sym (behind (Some q) xs i k n f ge)) (length-take-le k xs le)
          (sym (absent n (Some q) (take k xs) (front_absent xs i k n f ge))) refl
    ]

parts_lists : (xs ys : List Order) (k k' n : ℕ) (w : Option ℕ) → Parts xs ys k k' n w → lists ys k'
    ≡ altered (lists xs k) n w
parts_lists xs ys k k' n w p = let e = p.front in let f = p.back in cc

-- an order gone

pub remove_means : (xs : List Order) (i n : ℕ) → all_apart xs ≡ true → FoundOrder xs n (Some i)
    → booked false false (orders_of (remove xs i)) ≡ closed (booked false false (orders_of xs)) n
remove_means xs i n u f = ap (booked false false) (tables.removed order_number order_held xs i n u f)

pub remove_apart : (xs : List Order) (i : ℕ) → all_apart xs ≡ true → all_apart (remove xs i) ≡ true
remove_apart xs i u = tables.removed_apart order_number order_held xs i u

pub remove_open : (xs : List Order) (i : ℕ) → All Open xs → All Open (remove xs i)
remove_open [] zero h = λ k d lt. absurd (omega arith)
remove_open [] (suc i) h = λ k d lt. absurd (omega arith)
remove_open (x ∷ xs) zero h = λ k d lt. h (suc k) d (omega arith)
remove_open (x ∷ xs) (suc i) h =
    All-cons Open x (remove xs i) (h 0 x (omega arith)) (remove_open xs i (λ k d lt. h (suc k) d (omega arith)))

pub front_lists : (xs : List Order) (i k n : ℕ) → all_apart xs ≡ true → FoundOrder xs n (Some i) → i < k → k ≤ length xs
    → lists (remove xs i) (k - 1) ≡ altered (lists xs k) n None
front_lists xs i k n u f lt le = parts_lists xs (remove xs i) k (k - 1) n None (removed_front xs i k n u f lt le)

pub front_turn : (xs : List Order) (i k n : ℕ) (ns : List ℕ) → all_apart xs ≡ true → FoundOrder xs n (Some i) → i < k
    → k ≤ length xs
    → ns ≡ map order_number (drop k xs) → ns ≡ map order_number (drop (k - 1) (remove xs i))
front_turn xs i k n ns u f lt le t =
    t
    ∙ ap (map order_number)
    (sym ((removed_front xs i k n u f lt le).back ∙ absent n None (drop k xs)
    (rest_absent xs i k n (distinct_from order_number order_held xs u) f lt)))

pub back_lists : (xs : List Order) (i k n : ℕ) → FoundOrder xs n (Some i) → k ≤ i → k ≤ length xs → lists (remove xs i) k
    ≡ altered (lists xs k) n None
back_lists xs i k n f ge le = parts_lists xs (remove xs i) k k n None (removed_back xs i k n f ge le)

pub back_turn : (xs : List Order) (i k n : ℕ) (ns : List ℕ) → FoundOrder xs n (Some i) → k ≤ i → k ≤ length xs → ns
    ≡ map order_number (drop k xs)
    → remove ns (i - k) ≡ map order_number (drop k (remove xs i))
back_turn xs i k n ns f ge le t =
    ap (λ (l : List ℕ). remove l (i - k)) t ∙ fewer_numbers xs i k n f ge ∙ ap (map order_number)
    (sym (removed_back xs i k n f ge le).back)

-- an order with another quantity

own : (xs : List Order) (i n : ℕ) (x : Order) → FoundOrder xs n (Some i) → x ≡ slice_index_or xs i x → x.number ≡ n
own xs i n x f read = ap order_number read ∙ f.2 x

pub set_means : (xs : List Order) (i n q : ℕ) (x : Order) → FoundOrder xs n (Some i) → x ≡ slice_index_or xs i x
    → booked false false (orders_of (slice_set xs i (with_quantity x q))) ≡ resized (booked false false (orders_of xs)) n q
set_means xs i n q x f read =
    ap (booked false false)
    (tables.rewritten order_number order_held xs i n (with_quantity x q) f (own xs i n x f read)
    ∙ ap (λ (w : Option Held). put (orders_of xs) n (option_map (λ (h : Held). record h { quantity = q }) w))
    (sym (held xs i n x f read)))

pub set_apart : (xs : List Order) (i n q : ℕ) (x : Order) → all_apart xs ≡ true → FoundOrder xs n (Some i) → x
    ≡ slice_index_or xs i x
    → all_apart (slice_set xs i (with_quantity x q)) ≡ true
set_apart xs i n q x u f read =
    tables.rewritten_apart order_number order_held xs i n (with_quantity x q) u f (own xs i n x f read)

pub set_open : (xs : List Order) (i q : ℕ) (x : Order) → All Open xs → 0 < q
    → All Open (slice_set xs i (with_quantity x q))
set_open xs i q x h lt = All-set Open xs i (with_quantity x q) lt h

pub set_lists : (xs : List Order) (i k n q : ℕ) (x : Order) → all_apart xs ≡ true → FoundOrder xs n (Some i) → x
    ≡ slice_index_or xs i x → k ≤ length xs
    → lists (slice_set xs i (with_quantity x q)) k ≡ altered (lists xs k) n (Some q)
set_lists xs i k n q x u f read le =
    parts_lists xs (slice_set xs i (with_quantity x q)) k k n (Some q) (set_parts xs i k n q x u f read le)

pub set_turn : (xs : List Order) (i k n q : ℕ) (x : Order) (ns : List ℕ) → all_apart xs ≡ true
    → FoundOrder xs n (Some i) → x ≡ slice_index_or xs i x
    → k ≤ length xs → ns ≡ map order_number (drop k xs) → ns
    ≡ map order_number (drop k (slice_set xs i (with_quantity x q)))
set_turn xs i k n q x ns u f read le t =
    t ∙ sym (ap (map order_number) (set_parts xs i k n q x u f read le).back ∙ same_numbers n q (drop k xs))

-- ---- the oldest waiting order comes to rest

pub head_is : (xs : List Order) (o : Order) → slice_get xs 0 ≡ Some o → xs ≡ o ∷ drop 1 xs
head_is [] o e = absurd (let z : ◌≡◌ {A = ℕ} 0 1 = cc in let no : ⊥ = omega arith in no)
head_is (x ∷ xs) o e = cc

pub rest_less : (xs : List Order) (k : ℕ) (o : Order) → slice_get (drop k xs) 0 ≡ Some o → k + 1 ≤ length xs
rest_less xs k o e =
    let l = ap length (head_is (drop k xs) o e) in
    let d = length-drop k xs in
    omega arith

pub rest_back : (xs : List Order) (k : ℕ) → drop (k + 1) xs ≡ drop 1 (drop k xs)
rest_back xs k = sym (drop-drop 1 k xs)

pub rest_front : (xs : List Order) (k : ℕ) (o : Order) → slice_get (drop k xs) 0 ≡ Some o → take (k + 1) xs ≡ take k xs
    ++ o ∷ []
rest_front xs k o e =
    let l = rest_less xs k o e in
    let lt : k < length xs = omega arith in
    let h : drop k xs ≡ o ∷ drop 1 (drop k xs) = head_is (drop k xs) o e in
    let g : get_or xs k o ∷ drop (k + 1) xs ≡ o ∷ drop 1 (drop k xs) = sym (drop_more xs k o lt) ∙ h in
    let s : get_or xs k o ≡ o = cc in
    take_more xs k o lt ∙ ap (λ (y : Order). take k xs ++ y ∷ []) s

pub rest_turn : (xs : List Order) (k : ℕ) (ns : List ℕ) → ns ≡ map order_number (drop k xs) → drop 1 ns
    ≡ map order_number (drop (k + 1) xs)
rest_turn xs k ns t = ap (drop 1) t ∙ drop-map order_number 1 (drop k xs) ∙ ap (map order_number) (sym (rest_back xs k))
