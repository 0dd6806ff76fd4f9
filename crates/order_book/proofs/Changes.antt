-- One order of a list changed, by its place and by its number. Assumes nothing.
use Rattle.std.proofs.Common.{◌≡◌, ℕ, zero, suc, ◌+◌, ◌-◌, ◌<◌, ◌≤◌, Bool, true, false, cond, eqb, List, [], ◌∷◌, ◌++◌, map, length, get_or, take, drop, set, Some, None, Option, sym, refl, ap, ◌∙◌, arith}
use Rattle.std.proofs.lemmas.List.{append_assoc, take-append-drop}
use Rattle.std.proofs.lemmas.Bool.{cond-true, cond-false, eq-eqb}
use Rattle.std.specs.List.{remove}
use Rattle.keyed.specs.Look.{look, Distinct}
use Rattle.keyed.proofs.Looks.{look_past, passes}
use Rattle.matching.specs.declared.matcher.Held.{Held}
use Rattle.order_book.specs.declared.order.Order.{Order}
use Rattle.order_book.specs.Orders.{with_quantity}
use Rattle.order_book.specs.Lists.{FoundOrder, changed, order_held, order_number, remains}

abbrev pub at : List Order → ℕ → Option Held
at os n = look order_number order_held os n

-- one order further
past : (x : Order) (xs : List Order) (i n : ℕ) → FoundOrder (x ∷ xs) n (Some (suc i)) → (eqb x.number n ≡ false)
    × FoundOrder xs n (Some i)
past x xs i n (l, k, is) =
    let p = passes order_number order_held x (take i xs) n k in
    (p.0, (omega arith, p.1, is))

here : (x : Order) (xs : List Order) (n : ℕ) → FoundOrder (x ∷ xs) n (Some zero) → eqb x.number n ≡ true
here x xs n (l, k, is) = eq-eqb x.number n (is x)

pub absent : (n : ℕ) (w : Option ℕ) (xs : List Order) → at xs n ≡ None → changed n w xs ≡ xs
absent n w [] h = refl
absent n w (x ∷ xs) h =
    let p = passes order_number order_held x xs n h in
    cond-false (eqb x.number n) _ _ p.0 ∙ ap (λ (l : List Order). x ∷ l) (absent n w xs p.1)

-- by its place
pub removed_is : (xs : List Order) (i n : ℕ) → FoundOrder xs n (Some i) → remove xs i ≡ changed n None xs
removed_is [] i n f = absurd (let l = f.0 in let z : ⊥ = omega arith in z)
removed_is (x ∷ xs) zero n f = sym (cond-true (eqb x.number n) _ _ (here x xs n f))
removed_is (x ∷ xs) (suc i) n f =
    let p = past x xs i n f in
    ap (λ (l : List Order). x ∷ l) (removed_is xs i n p.1) ∙ sym (cond-false (eqb x.number n) _ _ p.0)

pub set_is : (xs : List Order) (i n q : ℕ) (y : Order) → FoundOrder xs n (Some i) → y ≡ get_or xs i y
    → set xs i (with_quantity y q) ≡ changed n (Some q) xs
set_is [] i n q y f read = absurd (let l = f.0 in let z : ⊥ = omega arith in z)
set_is (x ∷ xs) zero n q y f read =
    ap (λ (o : Order). with_quantity o q ∷ xs) read ∙ sym (cond-true (eqb x.number n) _ _ (here x xs n f))
set_is (x ∷ xs) (suc i) n q y f read =
    let p = past x xs i n f in
    ap (λ (l : List Order). x ∷ l) (set_is xs i n q y p.1 read) ∙ sym (cond-false (eqb x.number n) _ _ p.0)

-- in the front part of a list, or in the rest
pub in_front : (w : Option ℕ) (xs : List Order) (i k n : ℕ) → FoundOrder xs n (Some i) → i < k
    → changed n w (take k xs) ++ drop k xs ≡ changed n w xs
in_front w [] i k n f lt = absurd (let l = f.0 in let z : ⊥ = omega arith in z)
in_front w (x ∷ xs) i zero n f lt = absurd (let z : ⊥ = omega arith in z)
in_front w (x ∷ xs) zero (suc k) n f lt =
    let e = here x xs n f in
    ap (λ (l : List Order). l ++ drop k xs) (cond-true (eqb x.number n) (remains x w ++ take k xs)
    (x ∷ changed n w (take k xs)) e)
    ∙ append_assoc (remains x w) (take k xs) (drop k xs)
    ∙ ap (λ (l : List Order). remains x w ++ l) (take-append-drop k xs)
    ∙ sym (cond-true (eqb x.number n) (remains x w ++ xs) (x ∷ changed n w xs) e)
in_front w (x ∷ xs) (suc i) (suc k) n f lt =
    let p = past x xs i n f in
    ap (λ (l : List Order). l ++ drop k xs) (cond-false (eqb x.number n) (remains x w ++ take k xs)
    (x ∷ changed n w (take k xs)) p.0)
    ∙ ap (λ (l : List Order). x ∷ l) (in_front w xs i k n p.1 (omega arith))
    ∙ sym (cond-false (eqb x.number n) (remains x w ++ xs) (x ∷ changed n w xs) p.0)

pub behind : (w : Option ℕ) (xs : List Order) (i k n : ℕ) → FoundOrder xs n (Some i) → k ≤ i → take k xs
    ++ changed n w (drop k xs) ≡ changed n w xs
behind w xs i zero n f le = refl
behind w [] i (suc k) n f le = absurd (let l = f.0 in let z : ⊥ = omega arith in z)
behind w (x ∷ xs) zero (suc k) n f le = absurd (let z : ⊥ = omega arith in z)
behind w (x ∷ xs) (suc i) (suc k) n f le =
    let p = past x xs i n f in
    ap (λ (l : List Order). x ∷ l) (behind w xs i k n p.1 (omega arith))
    ∙ sym (cond-false (eqb x.number n) (remains x w ++ xs) (x ∷ changed n w xs) p.0)

drop_absent : (xs : List Order) (k n : ℕ) → at xs n ≡ None → at (drop k xs) n ≡ None
drop_absent xs zero n h = h
drop_absent [] (suc k) n h = refl
drop_absent (x ∷ xs) (suc k) n h =
    drop_absent xs k n (passes order_number order_held x xs n h).1

-- numbers are apart, so the other part has no such order
pub rest_absent : (xs : List Order) (i k n : ℕ) → Distinct order_number order_held xs → FoundOrder xs n (Some i)
    → i < k → at (drop k xs) n ≡ None
rest_absent [] i k n u f lt = absurd (let l = f.0 in let z : ⊥ = omega arith in z)
rest_absent (x ∷ xs) i zero n u f lt = absurd (let z : ⊥ = omega arith in z)
rest_absent (x ∷ xs) zero (suc k) n u f lt = drop_absent xs k n (ap (at xs) (sym (f.2 x)) ∙ u.0)
rest_absent (x ∷ xs) (suc i) (suc k) n u f lt = rest_absent xs i k n u.1 (past x xs i n f).1 (omega arith)

pub front_absent : (xs : List Order) (i k n : ℕ) → FoundOrder xs n (Some i) → k ≤ i → at (take k xs) n ≡ None
front_absent xs i zero n f le = refl
front_absent [] i (suc k) n f le = refl
front_absent (x ∷ xs) zero (suc k) n f le = absurd (let z : ⊥ = omega arith in z)
front_absent (x ∷ xs) (suc i) (suc k) n f le =
    let p = past x xs i n f in
    look_past order_number order_held x (take k xs) n p.0 ∙ front_absent xs i k n p.1 (omega arith)

pub shorter : (xs : List Order) (i k n : ℕ) → FoundOrder xs n (Some i) → i < k
    → length (changed n None (take k xs)) + 1 ≡ length (take k xs)
shorter [] i k n f lt = absurd (let l = f.0 in let z : ⊥ = omega arith in z)
shorter (x ∷ xs) i zero n f lt = absurd (let z : ⊥ = omega arith in z)
shorter (x ∷ xs) zero (suc k) n f lt =
    let e = ap length (cond-true (eqb x.number n) (remains x None ++ take k xs) (x ∷ changed n None (take k xs))
    (here x xs n f)) in
    omega arith
shorter (x ∷ xs) (suc i) (suc k) n f lt =
    let p = past x xs i n f in
    let e = ap length (cond-false (eqb x.number n) (remains x None ++ take k xs)
    (x ∷ changed n None (take k xs)) p.0) in
    let h = shorter xs i k n p.1 (omega arith) in
    omega arith

pub as_long : (n q : ℕ) (xs : List Order) → length (changed n (Some q) xs) ≡ length xs
as_long n q [] = refl
as_long n q (x ∷ xs) = go (eqb x.number n) (as_long n q xs)
  where
    go : (b : Bool) → length (changed n (Some q) xs) ≡ length xs
        → length (cond b (remains x (Some q) ++ xs) (x ∷ changed n (Some q) xs)) ≡ length (x ∷ xs)
    go true h = refl
    go false h = ap suc h

-- the numbers of the orders
pub same_numbers : (n q : ℕ) (xs : List Order) → map order_number (changed n (Some q) xs) ≡ map order_number xs
same_numbers n q [] = refl
same_numbers n q (x ∷ xs) = go (eqb x.number n) (same_numbers n q xs)
  where
    go : (b : Bool) → map order_number (changed n (Some q) xs) ≡ map order_number xs
        → map order_number (cond b (remains x (Some q) ++ xs) (x ∷ changed n (Some q) xs)) ≡ map order_number (x ∷ xs)
    go true h = refl
    go false h = ap (λ (l : List ℕ). x.number ∷ l) h

one_less : (xs : List Order) (i n : ℕ) → FoundOrder xs n (Some i) → remove (map order_number xs) i
    ≡ map order_number (changed n None xs)
one_less [] i n f = absurd (let l = f.0 in let z : ⊥ = omega arith in z)
one_less (x ∷ xs) zero n f =
    sym (ap (map order_number) (cond-true (eqb x.number n) xs (x ∷ changed n None xs) (here x xs n f)))
one_less (x ∷ xs) (suc i) n f =
    let p = past x xs i n f in
    ap (λ (l : List ℕ). x.number ∷ l) (one_less xs i n p.1)
    ∙ sym (ap (map order_number) (cond-false (eqb x.number n) xs (x ∷ changed n None xs) p.0))

pub fewer_numbers : (xs : List Order) (i k n : ℕ) → FoundOrder xs n (Some i) → k ≤ i
    → remove (map order_number (drop k xs)) (i - k) ≡ map order_number (changed n None (drop k xs))
fewer_numbers xs i zero n f le = ap (remove (map order_number xs)) (omega arith) ∙ one_less xs i n f
fewer_numbers [] i (suc k) n f le = absurd (let l = f.0 in let z : ⊥ = omega arith in z)
fewer_numbers (x ∷ xs) zero (suc k) n f le = absurd (let z : ⊥ = omega arith in z)
fewer_numbers (x ∷ xs) (suc i) (suc k) n f le =
    ap (remove (map order_number (drop k xs))) (omega arith) ∙ fewer_numbers xs i k n (past x xs i n f).1 (omega arith)
