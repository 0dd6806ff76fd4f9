-- An order with another quantity and price. Assumes nothing.
use Rattle.std.specs.Prelude.{◌≡◌, ℕ, zero, suc, true, false, List, [], ◌∷◌, get_or, take, Some, None, Option}
use Rattle.std.proofs.Common.{eqb, sym, ap, ◌∙◌, arith}
use Rattle.std.proofs.lemmas.List.{take-append-drop}
use Rattle.std.proofs.lemmas.Bool.{cond-true, cond-false, eq-eqb}
use Rattle.std.specs.FinMap.{get}
use Rattle.std.specs.Option.{option_map}
use Rattle.keyed.proofs.Keyed.{put-here, put_over}
use Rattle.keyed.proofs.Looks.{passes}
use Rattle.matching.specs.Meaning.{Meaning, Orders, closed, opened, resized, with_order}
use Rattle.matching.specs.declared.matcher.Held.{Held}
use Rattle.texts.specs.declared.values.Price.{Price}
use Rattle.order_book.specs.declared.order.Order.{Order}
use Rattle.order_book.specs.Orders.{goes_back, with_limit, with_quantity}
use Rattle.order_book.specs.Lists.{FoundOrder, order_held, order_in, order_number}
use Rattle.order_book.specs.Rules.{Lists, altered, amended, entered, order_under}
use Rattle.order_book.proofs.Tables.{lists}

-- the order that is found at a place, as a whole
in_at : (xs : List Order) (i n : ℕ) (y : Order) → FoundOrder xs n (Some i) → y ≡ get_or xs i y → order_in xs n ≡ Some y
in_at [] i n y f read = absurd (let l = f.0 in let z : ⊥ = omega arith in z)
in_at (x ∷ xs) zero n y f read = cond-true (eqb x.number n) _ _ (eq-eqb x.number n (f.2 x)) ∙ ap Some (sym read)
in_at (x ∷ xs) (suc i) n y f read =
    let p = passes order_number order_held x (take i xs) n f.1 in
    cond-false (eqb x.number n) _ _ p.0 ∙ in_at xs i n y (omega arith, p.1, f.2) read

under_at : (xs : List Order) (k i n : ℕ) (y : Order) → FoundOrder xs n (Some i) → y ≡ get_or xs i y
    → order_under (lists xs k) n ≡ Some y
under_at xs k i n y f read = ap (λ (l : List Order). order_in l n) (take-append-drop k xs) ∙ in_at xs i n y f read

-- it goes to the back, or keeps its place
pub goes_to_back : (xs : List Order) (k i n q : ℕ) (p : Price) (o x : Order) (b : Lists) → FoundOrder xs n (Some i) → o
    ≡ get_or xs i o
    → goes_back o q p ≡ true → x ≡ with_limit (with_quantity o q) p → b ≡ altered (lists xs k) n None
    → entered b x ≡ amended (lists xs k) (order_under (lists xs k) n) q p
goes_to_back xs k i n q p o x b f read g r e =
    ap (λ (y : Lists). entered y x) (e ∙ ap (λ (m : ℕ). altered (lists xs k) m None) (sym (ap order_number read ∙ f.2 o)))
    ∙ ap (entered (altered (lists xs k) o.number None)) r
    ∙ sym (ap (λ (w : Option Order). amended (lists xs k) w q p) (under_at xs k i n o f read) ∙ cond-true
    (goes_back o q p) _ _ g)

pub keeps_place : (xs : List Order) (k i n q : ℕ) (p : Price) (o : Order) → FoundOrder xs n (Some i) → o
    ≡ get_or xs i o → goes_back o q p ≡ false
    → altered (lists xs k) n (Some q) ≡ amended (lists xs k) (order_under (lists xs k) n) q p
keeps_place xs k i n q p o f read g =
    ap (λ (m : ℕ). altered (lists xs k) m (Some q)) (sym (ap order_number read ∙ f.2 o))
    ∙ sym (ap (λ (w : Option Order). amended (lists xs k) w q p) (under_at xs k i n o f read) ∙ cond-false
    (goes_back o q p) _ _ g)

-- ended and opened anew under its number, it is an order of another size
pub reopened : (m m' : Meaning) (n q : ℕ) (h h' : Held) → get m.orders n ≡ Some h → h' ≡ record h { quantity = q } → m'
    ≡ closed m n
    → opened m' n h' ≡ resized m n q
reopened m m' n q h h' is e f =
    ap (λ (x : Meaning). opened x n h') f
    ∙ ap (λ (x : Held). opened (closed m n) n x) e
    ∙ ap (λ (os : Orders). record m { orders = os }) (put_over m.orders n None (Some (record h { quantity = q })))
    ∙ ap (λ (w : Option Held). with_order m n (option_map (λ (x : Held). record x { quantity = q }) w)) (sym is)

pub gone : (m m' : Meaning) (n : ℕ) → m' ≡ closed m n → get m'.orders n ≡ None
gone m m' n e = ap (λ (x : Meaning). get x.orders n) e ∙ put-here m.orders n None
