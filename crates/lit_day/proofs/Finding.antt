-- Who is found under a number, in a book's two lists and after a change of them. Assumes nothing.
use Rattle.std.proofs.Common.{◌≡◌, ℕ, Bool, true, false, cond, eqb, List, [], ◌∷◌, ◌++◌, Some, None, Option, refl, sym, ap, ◌∙◌}
use Rattle.std.proofs.lemmas.Bool.{cond-false, cond-true, eq-eqb, eqb-true, ne_eqb}
use Rattle.std.proofs.lemmas.List.{append_assoc}
use Rattle.std.proofs.lemmas.List.Folds.{find-append}
use Rattle.std.specs.Option.{option_map, option_or}
use Rattle.keyed.proofs.Under.{none-some}
use Rattle.keyed.specs.Look.{Distinct, look}
use Rattle.order_book.specs.Lists.{changed, order_held, order_in, order_number, remains}
use Rattle.order_book.specs.Orders.{with_quantity}
use Rattle.order_book.specs.Rules.{Lists, altered, entered, order_under}
use Rattle.order_book.specs.declared.order.Order.{Order}

-- ---- in one list behind another

pub both : (xs ys : List Order) (n : ℕ) → order_in (xs ++ ys) n ≡ option_or (order_in xs n) (order_in ys n)
both xs ys n = find-append (λ (o : Order). eqb o.number n) xs ys

none_first : (o p : Option Order) → option_or o p ≡ None → o ≡ None
none_first None p h = refl
none_first (Some x) p h = h

-- ---- a number that at most one order has

abbrev pub Once : ℕ → List Order → Type 0
Once n [] = Unit {0}
Once n (x ∷ xs) = (x.number ≡ n → order_in xs n ≡ None) × Once n xs

none_mapped : (o : Option Order) → option_map order_held o ≡ None → o ≡ None
none_mapped None h = refl
none_mapped (Some x) h = none-some (order_held x) (sym h)

pub once : (n : ℕ) (xs : List Order) → Distinct order_number order_held xs → Once n xs
once n [] u = tt
once n (x ∷ xs) u =
    ((λ e. none_mapped (order_in xs n) (ap (look order_number order_held xs) (sym e) ∙ u.0)), once n xs u.1)

pub once_front : (n : ℕ) (xs ys : List Order) → Once n (xs ++ ys) → Once n xs
once_front n [] ys u = tt
once_front n (x ∷ xs) ys u =
    ((λ e. none_first (order_in xs n) (order_in ys n) (sym (both xs ys n) ∙ u.0 e)), once_front n xs ys u.1)

once_back : (n : ℕ) (xs ys : List Order) → Once n (xs ++ ys) → Once n ys
once_back n [] ys u = u
once_back n (x ∷ xs) ys u = once_back n xs ys u.1

-- so of a book
pub record OnceIn (n : ℕ) (b : Lists) : Type 0 where
  pub resting : Once n b.resting
  pub waiting : Once n b.waiting

pub once_in : (n : ℕ) (b : Lists) → Once n (b.resting ++ b.waiting) → OnceIn n b
once_in n b u = record {
  resting = once_front n b.resting b.waiting u;
  waiting = once_back n b.resting b.waiting u;
}

-- such an order is found where it stands
pub mid : (o : Order) (xs ys : List Order) → Once o.number (xs ++ o ∷ ys)
    → order_in (xs ++ o ∷ ys) o.number ≡ Some o
mid o [] ys u = cond-true (eqb o.number o.number) _ _ (eq-eqb o.number o.number refl)
mid o (x ∷ xs) ys u = go (eqb x.number o.number) refl (mid o xs ys u.1)
  where
    go : (b : Bool) → eqb x.number o.number ≡ b → order_in (xs ++ o ∷ ys) o.number ≡ Some o
        → cond b (Some x) (order_in (xs ++ o ∷ ys) o.number) ≡ Some o
    go true e h = none-some o (sym (u.0 (eqb-true _ _ e)) ∙ h)
    go false e h = h

-- ---- one order of a list changed

pub other : (n m : ℕ) (w : Option ℕ) (xs : List Order) → (n ≡ m → ⊥)
    → order_in (changed n w xs) m ≡ order_in xs m
other n m w [] ne = refl
other n m w (x ∷ xs) ne = go w (eqb x.number n) refl (other n m w xs ne)
  where
    no : eqb x.number n ≡ true → eqb x.number m ≡ false
    no e = ne_eqb x.number m (λ f. ne (sym (eqb-true x.number n e) ∙ f))

    go : (v : Option ℕ) (b : Bool) → eqb x.number n ≡ b → order_in (changed n v xs) m ≡ order_in xs m
        → order_in (cond b (remains x v ++ xs) (x ∷ changed n v xs)) m ≡ order_in (x ∷ xs) m
    go None true e h = sym (cond-false (eqb x.number m) _ _ (no e))
    go (Some q) true e h = cond-false (eqb x.number m) _ _ (no e) ∙ sym (cond-false (eqb x.number m) _ _ (no e))
    go v false e h = ap (cond (eqb x.number m) (Some x)) h

resized : (n q : ℕ) (xs : List Order)
    → order_in (changed n (Some q) xs) n ≡ option_map (λ o. with_quantity o q) (order_in xs n)
resized n q [] = refl
resized n q (x ∷ xs) = go (eqb x.number n) refl (resized n q xs)
  where
    go : (b : Bool) → eqb x.number n ≡ b
        → order_in (changed n (Some q) xs) n ≡ option_map (λ o. with_quantity o q) (order_in xs n)
        → order_in (cond b (remains x (Some q) ++ xs) (x ∷ changed n (Some q) xs)) n
        ≡ option_map (λ o. with_quantity o q) (cond b (Some x) (order_in xs n))
    go true e h = cond-true (eqb x.number n) _ _ e
    go false e h = cond-false (eqb x.number n) _ _ e ∙ h

gone : (n : ℕ) (xs : List Order) → Once n xs → order_in (changed n None xs) n ≡ None
gone n [] u = refl
gone n (x ∷ xs) u = go (eqb x.number n) refl (gone n xs u.1)
  where
    go : (b : Bool) → eqb x.number n ≡ b → order_in (changed n None xs) n ≡ None
        → order_in (cond b (remains x None ++ xs) (x ∷ changed n None xs)) n ≡ None
    go true e h = u.0 (eqb-true x.number n e)
    go false e h = cond-false (eqb x.number n) _ _ e ∙ h

once_other : (n m : ℕ) (w : Option ℕ) (xs : List Order) → (n ≡ m → ⊥) → Once m xs → Once m (changed n w xs)
once_other n m w [] ne u = tt
once_other n m w (x ∷ xs) ne u = go w (eqb x.number n) (once_other n m w xs ne u.1)
  where
    go : (v : Option ℕ) (b : Bool) → Once m (changed n v xs)
        → Once m (cond b (remains x v ++ xs) (x ∷ changed n v xs))
    go None true h = u.1
    go (Some q) true h = (u.0, u.1)
    go v false h = ((λ e. other n m v xs ne ∙ u.0 e), h)

-- ---- and of a book

pub altered_other : (b : Lists) (n m : ℕ) (w : Option ℕ) → (n ≡ m → ⊥)
    → order_under (altered b n w) m ≡ order_under b m
altered_other b n m w ne =
    both _ _ m
    ∙ ap (λ o. option_or o (order_in (changed n w b.waiting) m)) (other n m w b.resting ne)
    ∙ ap (option_or (order_in b.resting m)) (other n m w b.waiting ne)
    ∙ sym (both b.resting b.waiting m)

or_mapped : (q : ℕ) (o p : Option Order)
    → option_or (option_map (λ (x : Order). with_quantity x q) o) (option_map (λ (x : Order). with_quantity x q) p)
    ≡ option_map (λ (x : Order). with_quantity x q) (option_or o p)
or_mapped q None p = refl
or_mapped q (Some x) p = refl

pub altered_some : (b : Lists) (n q : ℕ)
    → order_under (altered b n (Some q)) n ≡ option_map (λ o. with_quantity o q) (order_under b n)
altered_some b n q =
    both _ _ n
    ∙ ap (λ o. option_or o (order_in (changed n (Some q) b.waiting) n)) (resized n q b.resting)
    ∙ ap (option_or (option_map (λ (x : Order). with_quantity x q) (order_in b.resting n))) (resized n q b.waiting)
    ∙ or_mapped q (order_in b.resting n) (order_in b.waiting n)
    ∙ ap (option_map (λ (x : Order). with_quantity x q)) (sym (both b.resting b.waiting n))

pub altered_none : (b : Lists) (n : ℕ) → OnceIn n b → order_under (altered b n None) n ≡ None
altered_none b n u =
    both _ _ n
    ∙ ap (λ o. option_or o (order_in (changed n None b.waiting) n)) (gone n b.resting u.resting)
    ∙ gone n b.waiting u.waiting

pub once_altered : (b : Lists) (n m : ℕ) (w : Option ℕ) → (n ≡ m → ⊥) → OnceIn m b → OnceIn m (altered b n w)
once_altered b n m w ne u = record {
  resting = once_other n m w b.resting ne u.resting;
  waiting = once_other n m w b.waiting ne u.waiting;
}

entered_is : (b : Lists) (o : Order) (m : ℕ)
    → order_under (entered b o) m ≡ option_or (order_under b m) (cond (eqb o.number m) (Some o) None)
entered_is b o m =
    ap (λ (l : List Order). order_in l m) (sym (append_assoc b.resting b.waiting (o ∷ [])))
    ∙ both (b.resting ++ b.waiting) (o ∷ []) m

or_none : (o : Option Order) → option_or o None ≡ o
or_none None = refl
or_none (Some x) = refl

pub entered_other : (b : Lists) (o : Order) (m : ℕ) → (o.number ≡ m → ⊥)
    → order_under (entered b o) m ≡ order_under b m
entered_other b o m ne =
    entered_is b o m
    ∙ ap (option_or (order_under b m)) (cond-false (eqb o.number m) _ _ (ne_eqb o.number m ne))
    ∙ or_none (order_under b m)

pub entered_here : (b : Lists) (o : Order) (m : ℕ) → o.number ≡ m → order_under b m ≡ None
    → order_under (entered b o) m ≡ Some o
entered_here b o m e h =
    entered_is b o m
    ∙ ap (λ p. option_or p (cond (eqb o.number m) (Some o) None)) h
    ∙ cond-true (eqb o.number m) _ _ (eq-eqb o.number m e)
