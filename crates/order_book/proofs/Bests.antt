-- The order that is best for another by a rule. Assumes nothing.
use Rattle.std.proofs.Common.{◌≡◌, Bool, true, false, cond, ◌&&◌, List, [], ◌∷◌, ◌++◌, Some, None, Option, sym, refl, ap, ◌∙◌, subst, arith}
use Rattle.std.proofs.lemmas.List.{append_assoc, append-nil}
use Rattle.std.proofs.lemmas.Bool.{and_parts, both_ways}
use Rattle.order_book.specs.Laws.{Beaten, Unbeaten}
use Rattle.order_book.specs.Pairing.{Keeps, Rule, best, best_from, better_of, improves}
use Rattle.order_book.specs.declared.order.Order.{Order}

-- none of the list fits
abbrev pub Misses : Rule → Order → List Order → Type 0
Misses r a [] = Unit {0}
Misses r a (o ∷ os) = (r.fits a o ≡ false) × Misses r a os

-- every order of the list that fits is beaten
abbrev pub AllBeaten : Rule → Order → Order → List Order → Type 0
AllBeaten r a o [] = Unit {0}
AllBeaten r a o (x ∷ xs) = Beaten r a o x × AllBeaten r a o xs

-- none that fits beats it
abbrev pub NoneBeats : Rule → Order → Order → List Order → Type 0
NoneBeats r a o [] = Unit {0}
NoneBeats r a o (x ∷ xs) = Unbeaten r a o x × NoneBeats r a o xs

-- o is the best for a among some: those before it are beaten, none after it beats it
pub record Best (r : Rule) (a o : Order) (xs : List Order) : Type 0 where
  pub before : List Order
  pub after : List Order
  pub split : xs ≡ before ++ o ∷ after
  pub fitting : r.fits a o ≡ true
  pub earlier : AllBeaten r a o before
  pub later : NoneBeats r a o after

-- the best so far
abbrev Sofar : Rule → Order → List Order → Option Order → Type 0
Sofar r a xs None = Misses r a xs
Sofar r a xs (Some o) = Best r a o xs

misses_beaten : (r : Rule) (a o : Order) (xs : List Order) → Misses r a xs → AllBeaten r a o xs
misses_beaten r a o [] m = tt
misses_beaten r a o (x ∷ xs) m = ((λ t. absurd (both_ways (r.fits a x) m.0 t)), misses_beaten r a o xs m.1)

misses_push : (r : Rule) (a x : Order) (xs : List Order) → Misses r a xs → r.fits a x ≡ false
    → Misses r a (xs ++ x ∷ [])
misses_push r a x [] m e = (e, tt)
misses_push r a x (y ∷ xs) m e = (m.0, misses_push r a x xs m.1 e)

none_push : (r : Rule) (a o x : Order) (xs : List Order) → NoneBeats r a o xs → Unbeaten r a o x
    → NoneBeats r a o (xs ++ x ∷ [])
none_push r a o x [] m e = (e, tt)
none_push r a o x (y ∷ xs) m e = (m.0, none_push r a o x xs m.1 e)

-- what beats an order beats all that it beats, and all that do not beat it
beaten_chain : (r : Rule) → Keeps r → (a o x : Order) (xs : List Order) → r.beats a x o ≡ true → AllBeaten r a o xs
    → AllBeaten r a x xs
beaten_chain r k a o x [] h w = tt
beaten_chain r k a o x (y ∷ xs) h w = ((λ t. k.chain a x o y h (w.0 t)), beaten_chain r k a o x xs h w.1)

beaten_over : (r : Rule) → Keeps r → (a o x : Order) (xs : List Order) → r.beats a x o ≡ true → NoneBeats r a o xs
    → AllBeaten r a x xs
beaten_over r k a o x [] h w = tt
beaten_over r k a o x (y ∷ xs) h w = ((λ t. k.over a x o y h (w.0 t)), beaten_over r k a o x xs h w.1)

beaten_append : (r : Rule) (a x : Order) (xs ys : List Order) → AllBeaten r a x xs → AllBeaten r a x ys
    → AllBeaten r a x (xs ++ ys)
beaten_append r a x [] ys v w = w
beaten_append r a x (y ∷ xs) ys v w = (v.0, beaten_append r a x xs ys v.1 w)

-- one more order is looked at
sofar_more : (r : Rule) → Keeps r → (a x : Order) (xs : List Order) (w : Option Order) (b : Bool)
    → (r.fits a x && improves r a x w) ≡ b → Sofar r a xs w → Sofar r a (xs ++ x ∷ []) (cond b (Some x) w)
sofar_more r k a x xs None true e m =
    record {
      before = xs;
      after = [];
      split = refl;
      fitting = (and_parts (r.fits a x) true e).0;
      earlier = misses_beaten r a x xs m;
      later = tt;
    }
sofar_more r k a x xs None false e m = misses_push r a x xs m (only (r.fits a x) e)
  where
    only : (c : Bool) → (c && true) ≡ false → c ≡ false
    only true h = h
    only false h = refl
sofar_more r k a x xs (Some o) true e m =
    let p = and_parts (r.fits a x) (r.beats a x o) e in
    record {
      before = xs;
      after = [];
      split = refl;
      fitting = p.0;
      earlier = subst (AllBeaten r a x) (sym m.split)
          (beaten_append r a x m.before (o ∷ m.after) (beaten_chain r k a o x m.before p.1 m.earlier)
          ((λ _. p.1), beaten_over r k a o x m.after p.1 m.later));
      later = tt;
    }
sofar_more r k a x xs (Some o) false e m =
    record {
      before = m.before;
      after = m.after ++ x ∷ [];
      split = ap (λ (l : List Order). l ++ x ∷ []) m.split ∙ append_assoc m.before (o ∷ m.after) (x ∷ []);
      fitting = m.fitting;
      earlier = m.earlier;
      later = none_push r a o x m.after m.later (λ t. second (r.fits a x) (r.beats a x o) t e);
    }
  where
    second : (c d : Bool) → c ≡ true → (c && d) ≡ false → d ≡ false
    second true d t h = h
    second false d t h = absurd (both_ways false refl t)

sofar_all : (r : Rule) → Keeps r → (a : Order) (xs ys : List Order) (w : Option Order) → Sofar r a xs w
    → Sofar r a (xs ++ ys) (best_from r a w ys)
sofar_all r k a xs [] w s = subst (λ (l : List Order). Sofar r a l w) (sym (append-nil xs)) s
sofar_all r k a xs (y ∷ ys) w s =
    subst (λ (l : List Order). Sofar r a l (best_from r a (better_of r a w y) ys)) (append_assoc xs (y ∷ []) ys)
    (sofar_all r k a (xs ++ y ∷ []) ys (better_of r a w y)
    (sofar_more r k a y xs w (r.fits a y && improves r a y w) refl s))

pub best_some : (r : Rule) → Keeps r → (a o : Order) (xs : List Order) → best r a xs ≡ Some o → Best r a o xs
best_some r k a o xs e = subst (Sofar r a xs) e (sofar_all r k a [] xs None tt)

pub best_none : (r : Rule) → Keeps r → (a : Order) (xs : List Order) → best r a xs ≡ None → Misses r a xs
best_none r k a xs e = subst (Sofar r a xs) e (sofar_all r k a [] xs None tt)
