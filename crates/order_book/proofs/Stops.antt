-- Where the search for the next event stops. Assumes nothing.
use Rattle.std.proofs.Common.{◌≡◌, Bool, true, false, ◌⊎◌, List, [], ◌∷◌, ◌++◌, Some, None, Option, sym, refl, ap, ◌∙◌, subst, inl, inr}
use Rattle.std.proofs.lemmas.List.{append_assoc, append-nil}
use Rattle.std.proofs.lemmas.Bool.{cases_Bool, cond-true, cond-false}
use Rattle.matching.specs.declared.event.Event.{Event}
use Rattle.matching.specs.declared.event.Event.TheVariants.{Nothing, Expired}
use Rattle.order_book.specs.declared.order.Order.{Order}
use Rattle.order_book.specs.Orders.{rests}
use Rattle.order_book.specs.Pairing.{Rule, best}
use Rattle.order_book.specs.Rules.{Lists, altered, next_of, outcome, trade_of, traded}

-- a trades with the order that is the best for it
pub record Trades (r : Rule) (rs ws : List Order) (a : Order) (x : Event × Lists) : Type 0 where
  pub other : Order
  pub best_is : best r a rs ≡ Some other
  pub is : x ≡ (trade_of a other (r.price a other), traded (record { resting = rs; waiting = a ∷ ws }) a other)

-- a expires, since there is none for it
pub record Expires (r : Rule) (rs ws : List Order) (a : Order) (x : Event × Lists) : Type 0 where
  pub alone : best r a rs ≡ None
  pub brief : rests a ≡ false
  pub is : x ≡ (Expired a.number, altered (record { resting = rs; waiting = a ∷ ws }) a.number None)

-- the orders at rest and the waiting ones when it stops, and what then comes
abbrev pub Ends : Rule → List Order → List Order → Event × Lists → Type 0
Ends r rs [] x = x ≡ (Nothing, record { resting = rs; waiting = [] })
Ends r rs (a ∷ ws) x = Trades r rs ws a x ⊎ Expires r rs ws a x

-- a test of the orders at rest that still holds where one more comes to rest for which there is none
abbrev pub Kept : Rule → (List Order → Bool) → Type 0
Kept r t =
    (a : Order) (xs : List Order) → best r a xs ≡ None → rests a ≡ true → t xs ≡ true → t (xs ++ a ∷ []) ≡ true

pub record Stop (r : Rule) (rs ws : List Order) (x : Event × Lists) : Type 0 where
  pub at_rest : List Order
  pub in_wait : List Order
  -- those that came to rest on the way
  pub came : List Order
  pub rested : at_rest ≡ rs ++ came
  pub waited : ws ≡ came ++ in_wait
  pub keeps : (t : List Order → Bool) → Kept r t → t rs ≡ true → t at_rest ≡ true
  pub ends : Ends r at_rest in_wait x

-- it stops at once: nothing came to rest
at_once : (r : Rule) (rs ws : List Order) (x : Event × Lists) → Ends r rs ws x → Stop r rs ws x
at_once r rs ws x e =
    record {
      at_rest = rs;
      in_wait = ws;
      came = [];
      rested = sym (append-nil rs);
      waited = refl;
      keeps = λ t k h. h;
      ends = e;
    }

pub stop : (r : Rule) (rs ws : List Order) → Stop r rs ws (next_of r rs ws)
stop r rs [] = at_once r rs [] (next_of r rs []) refl
stop r rs (a ∷ ws) = go (best r a rs) refl (cases_Bool (rests a)) (stop r (rs ++ a ∷ []) ws)
  where
    now_is : (w : Option Order) → best r a rs ≡ w → next_of r rs (a ∷ ws)
        ≡ outcome r (record { resting = rs; waiting = a ∷ ws }) a w (next_of r (rs ++ a ∷ []) ws)
    now_is w e =
        ap (λ (x : Option Order). outcome r (record { resting = rs; waiting = a ∷ ws }) a x
        (next_of r (rs ++ a ∷ []) ws)) e

    go : (w : Option Order) → best r a rs ≡ w → (rests a ≡ true) ⊎ (rests a ≡ false)
        → Stop r (rs ++ a ∷ []) ws (next_of r (rs ++ a ∷ []) ws)
        → Stop r rs (a ∷ ws) (next_of r rs (a ∷ ws))
    go (Some o) e t later =
        at_once r rs (a ∷ ws) (next_of r rs (a ∷ ws)) (inl (record { other = o; best_is = e; is = now_is (Some o) e }))
    go None e (inr f) later =
        at_once r rs (a ∷ ws) (next_of r rs (a ∷ ws))
        (inr (record { alone = e; brief = f; is = now_is None e ∙ cond-false (rests a) _ _ f }))
    go None e (inl t) later = record {
      at_rest = later.at_rest;
      in_wait = later.in_wait;
      came = a ∷ later.came;
      rested = later.rested ∙ append_assoc rs (a ∷ []) later.came;
      waited = ap (λ (l : List Order). a ∷ l) later.waited;
      keeps = λ u k h. later.keeps u k (k a rs e t h);
      ends = subst (Ends r later.at_rest later.in_wait) (sym (now_is None e ∙ cond-true (rests a) _ _ t)) later.ends;
    }

-- the orders are the same before and after the search
pub all_same : (r : Rule) (rs ws : List Order) (s : Stop r rs ws (next_of r rs ws))
    → s.at_rest ++ s.in_wait ≡ rs ++ ws
all_same r rs ws s =
    ap (λ (l : List Order). l ++ s.in_wait) s.rested ∙ append_assoc rs s.came s.in_wait ∙ ap
    (λ (l : List Order). rs ++ l) (sym s.waited)
