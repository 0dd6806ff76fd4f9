-- What comes next, by the oldest waiting order. Assumes nothing.
use Rattle.std.specs.Prelude.{◌≡◌, true, false, List, [], ◌∷◌, ◌++◌, drop, Some, None, Option, refl}
use Rattle.std.proofs.Common.{sym, ap, ◌∙◌}
use Rattle.std.proofs.lemmas.Option.{none-some}
use Rattle.std.proofs.lemmas.Bool.{cond-true, cond-false}
use Rattle.std.specs.List.{slice_get}
use Rattle.matching.specs.declared.event.Event.{Event}
use Rattle.matching.specs.declared.event.Event.TheVariants.{Nothing, Expired}
use Rattle.order_book.specs.declared.order.Order.{Order}
use Rattle.order_book.specs.Orders.{rests}
use Rattle.order_book.specs.Pairing.{Rule, best}
use Rattle.order_book.specs.Rules.{Lists, altered, next_by, next_of, outcome, trade_of, traded}

pub next_idle : (r : Rule) (b : Lists) → slice_get b.waiting 0 ≡ None → next_by r b ≡ (Nothing, b)
next_idle r b e = go b.resting b.waiting e
  where
    go : (rs ws : List Order) → slice_get ws 0 ≡ None → next_of r rs ws
        ≡ (Nothing, record { resting = rs; waiting = ws })
    go rs [] e = refl
    go rs (w ∷ ws) e = absurd (none-some w (sym e))

unrolled : (r : Rule) (b : Lists) (a : Order) → slice_get b.waiting 0 ≡ Some a → next_by r b
    ≡ outcome r b a (best r a b.resting) (next_of r (b.resting ++ a ∷ []) (drop 1 b.waiting))
unrolled r b a e = go b.resting b.waiting e
  where
    go : (rs ws : List Order) → slice_get ws 0 ≡ Some a → next_of r rs ws
        ≡ outcome r (record { resting = rs; waiting = ws }) a (best r a rs) (next_of r (rs ++ a ∷ []) (drop 1 ws))
    go rs [] e = absurd (none-some a e)
    go rs (w ∷ ws) e =
        let s : w ≡ a = cc in
        ap (λ (x : Order). outcome r (record { resting = rs; waiting = w ∷ ws }) x (best r x rs)
        (next_of r (rs ++ x ∷ []) ws)) s

-- what comes, by who is the best
comes : (r : Rule) (b : Lists) (a : Order) (w : Option Order) → slice_get b.waiting 0 ≡ Some a
    → best r a b.resting ≡ w
    → next_by r b ≡ outcome r b a w (next_of r (b.resting ++ a ∷ []) (drop 1 b.waiting))
comes r b a w e f =
    unrolled r b a e
    ∙ ap (λ (x : Option Order). outcome r b a x (next_of r (b.resting ++ a ∷ []) (drop 1 b.waiting))) f

pub next_trade : (r : Rule) (b : Lists) (a o : Order) → slice_get b.waiting 0 ≡ Some a
    → best r a b.resting ≡ Some o → next_by r b ≡ (trade_of a o (r.price a o), traded b a o)
next_trade r b a o e f = comes r b a (Some o) e f

pub next_expire : (r : Rule) (b : Lists) (a : Order) → slice_get b.waiting 0 ≡ Some a → best r a b.resting ≡ None
    → rests a ≡ false → next_by r b ≡ (Expired a.number, altered b a.number None)
next_expire r b a e f t = comes r b a None e f ∙ cond-false (rests a) _ _ t

pub none_waits : (ws : List Order) → slice_get ws 0 ≡ None → ws ≡ []
none_waits [] e = refl
none_waits (w ∷ ws) e = absurd (none-some w (sym e))

-- one more comes to rest
pub next_rest : (r : Rule) (b b' : Lists) (a : Order) → slice_get b.waiting 0 ≡ Some a → best r a b.resting ≡ None
    → rests a ≡ true → b'.resting ≡ b.resting ++ a ∷ [] → b'.waiting ≡ drop 1 b.waiting
    → next_by r b' ≡ next_by r b
next_rest r b b' a e f t g h =
    ap (λ (x : List Order). next_of r x b'.waiting) g
    ∙ ap (next_of r (b.resting ++ a ∷ [])) h
    ∙ sym (comes r b a None e f ∙ cond-true (rests a) _ _ t)
