-- The rule of the book keeps to what every rule has to. Assumes nothing.
use Rattle.std.specs.Prelude.{◌≡◌, true, false, ◌&&◌, refl}
use Rattle.std.proofs.Common.{eqb, arith}
use Rattle.std.proofs.lemmas.Int.{ints}
use Rattle.std.proofs.lemmas.Bool.{and_parts, both_ways, eqb-true}
use Rattle.codes.specs.declared.order.Side.{Side}
use Rattle.codes.specs.declared.order.Side.TheVariants.{Buy, Sell}
use Rattle.terms.specs.declared.pricing.Pricing.{Pricing}
use Rattle.terms.specs.declared.pricing.Pricing.TheVariants.{Market, Limit}
use Rattle.terms.specs.Pricing.{price_of}
use Rattle.texts.specs.declared.values.Price.{Price}
use Rattle.order_book.specs.Orders.{accepts, opposes, price}
use Rattle.order_book.specs.Pairing.{Keeps}
use Rattle.order_book.specs.declared.order.Order.{Order}
use Rattle.lit_book.specs.Orders.{crosses, prefers, takes}
use Rattle.lit_book.specs.Rules.{lit_rule}

-- ---- who crosses another faces it at its limit

takes_price : (s : Side) (t u : Pricing) → takes s t u ≡ true → accepts s t (price_of u) ≡ true
takes_price s t Market h = absurd (both_ways false refl h)
takes_price s t (Limit p) h = h

pub crossed_parts : (a o : Order) → crosses a o ≡ true → (a.instrument ≡ o.instrument) × (opposes a.side o.side ≡ true)
    × (takes a.side a.pricing o.pricing ≡ true)
crossed_parts a o h =
    let p = and_parts (eqb a.instrument o.instrument) (opposes a.side o.side && takes a.side a.pricing o.pricing) h in
    let q = and_parts (opposes a.side o.side) (takes a.side a.pricing o.pricing) p.1 in
    (eqb-true _ _ p.0, q.0, q.1)

pub crosses_accepts : (a o : Order) → crosses a o ≡ true → accepts a.side a.pricing (price o) ≡ true
crosses_accepts a o h = takes_price a.side a.pricing o.pricing (crossed_parts a o h).2

-- an order takes its own limit
own_price : (s : Side) (t : Pricing) → accepts s t (price_of t) ≡ true
own_price s Market = refl
own_price Buy (Limit l) = grind (arith, ints)
own_price Sell (Limit l) = grind (arith, ints)

-- ---- prices are ordered

pub not_better : (s : Side) (p : Price) → prefers s p p ≡ false
not_better Buy p = grind (arith, ints)
not_better Sell p = grind (arith, ints)

better_chain : (s : Side) (p q r : Price) → prefers s p q ≡ true → prefers s q r ≡ true → prefers s p r ≡ true
better_chain Buy p q r h k = grind (arith, ints)
better_chain Sell p q r h k = grind (arith, ints)

better_over : (s : Side) (p q r : Price) → prefers s p q ≡ true → prefers s r q ≡ false → prefers s p r ≡ true
better_over Buy p q r h k = grind (arith, ints)
better_over Sell p q r h k = grind (arith, ints)

pub lit_keeps : Keeps lit_rule
lit_keeps =
    record {
      faces = λ a o h.
          (let p = crossed_parts a o h in record {
            instrument = p.0;
            sides = p.1;
            taken = crosses_accepts a o h;
            given = own_price o.side o.pricing;
          });
      strict = λ a x. not_better a.side (price x);
      chain = λ a x y z h k. better_chain a.side (price x) (price y) (price z) h k;
      over = λ a x y z h k. better_over a.side (price x) (price y) (price z) h k;
    }
