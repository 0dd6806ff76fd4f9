-- The rule of the book keeps to what every rule has to. Assumes nothing.
use Rattle.std.specs.Prelude.{◌≡◌, true, false, ◌&&◌, List, Some, None, Option, refl}
use Rattle.std.proofs.Common.{eqb, ltb, arith}
use Rattle.std.proofs.lemmas.Bool.{and_parts, both_ways, eqb-true, le-ltb, lt-ltb, ltb-true, ltb-false}
use Rattle.order_book.specs.Orders.{accepts, opposes}
use Rattle.order_book.specs.Pairing.{Facing, Keeps}
use Rattle.order_book.specs.declared.order.Order.{Order}
use Rattle.texts.specs.declared.values.Price.{Price}
use Rattle.dark_book.specs.Rules.{at_midpoint, dark_rule, meets, midpoint_of, takes_part}

pub taken_at : (m : Option Price) (o : Order) → takes_part m o ≡ true → accepts o.side o.pricing (at_midpoint m) ≡ true
taken_at None o h = absurd (both_ways false refl h)
taken_at (Some m) o h = h

pub meets_faces : (m : Option Price) (a o : Order) → meets m a o ≡ true → Facing a o (at_midpoint m)
meets_faces m a o h =
    let p = and_parts (eqb a.instrument o.instrument) (opposes a.side o.side && (takes_part m a && takes_part m o)) h in
    let q = and_parts (opposes a.side o.side) (takes_part m a && takes_part m o) p.1 in
    let r = and_parts (takes_part m a) (takes_part m o) q.1 in
    record {
      instrument = eqb-true _ _ p.0;
      sides = q.0;
      taken = taken_at m a r.0;
      given = taken_at m o r.1;
    }

pub dark_keeps : (ms : List (Option Price)) → Keeps (dark_rule ms)
dark_keeps ms =
    record {
      faces = λ a o h. meets_faces (midpoint_of ms a.instrument) a o h;
      strict = λ a x. le-ltb _ _ (omega arith);
      chain = λ a x y z h k. (let p = ltb-true _ _ h in let q = ltb-true _ _ k in lt-ltb _ _ (omega arith));
      over = λ a x y z h k. (let p = ltb-true _ _ h in let q = ltb-false _ _ k in lt-ltb _ _ (omega arith));
    }
