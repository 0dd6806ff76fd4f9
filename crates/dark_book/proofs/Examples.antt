-- The worked examples of the laws. Assumes nothing.
use Rattle.std.specs.Prelude.{refl}
use Rattle.std.proofs.Common.{arith}
use Rattle.codes.specs.declared.order.Side.TheVariants.{Sell}
use Rattle.terms.specs.declared.lifetime.Lifetime.TheVariants.{Day}
use Rattle.dark_book.specs.Laws.{LastRefused, SmallerRefused, order}

pub last_refused : LastRefused
last_refused s =
    let n = s.1 1 (order 2 Sell 99 Day 50) (omega arith) (record { instrument = refl; sides = refl; taken = refl }) in
    absurd (omega arith)

pub smaller_refused : SmallerRefused
smaller_refused s =
    let n = s.2 1 (order 2 Sell 99 Day 50) (omega arith) (record { instrument = refl; sides = refl; taken = refl }) in
    absurd (omega arith)
