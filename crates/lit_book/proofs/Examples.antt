-- The worked examples of the laws. Assumes nothing.
use Rattle.std.specs.Prelude.{false, refl}
use Rattle.std.proofs.Common.{arith}
use Rattle.std.proofs.lemmas.Bool.{both_ways}
use Rattle.codes.specs.declared.order.Side.TheVariants.{Sell}
use Rattle.lit_book.specs.Laws.{LastRefused, day_order}

pub last_refused : LastRefused
last_refused s = absurd (both_ways false refl (s.0 0 (day_order 1 Sell 100 50) (omega arith) refl))
