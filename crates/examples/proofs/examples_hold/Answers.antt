use Rattle.std.proofs.Common.{refl}
use Rattle.texts.specs.Bytes.{is_text, named}
use Rattle.texts.specs.Identifiers.{base62}
use Rattle.layout.specs.Layout.{taken, is_order, first_bad}
use Rattle.orders.specs.Examples.{Examples as OrdersWorked}
use Rattle.dark_book.proofs.Examples.{last_refused as dark_last_refused, smaller_refused}
use Rattle.lit_book.proofs.Examples.{last_refused}
use Rattle.wire.specs.Messages.{opening}
use Rattle.examples.proofs.examples_hold.Goals as goal

orders-worked : OrdersWorked
orders-worked t a =
    record {
      part = refl;
      left = refl;
      cancelled = refl;
      expired = refl;
      back_ordered = refl;
      back_withdrawn = refl;
      back_executed = refl;
      back_open = refl;
      back_status = refl;
      done = refl;
      nothing_left = refl;
      at_executed = record {
        allowed = refl;
        ordered = refl;
        left = refl;
        status = refl;
        back_ordered = refl;
        back_open = refl;
      };
      below_executed = record {
        allowed = refl;
        ordered = refl;
        left = refl;
        status = refl;
        back_ordered = refl;
        back_open = refl;
      };
      above_executed = refl;
      one_left = refl;
    }

pub returns : goal.returns
unfolding opening first_bad taken is_order is_text named base62
returns c = (
  refl,
  refl,
  refl,
  refl,
  refl,
  refl,
  refl,
  refl,
  refl,
  (refl, refl, refl),
  last_refused,
  ((λ t. refl), (λ t. refl), refl, refl),
  dark_last_refused,
  smaller_refused,
  orders-worked,
)
