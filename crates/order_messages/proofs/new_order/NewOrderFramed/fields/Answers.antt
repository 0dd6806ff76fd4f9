use Rattle.std.proofs.Common.{ap}
use Rattle.layout.specs.Layout.{Says, nth}
use Rattle.order_messages.proofs.new_order.NewOrderFramed.fields.Goals as goal

-- the fields at 87, 88 and 96 are the 17th, 18th and 21st of the table
pub target_at-requires-clause-good : goal.target_at-requires-clause-good
target_at-requires-clause-good c =
    (c.requires.passed.1.1.1.1.1.1.1.1.1.1.1.1.1.1.1.1.0, (c.requires.passed.1.1.1.1.1.1.1.1.1.1.1.1.1.1.1.1.1.0, tt))

pub code-requires-7-clause-listed : goal.code-requires-7-clause-listed
code-requires-7-clause-listed c = c.requires.passed.1.1.1.1.1.1.1.1.1.1.1.1.1.1.1.1.1.1.1.1.0

pub returns-clause-says : goal.returns-clause-says
unfolding Says
returns-clause-says c =
    let p₀ = ap (nth 0) c.pricing_at.ensures in
    let p₁ = ap (nth 1) c.pricing_at.ensures in
    let t₀ = ap (nth 0) c.target_at.ensures in
    let t₁ = ap (nth 1) c.target_at.ensures in
    rw (
      c.name.ensures.says,
      c.text.ensures.says,
      c.text-2.ensures.says,
      c.code.ensures,
      c.text-3.ensures.says,
      p₀,
      p₁,
      c.code-2.ensures,
      c.u32.ensures,
      c.code-3.ensures,
      c.i32.ensures.bits,
      c.i32-2.ensures.bits,
      c.code-4.ensures,
      c.code-5.ensures,
      c.code-6.ensures,
      t₀,
      t₁,
      c.i32-3.ensures.bits,
      c.code-7.ensures,
    )
