use Rattle.std.proofs.Common.{ap, arith}
use Rattle.layout.specs.Layout.{Says, nth}
use Rattle.order_messages.proofs.execution_report.ExecutionReportFramed.fields.Goals as goal

-- the fields at 107, 135, 137 and 138 are the 18th, 22nd, 24th and 25th of the table
pub text-requires-6 : goal.text-requires-6
text-requires-6 c = (omega arith, (omega arith, c.requires.passed.1.1.1.1.1.1.1.1.1.1.1.1.1.1.1.1.1.0))

pub code-requires-4-clause-listed : goal.code-requires-4-clause-listed
code-requires-4-clause-listed c = c.requires.passed.1.1.1.1.1.1.1.1.1.1.1.1.1.1.1.1.1.1.1.1.1.0

pub code-requires-5-clause-listed : goal.code-requires-5-clause-listed
code-requires-5-clause-listed c = c.requires.passed.1.1.1.1.1.1.1.1.1.1.1.1.1.1.1.1.1.1.1.1.1.1.1.0

pub code-requires-6-clause-listed : goal.code-requires-6-clause-listed
code-requires-6-clause-listed c = c.requires.passed.1.1.1.1.1.1.1.1.1.1.1.1.1.1.1.1.1.1.1.1.1.1.1.1.0

pub returns-clause-says : goal.returns-clause-says
unfolding Says
returns-clause-says c =
    let e₀ = ap (nth 0) c.execution_at.ensures in
    let e₁ = ap (nth 1) c.execution_at.ensures in
    let e₂ = ap (nth 2) c.execution_at.ensures in
    let e₃ = ap (nth 3) c.execution_at.ensures in
    rw (
      c.code.ensures,
      c.i32.ensures.bits,
      c.text.ensures.says,
      c.text-2.ensures.says,
      c.text-3.ensures.says,
      e₀,
      c.text-4.ensures.says,
      c.code-2.ensures,
      e₁,
      c.price.ensures.value,
      c.i32-2.ensures.bits,
      c.i32-3.ensures.bits,
      c.i32-4.ensures.bits,
      c.text-5.ensures.says,
      c.code-3.ensures,
      c.u64.ensures,
      c.text-6.ensures.says,
      e₂,
      c.u64-2.ensures,
      c.time.ensures.seconds,
      c.time.ensures.micros,
      c.code-4.ensures,
      e₃,
      c.code-5.ensures,
      c.code-6.ensures,
    )

pub returns-clause-placed : goal.returns-clause-placed
returns-clause-placed c = grind arith
