use Rattle.std.proofs.Common.{arith}
use Rattle.wire.proofs.Fronts.{end_short, end_broken, end_more}
use Rattle.wire.proofs.stream.Front.end_fault.Goals as goal

pub returns-then-len-lt4 : goal.returns-then-len-lt4
returns-then-len-lt4 c = end_short c.args.channel c.args.self.now (omega arith)

pub returns-in-Err : goal.returns-in-Err
returns-in-Err c = end_broken c.args.channel c.args.self.now c.in-Err.fault (omega arith) c.in-Err.ensures.value

pub returns-in-Ok : goal.returns-in-Ok
returns-in-Ok c = end_more c.args.channel c.args.self.now c.in-Ok.field-0 (omega arith) c.in-Ok.ensures.value
