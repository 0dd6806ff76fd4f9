use Rattle.std.proofs.Common.{◌≡◌, ◌-◌, length, Some, Ok, ap, refl, arith}
use Rattle.wire.proofs.Fronts.{short_held, broken_held, more_held, whole_held}
use Rattle.wire.proofs.stream.Front.advance.Goals as goal

pub returns-then-len-lt4-clause-held : goal.returns-then-len-lt4-clause-held
returns-then-len-lt4-clause-held c =
    let h = c.args.self.now in
    (short_held c.args.channel h c.args.chunk.now c.fill-rest.new.self c.fill-rest.ensures.held (omega arith)).0

pub returns-then-len-lt4-clause-stands : goal.returns-then-len-lt4-clause-stands
returns-then-len-lt4-clause-stands c =
    let h = c.args.self.now in
    rw
    (short_held c.args.channel h c.args.chunk.now c.fill-rest.new.self c.fill-rest.ensures.held (omega arith)).1
    refl

pub returns-in-Err-clause-held : goal.returns-in-Err-clause-held
returns-in-Err-clause-held c =
    (broken_held c.args.channel c.args.self.now c.args.chunk.now c.fill-rest.new.self c.truncate.new.self
    c.in-Err.fault c.fill-rest.ensures.held (omega arith) c.in-Err.ensures.value c.truncate.ensures).0

pub returns-in-Err-clause-stands : goal.returns-in-Err-clause-stands
returns-in-Err-clause-stands c =
    rw
    (broken_held c.args.channel c.args.self.now c.args.chunk.now c.fill-rest.new.self c.truncate.new.self
    c.in-Err.fault c.fill-rest.ensures.held (omega arith) c.in-Err.ensures.value c.truncate.ensures).1
    refl

pub returns-then-len-total-clause-held : goal.returns-then-len-total-clause-held
returns-then-len-total-clause-held c =
    (more_held c.args.channel c.args.self.now c.args.chunk.now c.fill-rest.new.self c.fill-rest.result.now
    c.fill.new.self c.truncate-in-Ok.new.self c.in-Ok.total c.fill-rest.ensures.held c.fill-rest.ensures.left
    (omega arith) c.in-Ok.ensures.value c.fill.ensures.held c.truncate-in-Ok.ensures (omega arith)).0

pub returns-then-len-total-clause-stands : goal.returns-then-len-total-clause-stands
returns-then-len-total-clause-stands c =
    rw
    (more_held c.args.channel c.args.self.now c.args.chunk.now c.fill-rest.new.self c.fill-rest.result.now
    c.fill.new.self c.truncate-in-Ok.new.self c.in-Ok.total c.fill-rest.ensures.held c.fill-rest.ensures.left
    (omega arith) c.in-Ok.ensures.value c.fill.ensures.held c.truncate-in-Ok.ensures (omega arith)).1
    refl

pub returns-else-len-total-clause-held : goal.returns-else-len-total-clause-held
returns-else-len-total-clause-held c =
    (whole_held c.args.channel c.args.self.now c.args.chunk.now c.fill-rest.new.self c.fill-rest.result.now
    c.fill.new.self c.truncate-in-Ok.new.self c.in-Ok.total c.fill-rest.ensures.held c.fill-rest.ensures.left
    (omega arith) c.in-Ok.ensures.value c.fill.ensures.held c.truncate-in-Ok.ensures (omega arith)).0

pub returns-else-len-total-clause-stands : goal.returns-else-len-total-clause-stands
returns-else-len-total-clause-stands c =
    let k : c.saturating_sub.result ≡ c.in-Ok.total - length c.args.self.now = omega arith in
    rw
    (whole_held c.args.channel c.args.self.now c.args.chunk.now c.fill-rest.new.self c.fill-rest.result.now
    c.fill.new.self c.truncate-in-Ok.new.self c.in-Ok.total c.fill-rest.ensures.held c.fill-rest.ensures.left
    (omega arith) c.in-Ok.ensures.value c.fill.ensures.held c.truncate-in-Ok.ensures (omega arith)).1
    (ap (λ x. Ok (Some x)) k)
