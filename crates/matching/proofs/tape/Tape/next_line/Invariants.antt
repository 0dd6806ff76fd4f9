use Rattle.std.proofs.Common.{◌≡◌, ◌-◌, vec_len}
use Rattle.matching.specs.Tapes.{ahead, played, tape_meaning}
use Rattle.matching.proofs.tape.Tape.next_line.Given as goal

abbrev pub invariant-loop-self : goal.invariant-loop-self
invariant-loop-self l =
    (l.self.rows ≡ l.initial.self.rows)
    × (played (tape_meaning l.self).orders (ahead l.self)
    ≡ played (tape_meaning l.initial.self).orders (ahead l.initial.self))

abbrev pub decreases-loop-self : goal.decreases-loop-self
decreases-loop-self l = vec_len l.self.lines - l.self.at
