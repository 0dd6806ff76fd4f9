use Rattle.std.proofs.Common.{◌≡◌, ◌<◌, length, arith, rules}
use Rattle.texts.proofs.Digits.{write-turn, write-zeros, write-end, rest_zeros, no_room}
use Rattle.texts.proofs.identifiers.write_id.Goals as goal

pub loop-k-preserved : goal.loop-k-preserved
loop-k-preserved c =
    let l = c.loop-k in
    let p : 0 < l.k = search rules in
    let h : l.k < length l.out = search rules in
    let z = write-zeros l.k c.args.letter c.digit_of.result l.out p l.invariant.2 in
    let t = write-turn l.k l.n l.out p h in
    (search rules, search rules, z, grind arith)

pub returns-else-n-gt0 : goal.returns-else-n-gt0
returns-else-n-gt0 c =
    let l = c.loop-k in
    let e : l.n ≡ 0 = search rules in
    write-end c.args.letter c.args.number l.n l.k l.out (rest_zeros l.k l.n e) l.invariant.2 l.invariant.3

pub returns-after-loop-k : goal.returns-after-loop-k
returns-after-loop-k c =
    let l = c.loop-k in
    let e : l.k ≡ 0 = search rules in
    write-end c.args.letter c.args.number l.n l.k l.out (no_room l.k l.n e) l.invariant.2 l.invariant.3
