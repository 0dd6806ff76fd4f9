-- The header of a message that is written passes the checks. Assumes nothing.
use Rattle.std.proofs.Common.{◌≡◌, ℕ, ◌+◌, ◌-◌, ◌*◌, ◌<◌, ◌≤◌, true, eqb, List, ◌++◌, length, Some, Ok, sym, refl, ◌∙◌, arith, eq-eqb, ltb-true}
use Rattle.std.proofs.lemmas.Bool.{le-ltb}
use Rattle.texts.specs.Bytes.{le, to_le, part}
use Rattle.texts.proofs.Padding.{le-to_le}
use Rattle.layout.specs.Writing.{header}
use Rattle.wire.specs.declared.kinds.Channel.{Channel}
use Rattle.wire.specs.declared.kinds.Kind.{Kind}
use Rattle.wire.specs.Kinds.{letter_of, total_of, takes}
use Rattle.wire.specs.Messages.{stated, opening}
use Rattle.wire.proofs.Sound.{sound}

passes : (ch : Channel) (k : Kind) (bs : List ℕ) → 4 ≤ length bs → stated bs ≡ total_of k → length bs ≡ total_of k
    → le (part 0 1 bs) ≡ 2 → takes ch (le (part 3 1 bs)) ≡ Some k → opening ch bs ≡ Ok k
unfolding opening
passes ch k bs h s l z t =
    let a = le-ltb (length bs) 4 h in
    let b = le-ltb (length bs) (stated bs) (omega arith) in
    let e : eqb (stated bs) (total_of k) ≡ true = eq-eqb (stated bs) (total_of k) s in
    let f : eqb (stated bs) (length bs) ≡ true = eq-eqb (stated bs) (length bs) (s ∙ sym l) in
    let g : eqb (le (part 0 1 bs)) 2 ≡ true = eq-eqb (le (part 0 1 bs)) 2 z in
    rw (a, b, g, t, e, f)

pub opened : (ch : Channel) (k : Kind) (xs : List ℕ) → 4 + length xs ≡ total_of k → takes ch (letter_of k) ≡ Some k
    → opening ch (header (letter_of k) (total_of k) ++ xs) ≡ Ok k
opened ch k xs l d =
    let n = total_of k - 3 in
    let h : total_of k < 65539 = ltb-true (total_of k) 65539 (sound k).long in
    let m : le (to_le 2 n) ≡ n = le-to_le 2 n (omega arith) in
    let s : stated (header (letter_of k) (total_of k) ++ xs) ≡ total_of k = omega (arith, m) in
    let t : letter_of k + 256 * 0 ≡ letter_of k = omega arith in
    let w : length (header (letter_of k) (total_of k) ++ xs) ≡ total_of k = omega (arith, l) in
    passes ch k (header (letter_of k) (total_of k) ++ xs) (omega arith) s w refl (rw t d)
