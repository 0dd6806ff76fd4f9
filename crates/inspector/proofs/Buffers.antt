-- A message that was read lies in its bytes, and one that was written stands at the front of its buffer. Assumes nothing.
use Rattle.std.proofs.Common.{◌≡◌, ℕ, ◌+◌, ◌-◌, ◌≤◌, true, List, ◌++◌, length, take, drop, ap, ◌∙◌, arith, length-append, length-drop}
use Rattle.std.proofs.lemmas.List.{take_at}
use Rattle.layout.specs.Layout.{within}
use Rattle.wire.specs.declared.kinds.Channel.{Channel}
use Rattle.wire.specs.declared.message.Message.{Message}
use Rattle.wire.specs.Kinds.{table_of}
use Rattle.wire.specs.Messages.{Reads, kind_of}
use Rattle.wire.proofs.Headers.{opened_by}
use Rattle.wire.proofs.Sound.{sound}

-- its fields lie in its bytes
pub read_inside : (ch : Channel) (bs : List ℕ) (m : Message) → Reads ch bs m
    → within (length bs) (table_of (kind_of m)) ≡ true
read_inside ch bs m r =
    ap (λ n. within n (table_of (kind_of m))) (opened_by ch (kind_of m) bs r.opens).2 ∙ (sound (kind_of m)).spans

-- what a buffer holds at its front, once a message of n bytes is written there
pub front : (w before after : List ℕ) (n : ℕ) → n ≤ length before → length after ≡ length before → after ≡ w
    ++ drop n before → take n after ≡ w
front w b a n h l e =
    let k : length a ≡ length w + (length b - n) = simp (length-append, length-drop) at (ap length e) in
    let j : length w ≡ n = omega arith in
    ap (take n) e ∙ take_at w (drop n b) n j
