-- What a buffer holds after writes one behind the other. Assumes nothing.
use Rattle.std.proofs.Common.{◌≡◌, ℕ, ◌+◌, ◌≤◌, List, ◌++◌, length, take, drop, refl, ◌∙◌, append_assoc, add_assoc, length-append}
use lib.Seq.{paste, take-length}
use borrow.Rule.Slice.PartMut.{put_mid}
use Rattle.std.proofs.lemmas.List.{take_at, drop_at, drop-drop, length-take-le}
use Rattle.std.proofs.lemmas.Slice.{put_mid-paste}
use Rattle.layout.specs.Writing.{over}

pub paste_over : (b : List ℕ) (at : ℕ) (s : List ℕ) (n : ℕ) → n ≡ length s → paste b at s n ≡ over b at s
unfolding over
paste_over b at s n e = rw (e, take-length s)

pub put_over : (b : List ℕ) (at k : ℕ) (ys zs : List ℕ) → ys ≡ zs → length zs ≡ k → put_mid at k b ys ≡ over b at zs
put_over b at k ys zs e h = put_mid-paste at k b ys zs (length zs) e h refl ∙ paste_over b at zs (length zs) refl

-- a write right behind the front p of a buffer
pub over_front : (p b : List ℕ) (n : ℕ) (s : List ℕ) → length p ≡ n → over (p ++ drop n b) n s ≡ (p ++ s)
    ++ drop (n + length s) b
unfolding over
over_front p b n s h =
    rw (
      take_at p (drop n b) n h,
      ← drop-drop (length s) n (p ++ drop n b),
      drop_at p (drop n b) n h,
      drop-drop
          (length s) n b,
    )

pub over_over : (b : List ℕ) (at : ℕ) (s t : List ℕ) → at ≤ length b → over (over b at s) (at + length s) t
    ≡ over b at (s ++ t)
unfolding over
over_over b at s t h =
    let l : length (take at b ++ s) ≡ at + length s = rw (length-append (take at b) s, length-take-le at b h) in
    over_front (take at b ++ s) b (at + length s) t l ∙ simp (length-append, add_assoc, append_assoc)
