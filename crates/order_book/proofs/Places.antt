-- The place of the order that is best for another, as it is looked for. Assumes nothing.
use Rattle.std.specs.Prelude.{◌≡◌, ℕ, ◌+◌, ◌<◌, ◌≤◌, Bool, true, false, cond, ◌&&◌, List, length, take, Some, None, Option, slice_index_or}
use Rattle.std.proofs.Common.{sym, ap, ◌∙◌, arith}
use Rattle.std.proofs.lemmas.List.{get_or_default, take_all}
use Rattle.std.proofs.lemmas.List.Sums.{fold_more}
use Rattle.order_book.specs.Pairing.{BestAt, BestSoFar, Rule, best, better_of, improves, standing}
use Rattle.order_book.specs.declared.order.Order.{Order}

-- the best once one more is looked at, which is the better or not
step : (r : Rule) (a x : Order) (os : List Order) (k : ℕ) (b : Bool) → k < length os → x ≡ slice_index_or os k x
    → (r.fits a x && improves r a x (best r a (take k os))) ≡ b
    → best r a (take (k + 1) os) ≡ cond b (Some x) (best r a (take k os))
step r a x os k b lt read e =
    fold_more (better_of r a) None os k x lt
    ∙ ap (better_of r a (best r a (take k os))) (sym read)
    ∙ ap (λ (t : Bool). cond t (Some x) (best r a (take k os))) e

so_far : (r : Rule) (a d : Order) (os : List Order) (k : ℕ) (w : Option ℕ) → BestSoFar r a os k w
    → best r a (take k os) ≡ standing os d w
so_far r a d os k None h = h
so_far r a d os k (Some i) h = h.1 d

pub looked : (r : Rule) (a x : Order) (os : List Order) (k : ℕ) (w : Option ℕ) (b : Bool) → BestSoFar r a os k w
    → k < length os → x ≡ slice_index_or os k x → (r.fits a x && improves r a x (standing os x w)) ≡ b
    → BestSoFar r a os (k + 1) (cond b (Some k) w)
looked r a x os k w true h lt read e =
    (omega arith, λ d. step r a x os k true lt read same ∙ ap Some (read ∙ get_or_default os k x d lt))
  where
    same : (r.fits a x && improves r a x (best r a (take k os))) ≡ true
    same = ap (λ (v : Option Order). r.fits a x && improves r a x v) (so_far r a x os k w h) ∙ e
looked r a x os k None false h lt read e =
    step r a x os k false lt read (ap (λ (v : Option Order). r.fits a x && improves r a x v) h ∙ e) ∙ h
looked r a x os k (Some i) false h lt read e =
    let l = h.0 in (
      omega arith,
      λ d. step r a x os k false lt read
          (ap (λ (v : Option Order). r.fits a x && improves r a x v) (h.1 x) ∙ e) ∙ h.1 d,
    )

pub best_at : (r : Rule) (a : Order) (os : List Order) (k : ℕ) (w : Option ℕ) → BestSoFar r a os k w → length os ≤ k
    → k ≤ length os
    → BestAt r a os w
best_at r a os k None h le ge = ap (best r a) (sym (take_all k os le)) ∙ h
best_at r a os k (Some i) h le ge =
    let l = h.0 in (omega arith, λ d. ap (best r a) (sym (take_all k os le)) ∙ h.1 d)
