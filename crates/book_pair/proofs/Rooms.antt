-- How many orders an engine holds after a change. Assumes nothing.
use Rattle.std.specs.Prelude.{◌≡◌, ℕ, ◌+◌, ◌-◌, ◌<◌, ◌≤◌, Bool, true, false, cond, is_some, Some, None, Option, refl}
use Rattle.std.proofs.Common.{sym, ap, ◌∙◌, subst, arith}
use Rattle.std.specs.Cmp.{nat_cmp_total}
use Rattle.std.specs.FinMap.{get, len, len-insert, len-remove}
use Rattle.std.specs.Option.{option_map}
use Rattle.keyed.specs.Look.{put}
use Rattle.matching.specs.Meaning.{Meaning, Orders, closed, filled, happened, left, opened, resized, with_order}
use Rattle.matching.specs.declared.event.Event.{Event}
use Rattle.matching.specs.declared.event.Event.TheVariants.{Nothing, Expired, Trade}
use Rattle.matching.specs.declared.matcher.Held.{Held}
use Rattle.book_pair.specs.Pairs.{Fits}

one_more : (os : Orders) (n : ℕ) (h : Held) → len (put os n (Some h)) ≤ len os + 1
one_more os n h =
    let e = len-insert nat_cmp_total os n h in go (is_some (get os n)) e
  where
    go : (b : Bool) → len (put os n (Some h)) ≡ cond b (len os) (len os + 1) → len (put os n (Some h)) ≤ len os + 1
    go true e = omega arith
    go false e = omega arith

none_more : (os : Orders) (n : ℕ) → len (put os n None) ≤ len os
none_more os n =
    let e = len-remove nat_cmp_total os n in go (is_some (get os n)) e
  where
    go : (b : Bool) → len (put os n None) ≡ cond b (len os - 1) (len os) → len (put os n None) ≤ len os
    go true e = omega arith
    go false e = omega arith

known_more : (os : Orders) (n : ℕ) (w : Option Held) (v : Held) → get os n ≡ Some v → len (put os n w) ≤ len os
known_more os n None v e = none_more os n
known_more os n (Some h) v e =
    let f = len-insert nat_cmp_total os n h
    ∙ ap (λ (x : Option Held). cond (is_some x) (len os) (len os + 1)) e in
    omega arith

-- an order that is there or not, changed by what leaves none where there was none
same_more : (os : Orders) (n : ℕ) (f : Option Held → Option Held) (x : Option Held) → get os n ≡ x → f None ≡ None
    → len (put os n (f x)) ≤ len os
same_more os n f None e z = subst (λ (w : Option Held). len (put os n w) ≤ len os) (sym z) (none_more os n)
same_more os n f (Some v) e z = known_more os n (f (Some v)) v e

pub fits-opened : (m : Meaning) (n : ℕ) (h : Held) → len m.orders < m.capacity → Fits (opened m n h)
fits-opened m n h lt = let e = one_more m.orders n h in omega arith

pub fits-closed : (m : Meaning) (n : ℕ) → Fits m → Fits (closed m n)
fits-closed m n f = let e = none_more m.orders n in omega arith

pub fits-resized : (m : Meaning) (n q : ℕ) → Fits m → Fits (resized m n q)
fits-resized m n q f =
    let e = same_more m.orders n (option_map (λ (h : Held). record h { quantity = q })) (get m.orders n) refl refl in
    omega arith

fits-filled : (m : Meaning) (q : ℕ) (p : Option ℕ) → Fits m → Fits (filled m q p)
fits-filled m q None f = f
fits-filled m q (Some n) f =
    let e = same_more m.orders n (left q) (get m.orders n) refl refl in omega arith

pub fits-happened : (m : Meaning) (e : Event) → Fits m → Fits (happened m e)
fits-happened m Nothing f = f
fits-happened m (Expired n) f = fits-closed m n f
fits-happened m (Trade p a q z) f = fits-filled (filled m q p) q a (fits-filled m q p f)
