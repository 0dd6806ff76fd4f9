-- Appending counts one, and the next number leaves out no report. Assumes nothing.
use Rattle.std.proofs.Common.{◌≡◌, ℕ, zero, suc, ◌+◌, ◌<◌, ◌≤◌, Bool, true, false, cond, eqb, List, [], ◌∷◌, length, map, take, drop, is_some, ◌%◌, Some, None, Option, sym, refl, ap, ◌∙◌, subst, arith}
use Rattle.std.specs.Option.{option_map}
use Rattle.std.specs.List.{position_from, slice_get}
use Rattle.std.proofs.lemmas.List.Sums.{sum_by-cons, sum_by_more}
use Rattle.std.proofs.lemmas.Option.{slice_get_within, get_or_from_slice_get}
use Rattle.std.proofs.lemmas.List.{map_push}
use Rattle.codes.specs.declared.session.Partition.{Partition}
use Rattle.codes.specs.declared.session.Partition.TheVariants.{One, Two, Three}
use Rattle.reports.specs.declared.report.Entry.{Entry}
use Rattle.keyed.proofs.Ranges.{fold_range}
use Rattle.keyed.specs.Numbers.{under}
use Rattle.partitions.proofs.Nexts.{next-from}
use Rattle.partitions.specs.declared.per_partition.PerPartition.{PerPartition}
use Rattle.partitions.specs.Series.{grown}
use Rattle.store.specs.Kept.{Kept, next_after}
use Rattle.store.proofs.Nexts.{next-shift, next-in}
use Rattle.store_bench.specs.Counts.{turn, owners, filled, seconds_of, seconds_in, owned, owned_in, owned_below, Counts}

owned-cons : (o : ℕ) (x : Entry) (l : List Entry) (b : Bool) → b ≡ eqb x.owner o → owned o (x ∷ l)
    ≡ cond b 1 0 + owned o l
owned-cons o x l b e =
    sum_by-cons (λ (y : Entry). cond (eqb y.owner o) 1 0) x l ∙ ap (λ (t : Bool). cond t 1 0 + owned o l) (sym e)

lift : (x : Entry) (l : List Entry) (o above : ℕ) (r : Option ℕ) → Counts l o above r
    → Counts (x ∷ l) o (suc above) (option_map suc r)
lift x l o above None h = h
lift x l o above (Some n) h = (omega (arith, h.0), omega (arith, h.1), h.2)

front : (x : Entry) (l : List Entry) (o : ℕ) (b : Bool) (r : Option ℕ) → b ≡ eqb x.owner o → Counts l o 0 r
    → Counts (x ∷ l) o 0 (cond b (Some 1) (option_map suc r))
front x l o true r e h = (omega arith, omega arith, owned-cons o x l true e)
front x l o false None e h = owned-cons o x l false e ∙ omega (arith, h)
front x l o false (Some n) e h = (omega arith, omega (arith, h.1), owned-cons o x l false e ∙ omega (arith, h.2))

-- the search for it, from the number on
counts-in : (l : List Entry) (o above : ℕ) → Counts l o above (next-in l o above)
counts-in [] o zero = refl
counts-in [] o (suc above) = refl
counts-in (x ∷ l) o zero =
    subst (λ r. Counts (x ∷ l) o 0 (cond (eqb x.owner o) (Some 1) r)) (sym (next-shift o 1 l))
    (front x l o (eqb x.owner o) (next-in l o 0) refl (counts-in l o 0))
counts-in (x ∷ l) o (suc above) =
    let same : suc above + 1 ≡ above + 1 + 1 = omega arith in
    subst (λ r. Counts (x ∷ l) o (suc above) r)
    (sym (ap (λ j. position_from (λ (e : Entry). eqb e.owner o) j (drop above l)) same ∙ next-shift o (above + 1)
    (drop above l))) (lift x l o above (next-in l o above) (counts-in l o above))

pub next_counts : (l : List Entry) (o above : ℕ) (r : Option ℕ) → r ≡ next_after l o above → Counts l o above r
next_counts l o above r e =
    subst (Counts l o above) (sym (e ∙ next-from (λ (x : Entry). x.owner) l o above)) (counts-in l o above)

-- one report more is read
pub seconds_none : (l : List Entry) → 0 ≡ seconds_in (take 0 l)
seconds_none l = refl

pub seconds_more : (l : List Entry) (n s : ℕ) (e : Entry) → Some e ≡ under l (n + 1) → s ≡ seconds_in (take n l)
    → s + seconds_of e.report ≡ seconds_in (take (n + 1) l)
seconds_more l n s e u h =
    let same : n + 1 ≡ suc n = omega arith in
    let there : slice_get l n ≡ Some e = ap (under l) (sym same) ∙ sym u in
    let within = slice_get_within l n e there in
    let taken = sum_by_more (λ (x : Entry). seconds_of x.report) l n e within in
    ap (λ t. t + seconds_of e.report) h ∙ ap (λ x. seconds_in (take n l) + seconds_of x.report)
    (sym (get_or_from_slice_get l n e e there)) ∙ sym taken

-- a number within the list has an entry
pub entry-there : (l : List Entry) (n : ℕ) → 0 < n → n ≤ length l → under l n ≡ None → ⊥
entry-there l zero a b e = omega arith
entry-there [] (suc n) a b e = omega arith
entry-there (x ∷ l) (suc zero) a b e = let z : ◌≡◌ {A = ℕ} 0 1 = cc in omega arith
entry-there (x ∷ l) (suc (suc n)) a b e = entry-there l (suc n) (omega arith) (omega arith) e

-- a number within the list is found
pub entry_there : (l : List Entry) (n : ℕ) (r : Option Entry) → n < length l → r ≡ under l (n + 1) → is_some r ≡ true
entry_there l n None lt e = absurd (entry-there l (n + 1) (omega arith) (omega arith) (sym e))
entry_there l n (Some x) lt e = refl

below_more : (o : ℕ) (k : Kept) → owned_below (suc o) k ≡ owned_below o k + owned_in o k
unfolding owned_below
below_more o k = fold_range (λ (total n : ℕ). total + owned_in n k) 0 0 o o (omega arith)

pub below_none : (k : Kept) → 0 ≡ owned_below 0 k
unfolding owned_below
below_none k = refl

-- one owner more
pub below_owner : (o f a : ℕ) (k : Kept) → f ≡ owned_below o k → a ≡ owned_in o k → f + a ≡ owned_below (o + 1) k
below_owner o f a k h x =
    let more = below_more o k in let same : o + 1
    ≡ suc o = omega arith in omega arith ∙ sym (ap (λ n. owned_below n k) same ∙ more)

pub filled_none : (os : PerPartition (List ℕ)) → os ≡ filled 0 os
unfolding filled
filled_none os = refl

pub filled_more : (i : ℕ) (os now after : PerPartition (List ℕ)) → now ≡ filled i os → after
    ≡ grown now (turn (i % 3)) (i % 8) → after ≡ filled (i + 1) os
unfolding filled
filled_more i os now after h e =
    let same : i + 1 ≡ suc i = omega arith in e ∙ ap (λ t. grown t (turn (i % 3)) (i % 8)) h ∙ sym
    (ap (λ n. filled n os) same
    ∙ fold_range (λ (t : PerPartition (List ℕ)) n. grown t (turn (n % 3)) (n % 8)) os 0 i i (omega arith))

-- one report more, by its owner
pub owners_grown : (k : Kept) (p : Partition) (e : Entry) → owners (grown k p e) ≡ grown (owners k) p e.owner
owners_grown k One e =
    ap (λ l. record {
      one = l;
      two = map (λ (x : Entry). x.owner) k.two;
      three = map
          (λ (x : Entry). x.owner) k.three;
    }) (map_push (λ (x : Entry). x.owner) k.one e)
owners_grown k Two e =
    ap (λ l. record {
      one = map (λ (x : Entry). x.owner) k.one;
      two = l;
      three = map
          (λ (x : Entry). x.owner) k.three;
    }) (map_push (λ (x : Entry). x.owner) k.two e)
owners_grown k Three e =
    ap (λ l. record { one = map (λ (x : Entry). x.owner) k.one; two = map (λ (x : Entry). x.owner) k.two; three = l })
    (map_push (λ (x : Entry). x.owner) k.three e)
