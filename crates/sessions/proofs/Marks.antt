-- That marks may move past reports of others. Assumes nothing.
use Rattle.std.proofs.Common.{◌≡◌, ℕ, ◌<◌, ◌≤◌, max, false, List, [], ◌∷◌, ◌++◌, length, Some, None, Option, sym, refl, ap, ◌∙◌, subst, arith, inl, inr, ◌⊎◌, append_assoc}
use Rattle.std.proofs.lemmas.Bool.{cases_order, cases_lt, true≢false}
use Rattle.std.proofs.lemmas.List.{append-nil}
use Rattle.std.specs.Option.{is_some, unwrap_or, option_or, option_map}
use Rattle.std.specs.Prelude.{if◌then◌else◌}
use Rattle.codes.specs.declared.session.Partition.{Partition}
use Rattle.codes.specs.declared.session.Partition.TheVariants.{One, Two, Three}
use Rattle.partitions.specs.declared.per_partition.PerPartition.{PerPartition}
use Rattle.partitions.specs.PerPartition.{at, with_at}
use Rattle.reports.specs.declared.report.Entry.{Entry}
use Rattle.reports.specs.Tally.{is_of}
use Rattle.sessions.specs.Laws.{Grown, Growing, noted, sends, sends_noted, MarksLoseNothing}
use Rattle.sessions.specs.Sending.{found, next_to_send, sent_after}
use Rattle.sessions.proofs.Owned.{hers, under_grown}
use Rattle.store.proofs.Nexts.{next-lowest}
use Rattle.store.specs.Kept.{Kept, next_after}
use Rattle.store.specs.Laws.{Lowest}

-- only one number is the lowest
pub only : (l : List Entry) (o a : ℕ) (r r' : Option ℕ) → Lowest l o a r → Lowest l o a r' → r ≡ r'
only l o a None None h h' = refl
only l o a None (Some n) h h' = absurd (true≢false (sym h'.1 ∙ h n h'.0))
only l o a (Some n) None h h' = absurd (true≢false (sym h.1 ∙ h' n h.0))
only l o a (Some n) (Some m) h h' = go (cases_order n m)
  where
    go : (n ≡ m) ⊎ ((n < m) ⊎ (m < n)) → Some n ≡ Some m
    go (inl e) = ap Some e
    go (inr (inl b)) = absurd (true≢false (sym h.1 ∙ h'.2 n h.0 b))
    go (inr (inr b)) = absurd (true≢false (sym h'.1 ∙ h.2 m h'.0 b))

-- a lowest number above b is the lowest above a, where none between is the owner's
widen : (l : List Entry) (o a b : ℕ) (r : Option ℕ) → a ≤ b → ((k : ℕ) → a < k → k ≤ b → hers o l k ≡ false)
    → Lowest l o b r → Lowest l o a r
widen l o a b None le h w = λ k lt. by k lt (cases_lt b k)
  where
    by : (k : ℕ) → a < k → (b < k) ⊎ (k ≤ b) → hers o l k ≡ false
    by k lt (inl p) = w k p
    by k lt (inr p) = h k lt p
widen l o a b (Some n) le h w = (omega (arith, w.0), w.1, λ k lt q. by k lt q (cases_lt b k))
  where
    by : (k : ℕ) → a < k → k < n → (b < k) ⊎ (k ≤ b) → hers o l k ≡ false
    by k lt q (inl p) = w.2 k p q
    by k lt q (inr p) = h k lt p

-- a mark that moves to the last of the numbers that were passed over finds the same, however many reports come
moved : (o a : ℕ) (l l' : List Entry) → Grown l l' → next_after l o a ≡ None → next_after l' o (max a (length l))
    ≡ next_after l' o a
moved o a l l' (more, g) e =
    let w = subst (λ r. Lowest l o a r) e (next-lowest l o a) in
    only l' o a _ _ (widen l' o a (max a (length l)) (next_after l' o (max a (length l))) (omega arith)
    (λ k lt le. subst (λ ys. hers o ys k ≡ false) (sym g) (ap (is_of o) (under_grown l more k (omega arith)) ∙ w k lt))
    (next-lowest l' o (max a (length l)))) (next-lowest l' o a)

-- marks that find the same, however many reports come
abbrev Same : ℕ → Kept → PerPartition ℕ → PerPartition ℕ → Type 0
Same o k s s' = (p : Partition) (l : List Entry) → Grown (at k p) l → next_after l o (at s p) ≡ next_after l o (at s' p)

-- the marks after a look, by what was found
abbrev pub after : Option ℕ → Option ℕ → Option ℕ → Kept → PerPartition ℕ → PerPartition ℕ
after r1 r2 r3 k s =
    let one = with_at s One (unwrap_or r1 (max s.one (length k.one))) in
    let two = with_at one Two (unwrap_or r2 (max s.two (length k.two))) in
    if is_some r1 then one
    else if is_some r2 then two else with_at two Three (unwrap_or r3 (max s.three (length k.three)))

abbrev pub first : Option ℕ → Option ℕ → Option ℕ → Option (Partition × ℕ)
first r1 r2 r3 =
    option_or (option_map (λ n. (One, n)) r1)
    (option_or (option_map (λ n. (Two, n)) r2) (option_map (λ n. (Three, n)) r3))

abbrev Moved : ℕ → Kept → PerPartition ℕ → Partition → Type 0
Moved o k s p =
    (l : List Entry) → Grown (at k p) l → next_after l o (max (at s p) (length (at k p))) ≡ next_after l o (at s p)

same_after : (o : ℕ) (k : Kept) (s s' : PerPartition ℕ) (r1 r2 r3 : Option ℕ) → Same o k s s'
    → (r1 ≡ None → Moved o k s One) → (r2 ≡ None → Moved o k s Two) → (r3 ≡ None → Moved o k s Three)
    → Same o k (after r1 r2 r3 k s) (noted (first r1 r2 r3) s')
same_after o k s s' (Some n) r2 r3 h m1 m2 m3 = by
  where
    by : (p : Partition) (l : List Entry) → Grown (at k p) l → next_after l o (at (with_at s One n) p)
        ≡ next_after l o (at (with_at s' One n) p)
    by One l g = refl
    by Two l g = h Two l g
    by Three l g = h Three l g
same_after o k s s' None (Some n) r3 h m1 m2 m3 = by
  where
    by : (p : Partition) (l : List Entry) → Grown (at k p) l
        → next_after l o (at (with_at (with_at s One (max s.one (length k.one))) Two n) p)
        ≡ next_after l o (at (with_at s' Two n) p)
    by One l g = m1 refl l g ∙ h One l g
    by Two l g = refl
    by Three l g = h Three l g
same_after o k s s' None None (Some n) h m1 m2 m3 = by
  where
    by : (p : Partition) (l : List Entry) → Grown (at k p) l → next_after l o (at (after None None (Some n) k s) p)
        ≡ next_after l o (at (with_at s' Three n) p)
    by One l g = m1 refl l g ∙ h One l g
    by Two l g = m2 refl l g ∙ h Two l g
    by Three l g = refl
same_after o k s s' None None None h m1 m2 m3 = by
  where
    by : (p : Partition) (l : List Entry) → Grown (at k p) l → next_after l o (at (after None None None k s) p)
        ≡ next_after l o (at s' p)
    by One l g = m1 refl l g ∙ h One l g
    by Two l g = m2 refl l g ∙ h Two l g
    by Three l g = m3 refl l g ∙ h Three l g

-- what is sent next is the same
pub as_it_is : (l : List Entry) → Grown l l
as_it_is l = ([], sym (append-nil l))

same_next : (o : ℕ) (k : Kept) (s s' : PerPartition ℕ) → Same o k s s' → next_to_send k o s ≡ next_to_send k o s'
same_next o k s s' h =
    let one = h One k.one (as_it_is k.one) in
    let two = h Two k.two (as_it_is k.two) in
    let three = h Three k.three (as_it_is k.three) in
    ap (λ r. first r (found k o s Two) (found k o s Three)) one
    ∙ ap (λ r. first (found k o s' One) r (found k o s Three)) two
    ∙ ap (λ r. first (found k o s' One) (found k o s' Two) r) three

-- and stays the same
same_on : (o : ℕ) (k : Kept) (s s' : PerPartition ℕ) → Same o k s s'
    → Same o k (sent_after k o s) (noted (next_to_send k o s') s')
same_on o k s s' h =
    subst (λ r. Same o k (sent_after k o s) (noted r s')) (same_next o k s s' h)
    (same_after o k s s' (found k o s One) (found k o s Two) (found k o s Three) h
    (λ e l g. moved o s.one k.one l g e) (λ e l g. moved o s.two k.two l g e) (λ e l g. moved o s.three k.three l g e))

pub grown_on : (a b c : List Entry) → Grown a b → Grown b c → Grown a c
grown_on a b c (m, e) (n, f) = (m ++ n, f ∙ ap (λ ys. ys ++ n) e ∙ append_assoc a m n)

sent_same : (o : ℕ) (k : Kept) (ks : List Kept) (s s' : PerPartition ℕ) → Same o k s s' → Growing k ks
    → sends o (k ∷ ks) s ≡ sends_noted o (k ∷ ks) s'
sent_same o k [] s s' h g = ap (λ r. r ∷ []) (same_next o k s s' h)
sent_same o k (k' ∷ ks) s s' h (g, gs) =
    let on = same_on o k s s' h in
    ap (λ r. r ∷ sends o (k' ∷ ks) (sent_after k o s)) (same_next o k s s' h)
    ∙ ap (λ rs. next_to_send k o s' ∷ rs) (sent_same o k' ks (sent_after k o s) (noted (next_to_send k o s') s')
    (λ p l g'. on p l (grown_on (at k p) (at k' p) l (g p) g')) gs)

pub marks_lose_nothing : MarksLoseNothing
marks_lose_nothing o k ks sent g = sent_same o k ks sent sent (λ p l e. refl) g
