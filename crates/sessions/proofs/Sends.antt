-- That each report is sent, in order and once. Assumes nothing.
use Rattle.std.proofs.Common.{◌≡◌, ℕ, zero, suc, ◌+◌, ◌-◌, ◌<◌, ◌≤◌, max, true, false, leb, List, [], ◌∷◌, ◌++◌, length, Some, None, Option, sym, refl, ap, ◌∙◌, subst, arith, inl, inr, ◌⊎◌, length-append}
use Rattle.std.proofs.lemmas.Bool.{cases_lt, cond-false, le-leb, true≢false}
use Rattle.std.specs.List.{cons_option, filter_map}
use Rattle.codes.specs.declared.session.Partition.{Partition}
use Rattle.codes.specs.declared.session.Partition.TheVariants.{One, Two, Three}
use Rattle.keyed.specs.Numbers.{under}
use Rattle.partitions.specs.declared.per_partition.PerPartition.{PerPartition}
use Rattle.partitions.specs.PerPartition.{at}
use Rattle.reports.specs.declared.report.Entry.{Entry}
use Rattle.reports.specs.Tally.{is_of}
use Rattle.sessions.specs.Downloads.{up_to}
use Rattle.sessions.specs.Laws.{Grown, Growing, owned, in_partition, sends, sent_by, last_of, SendsEach}
use Rattle.sessions.specs.Sending.{found, next_to_send, sent_after}
use Rattle.sessions.proofs.Marks.{only, after, first, grown_on, as_it_is}
use Rattle.sessions.proofs.Owned.{hers, hers_from, under_grown, from_none, Next, next_owned}
use Rattle.store.proofs.Nexts.{next-lowest}
use Rattle.store.specs.Kept.{Kept, next_after}
use Rattle.store.specs.Laws.{Lowest}

-- numbers that are not the owner's are passed over
skip : (o : ℕ) (l : List Entry) (d a c : ℕ) → ((k : ℕ) → a < k → k ≤ a + d → hers o l k ≡ false)
    → hers_from o l a (d + c) ≡ hers_from o l (a + d) c
skip o l zero a c h = let e : a + 0 ≡ a = omega arith in let f : 0 + c ≡ c = omega arith in rw (e, f)
skip o l (suc d) a c h =
    let f : suc d + c ≡ suc (d + c) = omega arith in
    let e : a + 1 + d ≡ a + suc d = omega arith in
    rw f (cond-false _ _ _ (h (a + 1) (omega arith) (omega arith)) ∙ skip o l d (a + 1) c
    (λ k p q. h k (omega arith) (omega arith)) ∙ ap (λ n. hers_from o l n c) e)

passed : (o : ℕ) (l : List Entry) (a b t : ℕ) → a ≤ b → ((k : ℕ) → a < k → k ≤ b → hers o l k ≡ false) → owned l o b t
    ≡ owned l o a t
passed o l a b t le h = by (cases_lt t b)
  where
    by : (t < b) ⊎ (b ≤ t) → owned l o b t ≡ owned l o a t
    by (inl q) =
        from_none o l (t - b) b (λ k p r. absurd (omega arith)) ∙ sym
        (from_none o l (t - a) a (λ k p r. h k p (omega arith)))
    by (inr q) =
        let e : t - a ≡ (b - a) + (t - b) = omega arith in
        let f : a + (b - a) ≡ b = omega arith in
        sym (ap (λ c. hers_from o l a c) e ∙ skip o l (b - a) a (t - b) (λ k p r. h k p (omega arith)) ∙ ap
        (λ n. hers_from o l n (t - b)) f)

-- where none was found, the mark moves past numbers that are not the owner's
step_none : (o a : ℕ) (l l' : List Entry) → Grown l l' → next_after l o a ≡ None
    → owned l' o (max a (length l)) (length l') ≡ owned l' o a (length l')
step_none o a l l' (more, g) e =
    let w = subst (λ r. Lowest l o a r) e (next-lowest l o a) in
    passed o l' a (max a (length l)) (length l') (omega arith)
    (λ k lt le. subst (λ ys. hers o ys k ≡ false) (sym g) (ap (is_of o) (under_grown l more k (omega arith)) ∙ w k lt))

-- a number of the owner's stands
under_past : (l : List Entry) (n : ℕ) → length l < n → under l n ≡ None
under_past l zero h = absurd (omega arith)
under_past [] (suc n) h = refl
under_past (x ∷ l) (suc zero) h = absurd (omega arith)
under_past (x ∷ l) (suc (suc n)) h = under_past l (suc n) (omega arith)

stands : (o : ℕ) (l : List Entry) (n : ℕ) → hers o l n ≡ true → n ≤ length l
stands o l n t = by (cases_lt (length l) n)
  where
    by : (length l < n) ⊎ (n ≤ length l) → n ≤ length l
    by (inl q) = absurd (true≢false (sym t ∙ ap (is_of o) (under_past l n q)))
    by (inr q) = q

-- one that was found is still the lowest when more reports come
step_some : (o a n : ℕ) (l l' : List Entry) → Grown l l' → next_after l o a ≡ Some n → owned l' o a (length l') ≡ n
    ∷ owned l' o n (length l')
step_some o a n l l' (more, g) e =
    let w = subst (λ r. Lowest l o a r) e (next-lowest l o a) in
    let s = stands o l n w.1 in
    let t = length-append l more in
    let u = ap length g in
    let on = λ (k : ℕ) (q : k ≤ length l). ap (λ ys. hers o ys k) g ∙ ap (is_of o) (under_grown l more k q) in
    let f : next_after l' o a ≡ Some n = only l' o a _ (Some n) (next-lowest l' o a)
    (w.0, on n s ∙ w.1, λ k p q. on k (omega arith) ∙ w.2 k p q) in
    let le : leb n (length l') ≡ true = le-leb n (length l') (omega arith) in
    let m : up_to (length l') (next_after l' o a) ≡ Some n = ap (up_to (length l')) f ∙ rw le in
    subst (λ r. Next o l' a (length l') r) m (next_owned o l' a (length l'))

-- one call, by what was found in each partition
abbrev Step : ℕ → List Entry → ℕ → ℕ → Option ℕ → Type 0
Step o l a b None = owned l o b (length l) ≡ owned l o a (length l)
Step o l a b (Some n) = owned l o a (length l) ≡ n ∷ owned l o n (length l)

step : (o a : ℕ) (l l' : List Entry) (r : Option ℕ) → Grown l l' → next_after l o a ≡ r
    → Step o l' a (max a (length l)) r
step o a l l' None g e = step_none o a l l' g e
step o a l l' (Some n) g e = step_some o a n l l' g e

abbrev Turn : ℕ → Partition → List Entry → PerPartition ℕ → PerPartition ℕ → Option (Partition × ℕ) → Type 0
Turn o p l s s' r = cons_option (in_partition p r) (owned l o (at s' p) (length l)) ≡ owned l o (at s p) (length l)

turn : (o : ℕ) (p : Partition) (k : Kept) (s : PerPartition ℕ) (l : List Entry) (r1 r2 r3 : Option ℕ)
    → Grown (at k p) l → found k o s One ≡ r1 → found k o s Two ≡ r2 → found k o s Three ≡ r3
    → Turn o p l s (after r1 r2 r3 k s) (first r1 r2 r3)
turn o One k s l (Some n) r2 r3 g e1 e2 e3 = sym (step o s.one k.one l (Some n) g e1)
turn o One k s l None (Some n) r3 g e1 e2 e3 = step o s.one k.one l None g e1
turn o One k s l None None (Some n) g e1 e2 e3 = step o s.one k.one l None g e1
turn o One k s l None None None g e1 e2 e3 = step o s.one k.one l None g e1
turn o Two k s l (Some n) r2 r3 g e1 e2 e3 = refl
turn o Two k s l None (Some n) r3 g e1 e2 e3 = sym (step o s.two k.two l (Some n) g e2)
turn o Two k s l None None (Some n) g e1 e2 e3 = step o s.two k.two l None g e2
turn o Two k s l None None None g e1 e2 e3 = step o s.two k.two l None g e2
turn o Three k s l (Some n) r2 r3 g e1 e2 e3 = refl
turn o Three k s l None (Some n) r3 g e1 e2 e3 = refl
turn o Three k s l None None (Some n) g e1 e2 e3 = sym (step o s.three k.three l (Some n) g e3)
turn o Three k s l None None None g e1 e2 e3 = step o s.three k.three l None g e3

-- the last store has grown from each
grown_to_last : (p : Partition) (k : Kept) (ks : List Kept) → Growing k ks → Grown (at k p) (at (last_of k ks) p)
grown_to_last p k [] g = as_it_is (at k p)
grown_to_last p k (k' ∷ ks) (g, gs) = grown_on (at k p) (at k' p) (at (last_of k' ks) p) (g p)
    (grown_to_last p k' ks gs)

behind : (r : Option ℕ) (xs ys : List ℕ) → cons_option r xs ++ ys ≡ cons_option r (xs ++ ys)
behind None xs ys = refl
behind (Some n) xs ys = refl

pub sends_each : SendsEach
sends_each o p k [] s g =
    behind (in_partition p (next_to_send k o s)) [] (owned (at k p) o (at (sent_after k o s) p) (length (at k p)))
    ∙ turn o p k s (at k p) (found k o s One) (found k o s Two) (found k o s Three) (as_it_is (at k p)) refl refl refl
sends_each o p k (k' ∷ ks) s (g, gs) =
    let l = at (last_of k' ks) p in
    let s' = sent_after k o s in
    let r = in_partition p (next_to_send k o s) in
    behind r (filter_map (in_partition p) (sends o (k' ∷ ks) s')) (owned l o (at (sent_by o (k' ∷ ks) s') p) (length l))
    ∙ ap (λ ns. cons_option r ns) (sends_each o p k' ks s' gs)
    ∙ turn o p k s l (found k o s One) (found k o s Two) (found k o s Three)
    (grown_to_last p k (k' ∷ ks) (g, gs)) refl refl refl
