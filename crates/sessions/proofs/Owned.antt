-- The owner's numbers, and the lowest of them. Assumes nothing.
use Rattle.std.proofs.Common.{◌≡◌, ℕ, zero, suc, ◌+◌, ◌-◌, ◌<◌, ◌≤◌, Bool, true, false, cond, leb, List, [], ◌∷◌, ◌++◌, length, Some, None, Option, refl, ap, ◌∙◌, arith, inl, inr, ◌⊎◌}
use Rattle.std.proofs.lemmas.Bool.{cases_order, cond-true, cond-false, leb-true, leb-false}
use Rattle.std.specs.List.{filter, range_with_len}
use Rattle.keyed.specs.Numbers.{under}
use Rattle.reports.specs.declared.report.Entry.{Entry}
use Rattle.reports.specs.Tally.{is_of}
use Rattle.sessions.specs.Downloads.{up_to}
use Rattle.sessions.specs.Laws.{owned}
use Rattle.store.proofs.Nexts.{next-lowest}
use Rattle.store.specs.Kept.{next_after}
use Rattle.store.specs.Laws.{Lowest}

-- whether a number's report is the owner's
abbrev pub hers : ℕ → List Entry → ℕ → Bool
hers o l n = is_of o (under l n)

-- a number that stands stays when more reports come
pub under_grown : (l more : List Entry) (n : ℕ) → n ≤ length l → under (l ++ more) n ≡ under l n
under_grown [] more zero h = refl
under_grown [] more (suc n) h = absurd (omega arith)
under_grown (x ∷ l) more zero h = refl
under_grown (x ∷ l) more (suc zero) h = refl
under_grown (x ∷ l) more (suc (suc n)) h = under_grown l more (suc n) (omega arith)

-- the numbers from a + 1 on, c of them
abbrev pub hers_from : ℕ → List Entry → ℕ → ℕ → List ℕ
hers_from o l a c = filter (λ n. hers o l n) (range_with_len (a + 1) c)

pub from_grown : (o : ℕ) (l more : List Entry) (c a : ℕ) → (0 < c → a + c ≤ length l) → hers_from o (l ++ more) a c
    ≡ hers_from o l a c
from_grown o l more zero a h = refl
from_grown o l more (suc c) a h =
    let e = under_grown l more (a + 1) (let b : a + suc c ≤ length l = h (omega arith) in omega arith) in
    rw e (ap (λ ns. cond (hers o l (a + 1)) ((a + 1) ∷ ns) ns)
    (from_grown o l more c (a + 1) (λ p. let b : a + suc c ≤ length l = h (omega arith) in omega arith)))

pub owned_grown : (o : ℕ) (l more : List Entry) (a t : ℕ) → t ≤ length l → owned (l ++ more) o a t ≡ owned l o a t
owned_grown o l more a t h = from_grown o l more (t - a) a (λ p. omega arith)

-- none of them is the owner's
pub from_none : (o : ℕ) (l : List Entry) (c a : ℕ) → ((k : ℕ) → a < k → k ≤ a + c → hers o l k ≡ false)
    → hers_from o l a c ≡ []
from_none o l zero a h = refl
from_none o l (suc c) a h =
    cond-false _ _ _ (h (a + 1) (omega arith) (omega arith)) ∙ from_none o l c (a + 1)
    (λ k lt le. h k (omega arith) (omega arith))

-- the lowest comes first
pub from_some : (o : ℕ) (l : List Entry) (n c a : ℕ) → a < n → n ≤ a + c → hers o l n ≡ true
    → ((k : ℕ) → a < k → k < n → hers o l k ≡ false) → hers_from o l a c ≡ n ∷ hers_from o l n (a + c - n)
from_some o l n zero a lt le t h = absurd (omega arith)
from_some o l n (suc c) a lt le t h =
    go (cases_order (a + 1) n) (λ b. from_some o l n c (a + 1) b (omega arith) t (λ k p q. h k (omega arith) q))
  where
    go : (a + 1 ≡ n) ⊎ ((a + 1 < n) ⊎ (n < a + 1))
        → (a + 1 < n → hers_from o l (a + 1) c ≡ n ∷ hers_from o l n (a + 1 + c - n)) → hers_from o l a (suc c) ≡ n
        ∷ hers_from o l n (a + suc c - n)
    go (inl e) next =
        let s : hers o l (a + 1) ≡ true = rw e t in
        let m : a + suc c - n ≡ c = omega arith in
        cond-true _ _ _ s ∙ rw (e, m)
    go (inr (inl b)) next =
        let m : a + 1 + c - n ≡ a + suc c - n = omega arith in
        cond-false _ _ _ (h (a + 1) (omega arith) b) ∙ next b ∙ rw m
    go (inr (inr b)) next = absurd (omega arith)

-- what a look for the next number says of the owner's numbers up to a target
abbrev pub Next : ℕ → List Entry → ℕ → ℕ → Option ℕ → Type 0
Next o l a t None = owned l o a t ≡ []
Next o l a t (Some n) = owned l o a t ≡ n ∷ owned l o n t

next_by : (o : ℕ) (l : List Entry) (a t n : ℕ) (b : Bool) → leb n t ≡ b → Lowest l o a (Some n)
    → Next o l a t (cond b (Some n) None)
next_by o l a t n true e h =
    let le : n ≤ t = leb-true n t e in
    let lt : a < n = h.0 in
    let m : a + (t - a) - n ≡ t - n = omega arith in
    from_some o l n (t - a) a lt (omega arith) h.1 h.2 ∙ rw m
next_by o l a t n false e h =
    let lt : t < n = leb-false n t e in
    from_none o l (t - a) a (λ k p q. h.2 k p (omega arith))

next_of_lowest : (o : ℕ) (l : List Entry) (a t : ℕ) (r : Option ℕ) → Lowest l o a r → Next o l a t (up_to t r)
next_of_lowest o l a t None h = from_none o l (t - a) a (λ k p q. h k p)
next_of_lowest o l a t (Some n) h = next_by o l a t n (leb n t) refl h

pub next_owned : (o : ℕ) (l : List Entry) (a t : ℕ) → Next o l a t (up_to t (next_after l o a))
next_owned o l a t = next_of_lowest o l a t (next_after l o a) (next-lowest l o a)
