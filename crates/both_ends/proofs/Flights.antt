-- The numbers of an owner's reports: which comes next, what was passed, and what grows. Assumes nothing.
use Rattle.std.proofs.Common.{◌≡◌, ◌⊎◌, inl, inr, ℕ, zero, suc, ◌<◌, ◌≤◌, true, false, List, [], ◌∷◌, ◌++◌, append-nil, Some, None, Option, length, refl, sym, ap, ◌∙◌, subst, arith}
use Rattle.std.proofs.lemmas.Bool.{cases_lt, eqb-true}
use Rattle.keyed.specs.Numbers.{under}
use Rattle.reports.specs.declared.report.Entry.{Entry}
use Rattle.reports.specs.Tally.{is_of}
use Rattle.sessions.proofs.Owned.{under_grown}
use Rattle.sessions.specs.Laws.{Grown}
use Rattle.store.specs.Laws.{Lowest}

-- no report of the owner stands above a number, up to another
abbrev pub Passed : ℕ → List Entry → ℕ → ℕ → Type 0
Passed c l a z = (j : ℕ) → a < j → j ≤ z → is_of c (under l j) ≡ false

-- the owner's next report above a mark, or one at or below it
pub record Next (c : ℕ) (l : List Entry) (a n : ℕ) : Type 0 where
  pub hers : is_of c (under l n) ≡ true
  pub between : (j : ℕ) → a < j → j < n → is_of c (under l j) ≡ false

-- only numbers that are there have reports
pub there_within : (c : ℕ) (l : List Entry) (n : ℕ) → is_of c (under l n) ≡ true → n ≤ length l
there_within c l zero h = omega arith
there_within c [] (suc n) h = absurd (let z : false ≡ true = h in cc)
there_within c (x ∷ l) (suc zero) h = omega arith
there_within c (x ∷ l) (suc (suc n)) h = let le = there_within c l (suc n) h in omega (arith, le)

pub next_within : (c : ℕ) (l : List Entry) (a n : ℕ) → Next c l a n → n ≤ length l
next_within c l a n h = there_within c l n h.hers

-- what stands under a number stays
pub stays_under : (l l' : List Entry) (n : ℕ) → Grown l l' → n ≤ length l → under l' n ≡ under l n
stays_under l l' n (more, e) h = ap (λ (xs : List Entry). under xs n) e ∙ under_grown l more n h

pub hers_grown : (c : ℕ) (l l' : List Entry) (n : ℕ) → Grown l l' → is_of c (under l n) ≡ true → is_of c (under l' n)
    ≡ true
hers_grown c l l' n g h = ap (is_of c) (stays_under l l' n g (there_within c l n h)) ∙ h

pub passed_grown : (c : ℕ) (l l' : List Entry) (a z : ℕ) → Grown l l' → z ≤ length l → Passed c l a z → Passed c l' a z
passed_grown c l l' a z g w h = λ j lt le. ap (is_of c) (stays_under l l' j g (omega (arith, le, w))) ∙ h j lt le

pub next_grown : (c : ℕ) (l l' : List Entry) (a n : ℕ) → Grown l l' → Next c l a n → Next c l' a n
next_grown c l l' a n g h =
    let w = next_within c l a n h in
    record {
      hers = hers_grown c l l' n g h.hers;
      between = λ j lt le. ap (is_of c) (stays_under l l' j g (omega (arith, le, w))) ∙ h.between j lt le;
    }

pub same : (l : List Entry) → Grown l l
same l = ([], sym (append-nil l))

pub longer : (l l' : List Entry) → Grown l l' → length l ≤ length l'
longer l l' (more, e) = subst (λ (xs : List Entry). length l ≤ length xs) (sym e) (by l)
  where
    by : (xs : List Entry) → length xs ≤ length (xs ++ more)
    by [] = omega arith
    by (x ∷ xs) = let h = by xs in omega (arith, h)

pub passed_on : (c : ℕ) (l : List Entry) (a b z : ℕ) → Passed c l a b → Passed c l b z → Passed c l a z
passed_on c l a b z h g = λ j lt le. by j lt le (cases_lt b j)
  where
    by : (j : ℕ) → a < j → j ≤ z → (b < j) ⊎ (j ≤ b) → is_of c (under l j) ≡ false
    by j lt le (inl q) = g j q le
    by j lt le (inr q) = h j lt q

pub passed_less : (c : ℕ) (l : List Entry) (a a' z z' : ℕ) → a ≤ a' → z' ≤ z → Passed c l a z → Passed c l a' z'
passed_less c l a a' z z' h g p = λ j lt le. p j (omega (arith, h, lt)) (omega (arith, g, le))

-- the next above a mark is the next above one that no report of the owner's parts from it
pub next_down : (c : ℕ) (l : List Entry) (a b n : ℕ) → Passed c l a b → Next c l b n → Next c l a n
next_down c l a b n p h = record { hers = h.hers; between = λ j lt q. by j lt q (cases_lt b j) }
  where
    by : (j : ℕ) → a < j → j < n → (b < j) ⊎ (j ≤ b) → is_of c (under l j) ≡ false
    by j lt q (inl r) = h.between j r q
    by j lt q (inr r) = p j lt r

-- and above any higher one
pub next_up : (c : ℕ) (l : List Entry) (a b n : ℕ) → a ≤ b → Next c l a n → Next c l b n
next_up c l a b n le h = record { hers = h.hers; between = λ j p q. h.between j (omega (arith, p, le)) q }

-- a look for the next number finds it, or passes all
pub found : (c : ℕ) (l : List Entry) (a n : ℕ) → Lowest l c a (Some n) → Next c l a n
found c l a n h = record { hers = h.1; between = h.2 }

pub passed_all : (c : ℕ) (l : List Entry) (a z : ℕ) → Lowest l c a None → Passed c l a z
passed_all c l a z h = λ j lt le. h j lt

-- the report under an owner's number
pub record Hers (c : ℕ) (l : List Entry) (n : ℕ) : Type 0 where
  pub entry : Entry
  pub stands : under l n ≡ Some entry
  pub owner : entry.owner ≡ c

is_hers_owner : (c : ℕ) (o : Option Entry) → is_of c o ≡ true → (e : Entry) × (o ≡ Some e) × (e.owner ≡ c)
is_hers_owner c None h = absurd (let z : false ≡ true = h in cc)
is_hers_owner c (Some e) h = (e, refl, eqb-true e.owner c h)

pub hers_is : (c : ℕ) (l : List Entry) (n : ℕ) → is_of c (under l n) ≡ true → Hers c l n
hers_is c l n h =
    let (e, s, o) = is_hers_owner c (under l n) h in
    record { entry = e; stands = s; owner = o }
