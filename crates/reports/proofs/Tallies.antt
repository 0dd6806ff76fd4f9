-- The laws of the tally. Assumes nothing.
use Rattle.std.proofs.Common.{◌≡◌, ℕ, zero, suc, ◌<◌, ◌≤◌, Bool, true, false, cond, eqb, List, [], ◌∷◌, ◌++◌, take, Some, None, Option, sym, refl, ap, ◌∙◌, add-one, arith}
use Rattle.std.proofs.lemmas.Bool.{eq-eqb, cond-true, cond-false}
use Rattle.std.specs.List.{fold as fold_each}
use Rattle.std.specs.Result.{result_unwrap_or}
use Rattle.codes.specs.declared.session.Partition.{Partition}
use Rattle.reports.specs.declared.report.Entry.{Entry}
use Rattle.keyed.specs.Numbers.{under}
use Rattle.reports.specs.Told.{told_of}
use Rattle.reports.specs.Fold.{Knowledge, nothing_known, fold}
use Rattle.reports.specs.Tally.{is_of, tally_one, tally_to, own}
use Rattle.reports.specs.Laws.{Laws, TallyLaws}

never : {A : Type 0} (e : Entry) → ◌≡◌ {A = Option Entry} None (Some e) → A
never e h = absurd (let z : ◌≡◌ {A = ℕ} 0 1 = cc in let no : ⊥ = omega arith in no)

module _ (p : Partition) (o : ℕ) where
  abbrev from : Knowledge → List Entry → Knowledge
  from t l = fold_each (tally_one p o) t l

  abbrev one : Knowledge → Entry → Knowledge
  one t e = tally_one p o t e

  from-nil : (t : Knowledge) → from t [] ≡ t
  from-nil t = refl

  from_cons : (t : Knowledge) (e : Entry) (l : List Entry) → from t (e ∷ l) ≡ from (one t e) l
  from_cons t e l = refl

  -- one report more at the end
  pub from-push : (t : Knowledge) (l : List Entry) (e : Entry) → from t (l ++ (e ∷ [])) ≡ one (from t l) e
  from-push t [] e = refl
  from-push t (x ∷ l) e = from-push (one t x) l e

  from-further : (t : Knowledge) (l : List Entry) (n : ℕ) (e : Entry) → under l (suc n) ≡ Some e
      → from t (take (suc n) l) ≡ one (from t (take n l)) e
  from-further t [] n e h = never e h
  from-further t (x ∷ l) zero e h = let same : x ≡ e = cc in ap (one t) same
  from-further t (x ∷ l) (suc n) e h = from-further (one t x) l n e h

  not_own : (t : Knowledge) (e : Entry) → eqb e.owner o ≡ false → one t e ≡ t
  not_own t e h = cond-false _ _ _ h

  -- no report of the owner past n
  from-rest : (t : Knowledge) (l : List Entry) (n : ℕ) → ((k : ℕ) → n < k → is_of o (under l k) ≡ false)
      → from t (take n l) ≡ from t l
  from-rest t [] zero h = refl
  from-rest t [] (suc n) h = refl
  from-rest t (x ∷ l) zero h = from-rest t l zero shift ∙ ap (λ u. from u l) (sym (not_own t x (h 1 (omega arith))))
    where
      shift : (k : ℕ) → 0 < k → is_of o (under l k) ≡ false
      shift zero lt = refl
      shift (suc k) lt = h (suc (suc k)) (omega arith)
  from-rest t (x ∷ l) (suc n) h = from-rest (one t x) l n shift
    where
      shift : (k : ℕ) → n < k → is_of o (under l k) ≡ false
      shift zero lt = refl
      shift (suc k) lt = h (suc (suc k)) (omega arith)

  -- none between m and n
  from-skip : (t : Knowledge) (l : List Entry) (m n : ℕ) → m ≤ n
      → ((k : ℕ) → m < k → k ≤ n → is_of o (under l k) ≡ false) → from t (take n l) ≡ from t (take m l)
  from-skip t [] zero zero le h = refl
  from-skip t [] zero (suc n) le h = refl
  from-skip t [] (suc m) zero le h = refl
  from-skip t [] (suc m) (suc n) le h = refl
  from-skip t (x ∷ l) zero zero le h = refl
  from-skip t (x ∷ l) (suc m) zero le h = absurd (let no : ⊥ = omega arith in no)
  from-skip t (x ∷ l) zero (suc n) le h = ap (λ u. from u (take n l))
      (not_own t x (h 1 (omega arith) (omega arith))) ∙ from-skip t l zero n (omega arith) shift
    where
      shift : (k : ℕ) → 0 < k → k ≤ n → is_of o (under l k) ≡ false
      shift zero lt le = refl
      shift (suc k) lt le = h (suc (suc k)) (omega arith) (omega arith)
  from-skip t (x ∷ l) (suc m) (suc n) le h = from-skip (one t x) l m n (omega arith) shift
    where
      shift : (k : ℕ) → m < k → k ≤ n → is_of o (under l k) ≡ false
      shift zero lt le = refl
      shift (suc k) lt le = h (suc (suc k)) (omega arith) (omega arith)

  -- the tally of the owner's own reports
  own-one : (t : Knowledge) (e : Entry) (l : List Entry) (b : Bool) → b ≡ eqb e.owner o
      → ((u : Knowledge) → from u l ≡ from u (own o l))
      → from (cond b (result_unwrap_or (fold p (told_of e.report) t) t) t) l
      ≡ from t (cond b (e ∷ own o l) (own o l))
  own-one t e l true q h = h _
      ∙ ap (λ (c : Bool). from (cond c (result_unwrap_or (fold p (told_of e.report) t) t) t) (own o l))
      q ∙ sym (from_cons t e (own o l))
  own-one t e l false q h = h t

  from-own : (t : Knowledge) (l : List Entry) → from t l ≡ from t (own o l)
  from-own t [] = refl
  from-own t (e ∷ l) = own-one t e l (eqb e.owner o) refl (λ u. from-own u l)

  next-own : (l : List Entry) (m n : ℕ) (e : Entry) → m < n → ((k : ℕ) → m < k → k < n → is_of o (under l k) ≡ false)
      → under l n ≡ Some e → e.owner ≡ o → tally_to p o l n
      ≡ result_unwrap_or (fold p (told_of e.report) (tally_to p o l m)) (tally_to p o l m)
  next-own l m zero e lt h at mine = absurd (let no : ⊥ = omega arith in no)
  next-own l m (suc n) e lt h at mine =
      let t = nothing_known in
      from-further t l n e at ∙ ap (λ u. one u e)
      (from-skip t l m n (omega arith) (λ k a b. h k a (omega arith))) ∙ cond-true _ _ _ (eq-eqb _ _ mine)

  pub laws : (l : List Entry) → Laws p o l
  laws l = record {
    start = from-nil nothing_known;
    further = λ n e h. rw add-one (from-further nothing_known l n e (rw add-one at h));
    next = next-own l;
    rest = from-rest nothing_known l;
    only = λ l' e. from-own nothing_known l ∙ ap (from nothing_known) e ∙ sym (from-own nothing_known l');
  }

pub tally-laws : TallyLaws
tally-laws p o l = laws p o l
