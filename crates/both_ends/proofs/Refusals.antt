-- A log is decided entry by entry: one that was not allowed is not allowed with more behind it. Assumes nothing.
use Rattle.std.proofs.Common.{◌≡◌, ◌<◌, ◌+◌, ℕ, List, ◌∷◌, Ok, Err, Result, IfOk, IsOk, drop, get_or, length, refl, sym, ap, ◌∙◌, subst}
use Rattle.std.proofs.lemmas.List.{drop_more}
use Rattle.std.proofs.lemmas.List.Folds.{fold_stays}
use Rattle.std.specs.List.{fold}
use Rattle.both_ends.specs.Allowed.{Allowed, Line, after_log, onward, quiet}
use Rattle.both_ends.specs.Asking.{made}
use Rattle.both_ends.specs.Deciding.{after_entry, onto, verdict}
use Rattle.both_ends.specs.declared.allowed.Breach.{Breach}
use Rattle.both_ends.specs.declared.entry.Entry.{Entry}
use Rattle.both_ends.specs.declared.entry.Entry.TheVariants.{Made, Midpoint, Asked}
use Rattle.both_ends.specs.declared.call.Done.{Done}

pub refused_stays : (c : ℕ) (b : Breach) (xs : List Done) → fold (onward c) (Err b) xs ≡ Err b
refused_stays c b xs = fold_stays (onward c) (Err b) (λ x. refl) xs

module _ {Q A : Type 0} where
  allowed_one : (c : ℕ) (x : Entry Q A) (xs : List (Entry Q A)) (w n : Line) → after_entry c x w ≡ Ok n
      → after_log c (made (x ∷ xs)) w ≡ after_log c (made xs) n
  allowed_one c (Made y) xs w n e = ap (λ s. fold (onward c) s (made xs)) e
  allowed_one c (Midpoint i p r) xs w n e = let same : w ≡ n = cc in ap (λ l. after_log c (made xs) l) same
  allowed_one c (Asked q a) xs w n e = let same : w ≡ n = cc in ap (λ l. after_log c (made xs) l) same

  refused_one : (c : ℕ) (x : Entry Q A) (xs : List (Entry Q A)) (w : Line) (b : Breach) → after_entry c x w ≡ Err b
      → after_log c (made (x ∷ xs)) w ≡ Err b
  refused_one c (Made y) xs w b e = ap (λ s. fold (onward c) s (made xs)) e ∙ refused_stays c b (made xs)
  refused_one c (Midpoint i p r) xs w b e = absurd cc
  refused_one c (Asked q a) xs w b e = absurd cc

  -- the entry at a place is allowed
  pub goes_on : {E : Type 0} (c i : ℕ) (xs : List (Entry Q A)) (d : Entry Q A) (w n : Line)
      (r : Result (Result (Unit {0}) Breach) E) (u : Unit {0}) → i < length xs
      → IfOk r (λ q. after_entry c (get_or xs i d) w ≡ onto q n) → r ≡ Ok (Ok u)
      → after_log c (made (drop i xs)) w ≡ after_log c (made (drop (i + 1) xs)) n
  goes_on c i xs d w n r u lt call e =
      let now : after_entry c (get_or xs i d) w ≡ Ok n = subst
      (λ s. IfOk s (λ q. after_entry c (get_or xs i d) w ≡ onto q n)) e call in
      ap (λ ys. after_log c (made ys) w) (drop_more xs i d lt)
      ∙ allowed_one c (get_or xs i d) (drop (i + 1) xs) w n now

  -- it is not, so neither is the log
  pub refused_at : {E : Type 0} (c i : ℕ) (xs : List (Entry Q A)) (d : Entry Q A) (w l n : Line) (b : Breach)
      (r : Result (Result (Unit {0}) Breach) E) → i < length xs
      → after_log c (made xs) l ≡ after_log c (made (drop i xs)) w
      → IfOk r (λ q. after_entry c (get_or xs i d) w ≡ onto q n) → r ≡ Ok (Err b)
      → Err b ≡ after_log c (made xs) l
  refused_at c i xs d w l n b r lt was call e =
      let now : after_entry c (get_or xs i d) w ≡ Err b = subst
      (λ s. IfOk s (λ q. after_entry c (get_or xs i d) w ≡ onto q n)) e call in
      sym (was ∙ ap (λ ys. after_log c (made ys) w) (drop_more xs i d lt)
      ∙ refused_one c (get_or xs i d) (drop (i + 1) xs) w b now)

-- where the verdict is Ok, the line allows the log
pub allowed_by : (c : ℕ) (xs : List Done) (r : Result (Unit {0}) Breach) → r ≡ verdict (after_log c xs quiet) → IsOk r
    → Allowed c xs
allowed_by c xs r is ok = by (after_log c xs quiet) refl is
  where
    by : (o : Result Line Breach) → after_log c xs quiet ≡ o → r ≡ verdict o → Allowed c xs
    by (Ok l) e h = (l, e)
    by (Err b) e h = cc (subst IsOk h ok)
