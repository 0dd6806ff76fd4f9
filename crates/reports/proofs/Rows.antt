-- What a change of the rows does to what is known.
use Rattle.std.specs.Prelude.{IfSome, position, slice_index_or, slice_set}
use Rattle.std.proofs.Common.{◌≡◌, ℕ, zero, suc, ◌==◌, ◌<◌, ◌≤◌, Bool, true, false, eqb, List, [], ◌∷◌, ◌++◌, length, Some, None, Ok, Err, Option, sym, refl, ap, ◌∙◌, arith}
use Rattle.std.specs.List.{slice_get}
use Rattle.std.specs.FinMap.{get, len}
use Rattle.std.proofs.lemmas.Bool.{cond-true, cond-false, eqb-true, eq-eqb, lt-ltb, le-ltb}
use Rattle.keyed.specs.Look.{Found, look}
use Rattle.keyed.proofs.Keyed.{position-found, get-keyed, keyed_at, keyed-set, keyed-push, len-keyed}
use Rattle.keyed.proofs.Looks.{look_here, look_past, distinct_from, distinct-to, distinct_push, distinct-set}
use Rattle.codes.specs.declared.session.Partition.{Partition}
use Rattle.limits.specs.declared.TheConstants.{ORDERS}
use Rattle.reports.specs.declared.standing.Standing.{Standing}
use Rattle.reports.specs.declared.standing.Told.{Told}
use Rattle.reports.specs.declared.standings.Known.{Known}
use Rattle.reports.specs.declared.standings.FoldRefusal.TheVariants.{Unfit, Full}
use Rattle.reports.specs.Known.{number_of, standing_of, known, Once, each_once}
use Rattle.reports.specs.Changes.{added, changed}
use Rattle.reports.specs.Fold.{fold_known, fold_new, fold_order}

abbrev row : ℕ → Standing → Known
row n s = record { number = n; standing = s }

abbrev place : List Known → ℕ → Option ℕ
place ks n = position (λ k. k.number == n) ks

found : (ks : List Known) (n : ℕ) (r : Option ℕ) → place ks n ≡ r → Found number_of standing_of ks n r
found ks n r e = position-found number_of standing_of ks n r (sym e)

-- where an order stands, by its place
stands_at : (ks : List Known) (i n : ℕ) (x : Known) → place ks n ≡ Some i → x ≡ slice_index_or ks i x
    → get (known ks) n ≡ Some x.standing
stands_at ks i n x e read =
    keyed_at number_of standing_of ks i n x (found ks n (Some i) e) ∙ ap (λ (k : Known). Some k.standing) (sym read)

stands_nowhere : (ks : List Known) (n : ℕ) → place ks n ≡ None → get (known ks) n ≡ None
stands_nowhere ks n e = get-keyed number_of standing_of ks n ∙ found ks n None e

-- each order once, as its standing changes and as one more is known
pub once_set : (ks ls : List Known) (i n : ℕ) (s : Standing) → each_once ks ≡ true → place ls n ≡ Some i → ks ≡ ls
    → each_once (slice_set ks i (row n s)) ≡ true
once_set ks ls i n s u e same =
    let at = (found ks n (Some i) (ap (λ l. place l n) same ∙ e)).2 in
    distinct-to number_of standing_of _ (distinct-set number_of standing_of ks i (row n s) (λ d lt. at d)
    (distinct_from number_of standing_of ks u))

pub once_push : (ks ls ks' : List Known) (n : ℕ) (s : Standing) → each_once ks ≡ true → ks' ≡ ks ++ row n s ∷ []
    → place ls n ≡ None → ks ≡ ls → each_once ks' ≡ true
once_push ks ls ks' n s u w e same =
    let new = found ks n None (ap (λ l. place l n) same ∙ e) in
    ap each_once w ∙ distinct-to number_of standing_of _
    (distinct_push number_of standing_of ks (row n s) (distinct_from number_of standing_of ks u) new)

pub once_of : (ks : List Known) → each_once ks ≡ true → Once ks
once_of ks u = distinct_from number_of standing_of ks u

pub len_known : (ks : List Known) → each_once ks ≡ true → length ks ≡ len (known ks)
len_known ks u = sym (len-keyed number_of standing_of ks (once_of ks u))

-- a known order, and what the report makes of it
pub folds_known : (ks ks' : List Known) (i n : ℕ) (t : Told) (x : Known) (s : Standing) (p : Partition) → place ks n
    ≡ Some i → x ≡ slice_index_or ks i x → ks' ≡ slice_set ks i (row n s) → Some s ≡ changed t x.standing
    → fold_order p t (known ks) n (get (known ks) n) ≡ Ok (known ks')
folds_known ks ks' i n t x s p e read w told =
    ap (fold_order p t (known ks) n) (stands_at ks i n x e read) ∙ ap (fold_known (known ks) n) (sym told)
    ∙ ap Ok (sym (ap known w ∙ keyed-set number_of standing_of ks i n (row n s) (found ks n (Some i) e) refl))

pub unfit_known : (ks : List Known) (i n : ℕ) (t : Told) (x : Known) (p : Partition) → place ks n ≡ Some i → x
    ≡ slice_index_or ks i x → None ≡ changed t x.standing → fold_order p t (known ks) n (get (known ks) n) ≡ Err Unfit
unfit_known ks i n t x p e read told =
    ap (fold_order p t (known ks) n) (stands_at ks i n x e read) ∙ ap (fold_known (known ks) n) (sym told)

-- an order that is not known yet
pub folds_new : (ks ks' : List Known) (n : ℕ) (p : Partition) (t : Told) (s : Standing) → each_once ks ≡ true
    → place ks n ≡ None → length ks < ORDERS → ks' ≡ ks ++ row n s ∷ [] → Some s ≡ added p t
    → fold_order p t (known ks) n (get (known ks) n) ≡ Ok (known ks')
folds_new ks ks' n p t s u e lt w told =
    let room : len (known ks) < ORDERS = let l = len_known ks u in omega arith in
    ap (fold_order p t (known ks) n) (stands_nowhere ks n e) ∙ ap (fold_new (known ks) n) (sym told) ∙ cond-true _ _ _
    (lt-ltb _ _ room)
    ∙ ap Ok (sym (ap known w ∙ keyed-push number_of standing_of ks (row n s) (found ks n None e)))

pub unfit_new : (ks : List Known) (n : ℕ) (p : Partition) (t : Told) → place ks n ≡ None → None ≡ added p t
    → fold_order p t (known ks) n (get (known ks) n) ≡ Err Unfit
unfit_new ks n p t e told =
    ap (fold_order p t (known ks) n) (stands_nowhere ks n e) ∙ ap (fold_new (known ks) n) (sym told)

pub full_new : (ks : List Known) (n : ℕ) (p : Partition) (t : Told) (s : Standing) → each_once ks ≡ true → place ks n
    ≡ None → ORDERS ≤ length ks → Some s ≡ added p t → fold_order p t (known ks) n (get (known ks) n) ≡ Err Full
full_new ks n p t s u e le told =
    let full : ORDERS ≤ len (known ks) = let l = len_known ks u in omega arith in
    ap (fold_order p t (known ks) n) (stands_nowhere ks n e) ∙ ap (fold_new (known ks) n) (sym told) ∙ cond-false _ _ _
    (le-ltb _ _ full)

-- what stands at an index is what is known of its number
pub known-nth : (ks : List Known) (i : ℕ) (k : Known) → Once ks → slice_get ks i ≡ Some k
    → look number_of standing_of ks k.number ≡ Some k.standing
known-nth [] i k u e = absurd (let z : ◌≡◌ {A = ℕ} 0 1 = cc in let no : ⊥ = omega arith in no)
known-nth (x ∷ ks) zero k u e =
    let same : x ≡ k = cc in
    look_here number_of standing_of x ks k.number (eq-eqb x.number k.number (ap number_of same)) ∙ ap
    (λ (y : Known). Some y.standing) same
known-nth (x ∷ ks) (suc i) k (new, u) e =
    let rest = known-nth ks i k u e in
    by-test (eqb x.number k.number) refl rest
  where
    by-test : (b : Bool) → eqb x.number k.number ≡ b → look number_of standing_of ks k.number ≡ Some k.standing
        → look number_of standing_of (x ∷ ks) k.number ≡ Some k.standing
    by-test true same there =
        absurd (let n : ◌≡◌ {A = Option Standing} None (Some k.standing) = sym
        (ap (look number_of standing_of ks) (sym (eqb-true _ _ same)) ∙ new) ∙ there in let z : ◌≡◌ {A = ℕ} 0 1 = cc in
        let no : ⊥ = omega arith in no)
    by-test false same there = look_past number_of standing_of x ks k.number same ∙ there

known_at : (ks : List Known) (i : ℕ) (k : Known) → each_once ks ≡ true → Some k ≡ slice_get ks i
    → get (known ks) k.number ≡ Some k.standing
known_at ks i k u e = get-keyed number_of standing_of ks k.number ∙ known-nth ks i k (once_of ks u) (sym e)

pub known_nth : (ds ks ls : List Known) (i : ℕ) (r : Option Known) → r ≡ slice_get ds i → ds ≡ ks → each_once ks ≡ true
    → ks ≡ ls → IfSome r (λ k. get (known ls) k.number ≡ Some k.standing)
known_nth ds ks ls i None e lent u same = tt
known_nth ds ks ls i (Some k) e lent u same =
    ap (λ l. get (known l) k.number) (sym same) ∙ known_at ks i k u (e ∙ ap (λ l. slice_get l i) lent)

-- the same by the answer of a search
pub standing_some : (ks : List Known) (i n : ℕ) (x : Known) → Some i ≡ place ks n → x ≡ slice_index_or ks i x
    → Some x.standing ≡ get (known ks) n
standing_some ks i n x e read = sym (stands_at ks i n x (sym e) read)

pub standing_none : (ks : List Known) (n : ℕ) → None ≡ place ks n → None ≡ get (known ks) n
standing_none ks n e = sym (stands_nowhere ks n (sym e))
