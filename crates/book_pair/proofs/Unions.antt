-- Two finite maps as one: what is under a number, how many there are, and a change of one of the two. Assumes nothing.
use Rattle.std.specs.Prelude.{◌≡◌, ◌≢◌, ℕ, ◌+◌, Bool, true, false, cond, ◌&&◌, ◌⊎◌, List, [], ◌∷◌, length, is_some, Some, None, Option, ◌==◌, refl}
use Rattle.std.proofs.Common.{T, sym, ap, ◌∙◌, subst, inl, inr, arith}
use Rattle.std.proofs.lemmas.Bool.{both_ways, cases_eq, cond-false, cond-true, eq-eqb, ne_eqb}
use Rattle.std.specs.Cmp.{nat_cmp_total, tied_itself}
use Rattle.std.specs.FinMap.{FinMap, entries, entries_sorted, get, get-entries, get-insert, insert, len, len-entries, len-insert, empty_of_len, get-empty}
use Rattle.std.specs.FinMap.Entries.{below_all, find, is_sorted}
use Rattle.std.specs.Ordering.{eq_by_cmp, is_eq, is_lt, nat_cmp}
use Rattle.std.specs.declared.cmp.Ordering.{Ordering}
use Rattle.std.specs.declared.cmp.Ordering.TheVariants.{Less, Equal, Greater}
use Rattle.keyed.specs.Look.{put}
use Rattle.keyed.proofs.Keyed.{get-put, put-apart, put-here, same}
use Rattle.book_pair.specs.Unions.{Apart, first_of, over, union}

both_parts : (a b : Bool) → T (a && b) → T a × T b
both_parts true b h = (tt, h)
both_parts false b h = absurd h

itself : (x : ℕ) → eq_by_cmp nat_cmp x x ≡ true
itself x = ap is_eq (tied_itself nat_cmp_total x)

module _ {V : Type 0} where
  -- ---- what is under a number

  get-over : (es : List (ℕ × V)) (b : FinMap nat_cmp V) (q : ℕ) → get (over es b) q
      ≡ first_of (find nat_cmp q es) (get b q)
  get-over [] b q = refl
  get-over (e ∷ es) b q =
      get-insert nat_cmp_total (over es b) e.0 e.1 q ∙ go (eq_by_cmp nat_cmp q e.0) (get-over es b q)
    where
      go : (t : Bool) → get (over es b) q ≡ first_of (find nat_cmp q es) (get b q) → cond t (Some e.1) (get (over es b) q)
          ≡ first_of (cond t (Some e.1) (find nat_cmp q es)) (get b q)
      go true h = refl
      go false h = h

  pub get-union : (a b : FinMap nat_cmp V) (q : ℕ) → get (union a b) q ≡ first_of (get a q) (get b q)
  get-union a b q =
      get-over (entries a) b q ∙ ap (λ (w : Option V). first_of w (get b q)) (sym (get-entries a q))

  -- ---- how many there are

  below_none : (x : ℕ) (es : List (ℕ × V)) → T (below_all nat_cmp x es) → find nat_cmp x es ≡ None
  below_none x [] h = refl
  below_none x (e ∷ es) h = go (nat_cmp x e.0) h (below_none x es)
    where
      go : (o : Ordering) → T (is_lt o && below_all nat_cmp x es)
          → (T (below_all nat_cmp x es) → find nat_cmp x es ≡ None)
          → cond (is_eq o) (Some e.1) (find nat_cmp x es) ≡ None
      go Less h ih = ih h
      go Equal h ih = absurd h
      go Greater h ih = absurd h

  len-over : (es : List (ℕ × V)) (b : FinMap nat_cmp V) → T (is_sorted nat_cmp es)
      → ((q : ℕ) → is_some (find nat_cmp q es) ≡ true → get b q ≡ None) → len (over es b) ≡ length es + len b
  len-over [] b s h = omega arith
  len-over (e ∷ es) b s h =
      let p = both_parts (below_all nat_cmp e.0 es) (is_sorted nat_cmp es) s in
      let alone : get (over es b) e.0 ≡ None =
      get-over es b e.0 ∙ ap (λ (w : Option V). first_of w (get b e.0)) (below_none e.0 es p.0)
      ∙ h e.0 (ap is_some (cond-true (eq_by_cmp nat_cmp e.0 e.0) _ _ (itself e.0))) in
      let rest = len-over es b p.1 (λ q k. h q (later q (eq_by_cmp nat_cmp q e.0) k)) in
      let one = len-insert nat_cmp_total (over es b) e.0 e.1 ∙ cond-false _ _ _ (ap is_some alone) in
      omega arith
    where
      later : (q : ℕ) (t : Bool) → is_some (find nat_cmp q es) ≡ true
          → is_some (cond t (Some e.1) (find nat_cmp q es)) ≡ true
      later q true k = refl
      later q false k = k

  pub len-union : (a b : FinMap nat_cmp V) → Apart a b → len (union a b) ≡ len a + len b
  len-union a b h =
      let e = len-over (entries a) b (entries_sorted a)
      (λ q k. h q (ap is_some (get-entries a q) ∙ k)) in
      let f = len-entries a in
      omega arith

  -- ---- a change of one of the two

  pub put-first : (a b : FinMap nat_cmp V) (n : ℕ) (w : Option V) → get b n ≡ None
      → union (put a n w) b ≡ put (union a b) n w
  put-first a b n w h =
      same _ _
      (λ q. get-union (put a n w) b q ∙ ap (λ (x : Option V). first_of x (get b q)) (get-put a n w q)
      ∙ go q (cases_eq n q) ∙ sym (get-put (union a b) n w q))
    where
      none : (x : Option V) → first_of x None ≡ x
      none None = refl
      none (Some v) = refl

      go : (q : ℕ) → (n ≡ q) ⊎ (n ≢ q) → first_of (cond (n == q) w (get a q)) (get b q)
          ≡ cond (n == q) w (get (union a b) q)
      go q (inl e) =
          ap (λ (x : Option V). first_of x (get b q)) (cond-true (n == q) _ _ (eq-eqb n q e))
          ∙ ap (first_of w) (ap (get b) (sym e) ∙ h) ∙ none w ∙ sym (cond-true (n == q) _ _ (eq-eqb n q e))
      go q (inr ne) =
          ap (λ (x : Option V). first_of x (get b q)) (cond-false (n == q) _ _ (ne_eqb n q ne))
          ∙ sym (get-union a b q) ∙ sym (cond-false (n == q) _ _ (ne_eqb n q ne))

  pub put-second : (a b : FinMap nat_cmp V) (n : ℕ) (w : Option V) → get a n ≡ None
      → union a (put b n w) ≡ put (union a b) n w
  put-second a b n w h =
      same _ _
      (λ q. get-union a (put b n w) q ∙ ap (first_of (get a q)) (get-put b n w q)
      ∙ go q (cases_eq n q) ∙ sym (get-put (union a b) n w q))
    where
      go : (q : ℕ) → (n ≡ q) ⊎ (n ≢ q) → first_of (get a q) (cond (n == q) w (get b q))
          ≡ cond (n == q) w (get (union a b) q)
      go q (inl e) =
          ap (first_of (get a q)) (cond-true (n == q) _ _ (eq-eqb n q e))
          ∙ ap (λ (x : Option V). first_of x w) (ap (get a) (sym e) ∙ h) ∙ sym (cond-true (n == q) _ _ (eq-eqb n q e))
      go q (inr ne) =
          ap (first_of (get a q)) (cond-false (n == q) _ _ (ne_eqb n q ne))
          ∙ sym (get-union a b q) ∙ sym (cond-false (n == q) _ _ (ne_eqb n q ne))

  pub apart-first : (a b : FinMap nat_cmp V) (n : ℕ) (w : Option V) → Apart a b → get b n ≡ None → Apart (put a n w) b
  apart-first a b n w h e q k = go (cases_eq n q)
    where
      go : (n ≡ q) ⊎ (n ≢ q) → get b q ≡ None
      go (inl f) = ap (get b) (sym f) ∙ e
      go (inr ne) = h q (ap is_some (sym (put-apart a n w q (λ f. ne (sym f)))) ∙ k)

  pub apart-second : (a b : FinMap nat_cmp V) (n : ℕ) (w : Option V) → Apart a b → get a n ≡ None
      → Apart a (put b n w)
  apart-second a b n w h e q k = go (cases_eq n q)
    where
      go : (n ≡ q) ⊎ (n ≢ q) → get (put b n w) q ≡ None
      go (inl f) = absurd (both_ways (is_some (get a q)) (ap is_some (ap (get a) (sym f) ∙ e)) k)
      go (inr ne) = put-apart b n w q (λ f. ne (sym f)) ∙ h q k

  -- nor is in the first what is in the second
  pub apart-back : (a b : FinMap nat_cmp V) → Apart a b → Apart b a
  apart-back a b h n k = go (get a n) refl
    where
      go : (w : Option V) → get a n ≡ w → get a n ≡ None
      go None e = e
      go (Some v) e = absurd (both_ways (is_some (get b n)) (ap is_some (h n (ap is_some e))) k)

  -- what is known in the one is not in the other, and what is not known in both is in neither
  pub in_first : (a b : FinMap nat_cmp V) (n : ℕ) → get b n ≡ None → get (union a b) n ≡ get a n
  in_first a b n e = get-union a b n ∙ ap (first_of (get a n)) e ∙ go (get a n)
    where
      go : (x : Option V) → first_of x None ≡ x
      go None = refl
      go (Some v) = refl

  pub in_second : (a b : FinMap nat_cmp V) (n : ℕ) → get a n ≡ None → get (union a b) n ≡ get b n
  in_second a b n e = get-union a b n ∙ ap (λ (x : Option V). first_of x (get b n)) e

  none_of : (x y : Option V) → first_of x y ≡ None → (x ≡ None) × (y ≡ None)
  none_of None y e = (refl, e)
  none_of (Some v) y e = absurd (cc)

  pub in_neither : (a b : FinMap nat_cmp V) (n : ℕ) → get (union a b) n ≡ None → (get a n ≡ None) × (get b n ≡ None)
  in_neither a b n e = none_of (get a n) (get b n) (sym (get-union a b n) ∙ e)

  -- two empty maps
  pub apart-empty : (a b : FinMap nat_cmp V) → len b ≡ 0 → Apart a b
  apart-empty a b e n k = ap (λ (m : FinMap nat_cmp V). get m n) (empty_of_len b e) ∙ get-empty nat_cmp n
