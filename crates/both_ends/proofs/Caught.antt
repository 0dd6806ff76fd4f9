-- The orders that a follower knows in each partition. Assumes nothing.
use Rattle.std.specs.Prelude.{is_some, ◌≢◌}
use Rattle.std.proofs.Common.{◌≡◌, ℕ, zero, suc, ◌+◌, ◌-◌, ◌<◌, ◌≤◌, ◌⊎◌, Bool, true, false, cond, ◌&&◌, eqb, leb, ltb, List, [], ◌∷◌, length, take, Some, None, Ok, Err, Option, Result, inl, inr, refl, sym, ap, ◌∙◌, subst, arith}
use Rattle.std.specs.Cmp.{nat_cmp_total}
use Rattle.std.specs.FinMap.{FinMap, get, insert, remove, len, contains_key, get-empty, len-empty, len-insert, len-remove}
use Rattle.std.specs.List.{fold as fold_each, slice_get}
use Rattle.std.specs.Ordering.{nat_cmp}
use Rattle.std.proofs.lemmas.Bool.{cond-true, cond-false, cases_eq, eq-eqb, lt-ltb, false≢true}
use Rattle.std.proofs.lemmas.List.{take-append-le}
use Rattle.std.specs.Result.{result_unwrap_or}
use Rattle.changes.specs.Laws.{standing_of}
use Rattle.codes.specs.declared.report.Status.{Status}
use Rattle.codes.specs.declared.session.Partition.{Partition}
use Rattle.codes.specs.Session.{same_partition}
use Rattle.configuration.specs.declared.instrument.Instrument.{Instrument}
use Rattle.both_ends.specs.Tallied.{there, Tallied}
use Rattle.keyed.proofs.Keyed.{same, put-here, put-apart}
use Rattle.keyed.specs.Numbers.{under}
use Rattle.limits.specs.declared.TheConstants.{ORDERS, SHARES}
use Rattle.orders.specs.declared.row.Row.{Row}
use Rattle.partitions.specs.PerPartition.{at}
use Rattle.reports.proofs.Tallies.{tally-laws}
use Rattle.reports.specs.Changes.{natural, stands, added, added_as, bounded, changed, changed_to, executed_after}
use Rattle.reports.specs.Effects.{effect_of}
use Rattle.reports.specs.Fold.{Knowledge, nothing_known, fold, fold_by, fold_known, fold_named, fold_new, fold_order}
use Rattle.reports.specs.Tally.{is_of, tally, tally_one, tally_to}
use Rattle.reports.specs.Told.{told_of}
use Rattle.reports.specs.declared.report.Entry.{Entry}
use Rattle.reports.specs.declared.standing.Effect.{Effect}
use Rattle.reports.specs.declared.standing.Effect.TheVariants.{Adds, Fills, Undoes, Tells, Nothing}
use Rattle.reports.specs.declared.standing.Standing.{Standing}
use Rattle.reports.specs.declared.standing.Told.{Told}
use Rattle.reports.specs.declared.standings.FoldRefusal.{FoldRefusal}
use Rattle.reports.specs.declared.standings.FoldRefusal.TheVariants.{Unfit, Full}
use Rattle.sessions.specs.Laws.{Grown}
use Rattle.store.specs.Kept.{Kept}
use Rattle.texts.specs.declared.identifiers.OrderId.{OrderId}
use Rattle.venue.proofs.Recording.{same_or_apart, same_self}
use Rattle.venue.specs.Ledger.{Recorded, all_told, standing, standing_in, told_one}

-- ---- cases that cannot be

refused : {A : Type 0} (x : FoldRefusal) (k : Knowledge) → ◌≡◌ {A = Result Knowledge FoldRefusal} (Err x) (Ok k) → A
refused x k e = absurd (cc)

no_entry : {A : Type 0} (e : Entry) → ◌≡◌ {A = Option Entry} None (Some e) → A
no_entry e h = absurd (cc)

-- ---- partitions

-- a test of partitions tells whether they are the same
at_same : (p q : Partition) → same_partition p q ≡ true → p ≡ q
at_same p q h = by_case (same_or_apart p q)
  where
    by_case : (p ≡ q) ⊎ (same_partition p q ≡ false) → p ≡ q
    by_case (inl e) = e
    by_case (inr a) = absurd (false≢true (sym a ∙ h))

at_apart : (p q : Partition) → p ≢ q → same_partition p q ≡ false
at_apart p q ne = by_case (same_or_apart p q)
  where
    by_case : (p ≡ q) ⊎ (same_partition p q ≡ false) → same_partition p q ≡ false
    by_case (inl e) = absurd (ne e)
    by_case (inr a) = a

-- a standing is seen in its own partition, and in no other
there_here : (p : Partition) (s : Standing) → s.partition ≡ p → there p (Some s) ≡ Some s
there_here p s e = cond-true _ _ _ (ap (λ u. same_partition u p) e ∙ same_self p)

there_apart : (p : Partition) (s : Standing) → s.partition ≢ p → there p (Some s) ≡ None
there_apart p s ne = cond-false _ _ _ (at_apart s.partition p ne)

-- what is seen in a partition is of it
there_of : (p : Partition) (s s' : Standing) → there p (Some s) ≡ Some s' → s.partition ≡ p
there_of p s s' h = at_same s.partition p (by_test (same_partition s.partition p) h)
  where
    by_test : (b : Bool) → cond b (Some s) None ≡ Some s' → b ≡ true
    by_test true e = refl
    by_test false e = absurd (cc)

-- what is of one partition is not seen in another
elsewhere : (p q : Partition) (o : Option Standing) → q ≢ p → there p o ≡ o → there q o ≡ None
elsewhere p q None ne h = refl
elsewhere p q (Some s) ne h = there_apart q s (λ e. ne (sym e ∙ there_of p s s h))

-- ---- how many numbers a map can have

module _ {V : Type 0} where
  -- a map whose keys are all among the numbers up to N has at most N of them
  counted : (N : ℕ) (m : FinMap nat_cmp V) → ((n : ℕ) → is_some (get m n) ≡ true → (0 < n) × (n ≤ N)) → len m ≤ N
  counted zero m h =
      let e : len m ≡ 0 = ap len (same m _ (λ n. none n (get m n) refl ∙ sym (get-empty nat_cmp n))) ∙ len-empty
      nat_cmp V in
      omega arith
    where
      none : (n : ℕ) (o : Option V) → get m n ≡ o → get m n ≡ None
      none n None e = e
      none n (Some v) e = let r = h n (ap is_some e) in absurd (let lt = r.0 in let le = r.1 in omega arith)
  counted (suc N) m h =
      by_test (contains_key m (suc N)) (len-remove nat_cmp_total m (suc N))
      (counted N (remove m (suc N)) (λ n k. within n (cases_eq n (suc N)) k))
    where
      within : (n : ℕ) → (n ≡ suc N) ⊎ (n ≡ suc N → ⊥) → is_some (get (remove m (suc N)) n) ≡ true → (0 < n) × (n ≤ N)
      within n (inl e) k =
          absurd (false≢true (sym (ap is_some (ap (get (remove m (suc N))) e ∙ put-here m (suc N) None)) ∙ k))
      within n (inr ne) k =
          let r = h n (ap is_some (sym (put-apart m (suc N) None n ne)) ∙ k) in
          let lt = r.0 in
          let le = r.1 in
          (lt, omega arith)

      by_test : (b : Bool) → len (remove m (suc N)) ≡ cond b (len m - 1) (len m) → len (remove m (suc N)) ≤ N
          → len m ≤ suc N
      by_test true e l = omega arith
      by_test false e l = omega arith

  -- and fewer, where it lacks one of them
  fewer : (N : ℕ) (m : FinMap nat_cmp V) (i : ℕ) (v : V) → ((n : ℕ) → is_some (get m n) ≡ true → (0 < n) × (n ≤ N))
      → (0 < i) × (i ≤ N) → get m i ≡ None → len m < N
  fewer N m i v h inside none =
      let grown : len (insert m i v) ≡ len m + 1 = len-insert nat_cmp_total m i v
      ∙ cond-false _ _ _ (ap is_some none) in
      let most = counted N (insert m i v) (λ n k. within n (cases_eq n i) k) in
      omega arith
    where
      within : (n : ℕ) → (n ≡ i) ⊎ (n ≡ i → ⊥) → is_some (get (insert m i v) n) ≡ true → (0 < n) × (n ≤ N)
      within n (inl e) k = subst (λ x. (0 < x) × (x ≤ N)) (sym e) inside
      within n (inr ne) k = h n (ap is_some (sym (put-apart m i (Some v) n ne)) ∙ k)

  -- only the numbers from 1 up to a list's length stand in it
  under_inside : (xs : List V) (n : ℕ) → is_some (under xs n) ≡ true → (0 < n) × (n ≤ length xs)
  under_inside xs zero h = absurd (false≢true h)
  under_inside [] (suc n) h = absurd (false≢true h)
  under_inside (x ∷ xs) (suc zero) h = (omega arith, omega arith)
  under_inside (x ∷ xs) (suc (suc n)) h =
      let r = under_inside xs (suc n) h in
      let le = r.1 in
      (omega arith, omega arith)

-- ---- what a fold writes

-- a standing under a number
abbrev Under : ℕ → Knowledge → Knowledge → Type 0
Under n k k' = (s : Standing) × (k' ≡ insert k n s)

-- a report that is not refused writes nothing, or a standing under one number
abbrev Written : Knowledge → Knowledge → Type 0
Written k k' = (k' ≡ k) ⊎ ((n : ℕ) × Under n k k')

-- what each part of a fold writes
written_known : (k k' : Knowledge) (n : ℕ) (o : Option Standing) → fold_known k n o ≡ Ok k' → Under n k k'
written_known k k' n None h = refused Unfit k' h
written_known k k' n (Some s) h = (s, cc)

written_room : (k k' : Knowledge) (n : ℕ) (s : Standing) (b : Bool) → cond b (Ok (insert k n s)) (Err Full) ≡ Ok k'
    → k' ≡ insert k n s
written_room k k' n s true h = cc
written_room k k' n s false h = refused Full k' h

written_new : (k k' : Knowledge) (n : ℕ) (o : Option Standing) → fold_new k n o ≡ Ok k' → Under n k k'
written_new k k' n None h = refused Unfit k' h
written_new k k' n (Some s) h = (s, written_room k k' n s (ltb (len k) ORDERS) h)

written_order : (p : Partition) (t : Told) (k k' : Knowledge) (n : ℕ) (o : Option Standing) → fold_order p t k n o
    ≡ Ok k' → Under n k k'
written_order p t k k' n None h = written_new k k' n (added p t) h
written_order p t k k' n (Some s) h = written_known k k' n (changed t s) h

written_named : (p : Partition) (t : Told) (k k' : Knowledge) (o : Option OrderId) → fold_named p t k o ≡ Ok k'
    → Written k k'
written_named p t k k' None h = refused Unfit k' h
written_named p t k k' (Some i) h = inr (i.number, written_order p t k k' i.number (get k i.number) h)

written_by : (e : Effect) (p : Partition) (t : Told) (k k' : Knowledge) → fold_by e p t k ≡ Ok k' → Written k k'
written_by Nothing p t k k' h = inl (cc)
written_by Adds p t k k' h = written_named p t k k' t.order h
written_by Fills p t k k' h = written_named p t k k' t.order h
written_by Undoes p t k k' h = written_named p t k k' t.order h
written_by Tells p t k k' h = written_named p t k k' t.order h

written : (p : Partition) (o : Option Told) (k k' : Knowledge) → fold p o k ≡ Ok k' → Written k k'
written p None k k' h = inl (cc)
written p (Some t) k k' h = written_by (effect_of t.kind) p t k k' h

-- an order that is known
abbrev Has : Knowledge → ℕ → Type 0
Has k n = is_some (get k n) ≡ true

-- what is written is known
has_under : (k k' : Knowledge) (n : ℕ) → Under n k k' → Has k' n
has_under k k' n (s, e) = ap (λ x. is_some (get x n)) e ∙ ap is_some (put-here k n (Some s))

-- a fold forgets no order
has_written : (k k' : Knowledge) (n : ℕ) → Written k k' → Has k n → Has k' n
has_written k k' n (inl e) h = ap (λ x. is_some (get x n)) e ∙ h
has_written k k' n (inr (i, (s, e))) h = ap (λ x. is_some (get x n)) e ∙ by_case (cases_eq n i)
  where
    by_case : (n ≡ i) ⊎ (n ≡ i → ⊥) → Has (insert k i s) n
    by_case (inl q) = ap is_some (ap (get (insert k i s)) q ∙ put-here k i (Some s))
    by_case (inr ne) = ap is_some (put-apart k i (Some s) n ne) ∙ h

-- ---- folding the reports of one partition

module _ (p : Partition) (o : ℕ) where
  abbrev told : Result Knowledge FoldRefusal → List Entry → Result Knowledge FoldRefusal
  told r l = fold_each (told_one p o) r l

  abbrev from : Knowledge → List Entry → Knowledge
  from k l = fold_each (tally_one p o) k l

  -- no order is forgotten over one report, or over all
  has_one : (k : Knowledge) (x : Entry) (n : ℕ) → Has k n → Has (tally_one p o k x) n
  has_one k x n h = by_test (eqb x.owner o) (fold p (told_of x.report) k) refl
    where
      by_test : (b : Bool) (r : Result Knowledge FoldRefusal) → fold p (told_of x.report) k ≡ r
          → Has (cond b (result_unwrap_or r k) k) n
      by_test false r e = h
      by_test true (Err y) e = h
      by_test true (Ok k') e = has_written k k' n (written p (told_of x.report) k k' e) h

  has_all : (k : Knowledge) (l : List Entry) (n : ℕ) → Has k n → Has (from k l) n
  has_all k [] n h = h
  has_all k (x ∷ l) n h = has_all (tally_one p o k x) l n (has_one k x n h)

  -- an order that is known after the first reports is known after all
  has_whole : (k : Knowledge) (l : List Entry) (m n : ℕ) → Has (from k (take m l)) n → Has (from k l) n
  has_whole k l zero n h = has_all k l n h
  has_whole k [] (suc m) n h = h
  has_whole k (x ∷ l) (suc m) n h = has_whole (tally_one p o k x) l m n h

  -- after a refusal nothing is taken
  refused_stays : (x : FoldRefusal) (l : List Entry) → told (Err x) l ≡ Err x
  refused_stays x [] = refl
  refused_stays x (e ∷ l) = refused_stays x l

  -- where no later report is refused, no earlier one was
  taken_first : (k k' : Knowledge) (r : Result Knowledge FoldRefusal) (l : List Entry) → told r l ≡ Ok k' → r
      ≡ Ok (result_unwrap_or r k)
  taken_first k k' (Ok j) l h = refl
  taken_first k k' (Err x) l h = refused x k' (sym (refused_stays x l) ∙ h)

  -- one report further, of whichever owner
  told_further : (k k' : Knowledge) (x : Entry) (l : List Entry) → told (Ok k) (x ∷ l) ≡ Ok k'
      → told (Ok (tally_one p o k x)) l ≡ Ok k'
  told_further k k' x l h = by_test (eqb x.owner o) (fold p (told_of x.report) k) h
    where
      by_test : (b : Bool) (r : Result Knowledge FoldRefusal) → told (cond b r (Ok k)) l ≡ Ok k'
          → told (Ok (cond b (result_unwrap_or r k) k)) l ≡ Ok k'
      by_test false r e = e
      by_test true (Ok j) e = e
      by_test true (Err y) e = refused y k' (sym (refused_stays y l) ∙ e)

  -- the owner's next report, over the tally of those before it
  taken_next : (k k' : Knowledge) (l : List Entry) (m n : ℕ) (e : Entry) → m < n
      → ((j : ℕ) → m < j → j < n → is_of o (under l j) ≡ false) → under l n ≡ Some e → e.owner ≡ o
      → told (Ok k) l ≡ Ok k'
      → fold p (told_of e.report) (from k (take m l))
      ≡ Ok (result_unwrap_or (fold p (told_of e.report) (from k (take m l))) (from k (take m l)))
  taken_next k k' l m zero e lt h found mine t = absurd (omega arith)
  taken_next k k' [] m (suc n) e lt h found mine t = no_entry e found
  taken_next k k' (x ∷ l) zero (suc zero) e lt h found mine t =
      let this : x ≡ e = cc in
      taken_first k k' (fold p (told_of e.report) k) l
      (sym (ap (λ r. told r l) (ap (told_one p o (Ok k)) this ∙ cond-true _ _ _ (eq-eqb _ _ mine))) ∙ t)
  taken_next k k' (x ∷ l) zero (suc (suc n)) e lt h found mine t =
      taken_next k k' l zero (suc n) e (omega arith) shift found mine
      (sym (ap (λ r. told r l) (cond-false _ _ _ (h 1 (omega arith) (omega arith)))) ∙ t)
    where
      shift : (j : ℕ) → 0 < j → j < suc n → is_of o (under l j) ≡ false
      shift zero a b = absurd (omega arith)
      shift (suc j) a b = h (suc (suc j)) (omega arith) (omega arith)
  taken_next k k' (x ∷ l) (suc m) (suc zero) e lt h found mine t = absurd (omega arith)
  taken_next k k' (x ∷ l) (suc m) (suc (suc n)) e lt h found mine t =
      taken_next (tally_one p o k x) k' l m (suc n) e (omega arith) shift found mine (told_further k k' x l t)
    where
      shift : (j : ℕ) → m < j → j < suc n → is_of o (under l j) ≡ false
      shift zero a b = absurd (omega arith)
      shift (suc j) a b = h (suc (suc j)) (omega arith) (omega arith)

  -- and so the tally up to it
  taken_tally : (l : List Entry) (m n : ℕ) (e : Entry) → m < n
      → ((j : ℕ) → m < j → j < n → is_of o (under l j) ≡ false) → under l n ≡ Some e → e.owner ≡ o → all_told p o l
      ≡ Ok (tally p o l)
      → fold p (told_of e.report) (tally_to p o l m) ≡ Ok (tally_to p o l n)
  taken_tally l m n e lt h found mine t =
      taken_next nothing_known (tally p o l) l m n e lt h found mine t ∙ ap Ok
      (sym ((tally-laws p o l).next m n e lt h found mine))

-- ---- a start, and a store that grows

-- where nothing was reported, nothing is known
pub begins : (c : ℕ) (kept : Kept) → Tallied c kept nothing_known (λ p. 0)
begins c kept p n =
    ap (there p) (get-empty nat_cmp n) ∙ sym (get-empty nat_cmp n) ∙ ap (λ k. get k n)
    (sym (tally-laws p c (at kept p)).start)

-- reports that come later change nothing of the tally up to a place
pub grows : (c : ℕ) (kept kept' : Kept) (k : Knowledge) (place : Partition → ℕ)
    → ((p : Partition) → Grown (at kept p) (at kept' p)) → ((p : Partition) → place p ≤ length (at kept p))
    → Tallied c kept k place → Tallied c kept' k place
grows c kept kept' k place g within w p n =
    w p n ∙ ap (λ l. get (tally p c l) n) (sym
    (ap (take (place p)) (g p).1 ∙ take-append-le (place p) (at kept p) (g p).0 (within p)))

-- ---- at the end

-- with no report of the owner past the place, each order stands as its row says
pub shown : (is : List Instrument) (rows : List Row) (kept : Kept) (c : ℕ) (k : Knowledge) (place : Partition → ℕ)
    → Recorded is rows kept → Tallied c kept k place → (p : Partition)
    → ((j : ℕ) → place p < j → is_of c (under (at kept p) j) ≡ false) → (n : ℕ) → there p (get k n)
    ≡ standing is c p (under rows n)
shown is rows kept c k place s w p none n =
    w p n ∙ ap (λ t. get t n) ((tally-laws p c (at kept p)).rest (place p) none) ∙ s.tallied c p n

-- ---- one report folded into both maps

-- the partition of what a report makes of an order
placed_added : (p : Partition) (t : Told) (s : Standing) → added p t ≡ Some s → s.partition ≡ p
placed_added p t s h = by_effect (effect_of t.kind) (natural t.leaves) h
  where
    by_effect : (e : Effect) (l : Option ℕ) → added_as e p t.status l ≡ Some s → s.partition ≡ p
    by_effect Adds (Some l) q = let e : s ≡ stands p t.status 0 l = cc in ap (λ (x : Standing). x.partition) e
    by_effect e l q = absurd (cc)

placed_bounded : (p : Partition) (st : Status) (l : ℕ) (x : Option ℕ) (s : Standing) → bounded p st l x ≡ Some s
    → s.partition ≡ p
placed_bounded p st l None s h = absurd (cc)
placed_bounded p st l (Some x) s h = by_test (leb x SHARES) h
  where
    by_test : (b : Bool) → cond b (Some (stands p st x l)) None ≡ Some s → s.partition ≡ p
    by_test true q = let e : s ≡ stands p st x l = cc in ap (λ (y : Standing). y.partition) e
    by_test false q = absurd (cc)

placed_changed : (t : Told) (s s' : Standing) → changed t s ≡ Some s' → s'.partition ≡ s.partition
placed_changed t s s' h = by_leaves (natural t.leaves) h
  where
    by_leaves : (l : Option ℕ) → changed_to t s l ≡ Some s' → s'.partition ≡ s.partition
    by_leaves None q = absurd (cc)
    by_leaves (Some l) q = placed_bounded s.partition t.status l (executed_after (effect_of t.kind) t.quantity l s) s' q

-- a map of all partitions, and the map of one: what a fold into both does
module _ (p : Partition) (k t : Knowledge) (w : (n : ℕ) → there p (get k n) ≡ get t n) where
  record Both (t' : Knowledge) (r : Result Knowledge FoldRefusal) : Type 0 where
    after : Knowledge
    taken : r ≡ Ok after
    here : (m : ℕ) → there p (get after m) ≡ get t' m
    others : (q : Partition) → q ≢ p → (m : ℕ) → there q (get after m) ≡ there q (get k m)

  -- a report that tells of no order
  unchanged : (t' : Knowledge) → t' ≡ t → Both t' (Ok k)
  unchanged t' e = record {
    after = k;
    taken = refl;
    here = λ m. w m ∙ ap (λ x. get x m) (sym e);
    others = λ q ne m. refl;
  }

  -- the same standing is written in both
  both_insert : (t' : Knowledge) (n : ℕ) (s : Standing) (r : Result Knowledge FoldRefusal) → s.partition ≡ p → get k n
      ≡ get t n → t' ≡ insert t n s → r ≡ Ok (insert k n s) → Both t' r
  both_insert t' n s r of alike e f = record {
    after = insert k n s;
    taken = f;
    here = λ m. here m (cases_eq m n) ∙ ap (λ x. get x m) (sym e);
    others = λ q ne m. others q ne m (cases_eq m n);
  }
    where
      here : (m : ℕ) → (m ≡ n) ⊎ (m ≡ n → ⊥) → there p (get (insert k n s) m) ≡ get (insert t n s) m
      here m (inl q) =
          subst (λ x. there p (get (insert k n s) x) ≡ get (insert t n s) x) (sym q)
          (ap (there p) (put-here k n (Some s)) ∙ there_here p s of ∙ sym (put-here t n (Some s)))
      here m (inr ne) = ap (there p) (put-apart k n (Some s) m ne) ∙ w m ∙ sym (put-apart t n (Some s) m ne)

      others : (q : Partition) → q ≢ p → (m : ℕ) → (m ≡ n) ⊎ (m ≡ n → ⊥) → there q (get (insert k n s) m)
          ≡ there q (get k m)
      others q ne m (inl h) =
          subst (λ x. there q (get (insert k n s) x) ≡ there q (get k x)) (sym h)
          (ap (there q) (put-here k n (Some s)) ∙ there_apart q s (λ x. ne (sym x ∙ of)) ∙ sym
          (elsewhere p q (get k n) ne (w n ∙ sym alike)))
      others q ne m (inr h) = ap (there q) (put-apart k n (Some s) m h)

  -- an order that is new, and one that is known
  both_new : (t' : Knowledge) (n : ℕ) (o : Option Standing) → ((s : Standing) → o ≡ Some s → s.partition ≡ p) → get k n
      ≡ get t n → len k < ORDERS → fold_new t n o ≡ Ok t' → Both t' (fold_new k n o)
  both_new t' n None of alike room h = refused Unfit t' h
  both_new t' n (Some s) of alike room h =
      both_insert t' n s _ (of s refl) alike (written_room t t' n s (ltb (len t) ORDERS) h)
      (cond-true _ _ _ (lt-ltb _ _ room))

  both_known : (t' : Knowledge) (n : ℕ) (o : Option Standing) → ((s : Standing) → o ≡ Some s → s.partition ≡ p)
      → get k n ≡ get t n → fold_known t n o ≡ Ok t' → Both t' (fold_known k n o)
  both_known t' n None of alike h = refused Unfit t' h
  both_known t' n (Some s) of alike h = both_insert t' n s _ (of s refl) alike (cc) refl

  both_order : (d : Told) (t' : Knowledge) (n : ℕ) → get k n ≡ get t n → (get k n ≡ None → len k < ORDERS)
      → fold_order p d t n (get t n) ≡ Ok t' → Both t' (fold_order p d k n (get k n))
  both_order d t' n alike room h = subst (λ o. Both t' (fold_order p d k n o)) (sym alike) (by_get (get t n) refl h)
    where
      by_get : (o : Option Standing) → get t n ≡ o → fold_order p d t n o ≡ Ok t' → Both t' (fold_order p d k n o)
      by_get None e q = both_new t' n (added p d) (placed_added p d) alike (room (alike ∙ e)) q
      by_get (Some s) e q =
          let of : s.partition ≡ p = there_of p s s (ap (there p) (sym (alike ∙ e)) ∙ w n ∙ e) in
          both_known t' n (changed d s) (λ s' x. placed_changed d s s' x ∙ of) alike q

  -- the order that is named fits: known in both alike, or new in both, with room for it
  abbrev Fits : Knowledge → Type 0
  Fits t' = (n : ℕ) → Has t' n → (get k n ≡ get t n) × (get k n ≡ None → len k < ORDERS)

  -- a report whose order fits is taken in the map of all as it is in that of the partition
  both_named : (d : Told) (t' : Knowledge) (i : Option OrderId) → Fits t' → fold_named p d t i ≡ Ok t'
      → Both t' (fold_named p d k i)
  both_named d t' None fits h = refused Unfit t' h
  both_named d t' (Some i) fits h =
      let fit = fits i.number (has_under t t' i.number (written_order p d t t' i.number (get t i.number) h)) in
      both_order d t' i.number fit.0 fit.1 h

  both_by : (f : Effect) (d : Told) (t' : Knowledge) → Fits t' → fold_by f p d t ≡ Ok t' → Both t' (fold_by f p d k)
  both_by Nothing d t' fits h = unchanged t' (cc)
  both_by Adds d t' fits h = both_named d t' d.order fits h
  both_by Fills d t' fits h = both_named d t' d.order fits h
  both_by Undoes d t' fits h = both_named d t' d.order fits h
  both_by Tells d t' fits h = both_named d t' d.order fits h

  both : (d : Option Told) (t' : Knowledge) → Fits t' → fold p d t ≡ Ok t' → Both t' (fold p d k)
  both None t' fits h = unchanged t' (cc)
  both (Some d) t' fits h = both_by (effect_of d.kind) d t' fits h

-- ---- an order is known in one partition alone

-- a row is told of in one partition
one_place : (is : List Instrument) (c : ℕ) (p q : Partition) (r : Option Row) → is_some (standing is c p r) ≡ true
    → is_some (standing is c q r) ≡ true → p ≡ q
one_place is c p q None h g = absurd (false≢true h)
one_place is c p q (Some r) h g = by_instrument (slice_get is r.terms.instrument) h g
  where
    located : (i : Instrument) (u : Partition) → is_some (standing_in c u r (Some i)) ≡ true → i.partition ≡ u
    located i u e = at_same i.partition u
        (by_test (eqb r.terms.owner c) (same_partition i.partition u) (standing_of u r) e)
      where
        by_test : (a b : Bool) (s : Standing) → is_some (cond (a && b) (Some s) None) ≡ true → b ≡ true
        by_test true true s x = refl
        by_test true false s x = x
        by_test false b s x = absurd (false≢true x)

    by_instrument : (i : Option Instrument) → is_some (standing_in c p r i) ≡ true → is_some (standing_in c q r i)
        ≡ true → p ≡ q
    by_instrument None a b = absurd (false≢true a)
    by_instrument (Some i) a b = sym (located i p a) ∙ located i q b

module _ (is : List Instrument) (rows : List Row) (kept : Kept) (c : ℕ) (s : Recorded is rows kept) where
  -- what is known of a partition's first reports is the number of a row that is told of there
  row_told : (p : Partition) (m n : ℕ) → Has (tally_to p c (at kept p) m) n → is_some (standing is c p (under rows n))
      ≡ true
  row_told p m n h = ap is_some (sym (s.tallied c p n)) ∙ has_whole p c nothing_known (at kept p) m n h

  -- a row that is told of is there
  row_there : (p : Partition) (n : ℕ) → is_some (standing is c p (under rows n)) ≡ true → is_some (under rows n) ≡ true
  row_there p n h = by_row (under rows n) h
    where
      by_row : (r : Option Row) → is_some (standing is c p r) ≡ true → is_some r ≡ true
      by_row None e = e
      by_row (Some r) e = refl

  module _ (k : Knowledge) (place : Partition → ℕ) (w : Tallied c kept k place) where
    -- what is known is the number of a row that is told of in its partition
    standing_told : (n : ℕ) (x : Standing) → get k n ≡ Some x
        → is_some (standing is c x.partition (under rows n)) ≡ true
    standing_told n x e =
        row_told x.partition (place x.partition) n
        (ap is_some (sym (w x.partition n) ∙ ap (there x.partition) e ∙ there_here x.partition x refl))

    -- so it is one of the numbers of the rows
    known_inside : (n : ℕ) → Has k n → (0 < n) × (n ≤ length rows)
    known_inside n h = by_get (get k n) refl h
      where
        by_get : (o : Option Standing) → get k n ≡ o → is_some o ≡ true → (0 < n) × (n ≤ length rows)
        by_get None e x = absurd (false≢true x)
        by_get (Some x) e y = under_inside rows n (row_there x.partition n (standing_told n x e))

    -- an order that is known in the partition's tally up to any place fits
    fits : (p : Partition) (m : ℕ) → length rows ≤ ORDERS → (n : ℕ) → Has (tally_to p c (at kept p) m) n
        → (get k n ≡ get (tally_to p c (at kept p) (place p)) n) × (get k n ≡ None → len k < ORDERS)
    fits p m most n h = (by_get (get k n) refl ∙ w p n, room)
      where
        told_here : is_some (standing is c p (under rows n)) ≡ true
        told_here = row_told p m n h

        by_get : (o : Option Standing) → get k n ≡ o → get k n ≡ there p (get k n)
        by_get None e = e ∙ sym (ap (there p) e)
        by_get (Some x) e =
            e ∙ sym (ap (there p) e ∙ there_here p x
            (one_place is c x.partition p (under rows n) (standing_told n x e) told_here))

        any : (o : Option Standing) → is_some o ≡ true → Standing
        any None e = absurd (false≢true e)
        any (Some x) e = x

        room : get k n ≡ None → len k < ORDERS
        room none =
            let lt = fewer (length rows) k n (any _ h) known_inside
            (under_inside rows n (row_there p n told_here)) none in
            omega arith

-- ---- the owner's next report is never refused

-- what the fold of the owner's next report makes
pub record Folded (c : ℕ) (kept : Kept) (k : Knowledge) (place : Partition → ℕ) (p : Partition) (n : ℕ)
    (e : Entry) : Type 0 where
  pub after : Knowledge
  pub taken : fold p (told_of e.report) k ≡ Ok after
  pub here : (m : ℕ) → there p (get after m) ≡ get (tally_to p c (at kept p) n) m
  pub others : (q : Partition) → q ≢ p → (m : ℕ) → there q (get after m) ≡ there q (get k m)

-- it is taken, the partition's part is then the tally up to its number, and the others' parts stay
pub folds : (is : List Instrument) (rows : List Row) (kept : Kept) (c : ℕ) (k : Knowledge) (place : Partition → ℕ)
    (p : Partition) (n : ℕ) (e : Entry) → Recorded is rows kept → length rows ≤ ORDERS
    → Tallied c kept k place → place p < n → ((j : ℕ) → place p < j → j < n → is_of c (under (at kept p) j) ≡ false)
    → under (at kept p) n ≡ Some e → e.owner ≡ c → Folded c kept k place p n e
folds is rows kept c k place p n e s most w lt none found mine =
    let t = tally_to p c (at kept p) (place p) in
    let b = both p k t (w p) (told_of e.report) (tally_to p c (at kept p) n) (fits is rows kept c s k place w p n most)
    (taken_tally p c (at kept p) (place p) n e lt none found mine (s.unrefused c p)) in
    record { after = b.after; taken = b.taken; here = b.here; others = b.others }
