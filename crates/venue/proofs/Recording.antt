-- One order changes, and its owner is told. Assumes nothing.
use Rattle.std.specs.Prelude.{slice_get, IfSome, is_some}
use Rattle.std.specs.Option.{option_map}
use Rattle.std.proofs.Common.{◌≡◌, ℕ, ◌+◌, ◌<◌, ◌≤◌, ◌⊎◌, Bool, true, false, cond, ◌&&◌, eqb, List, [], ◌∷◌, ◌++◌, length, Some, None, Ok, Err, Option, Result, inl, inr, refl, sym, ap, ◌∙◌, subst, append_assoc, append-nil, arith}
use Rattle.std.proofs.lemmas.Bool.{cond-true, cond-false, eq-eqb, ne_eqb, cases_eq, true≢false, and_left, and_right}
use Rattle.std.proofs.lemmas.List.Sums.{fold-append}
use Rattle.std.specs.List.{fold as fold_each}
use Rattle.std.specs.FinMap.{get, insert, len, contains_key, len-insert}
use Rattle.std.specs.Cmp.{nat_cmp_total}
use Rattle.std.specs.Result.{result_unwrap_or}
use Rattle.codes.specs.declared.session.Partition.{Partition}
use Rattle.codes.specs.declared.session.Partition.TheVariants.{One, Two, Three}
use Rattle.codes.specs.Session.{same_partition}
use Rattle.texts.specs.declared.values.Time.{Time}
use Rattle.keyed.specs.Numbers.{under}
use Rattle.keyed.proofs.Keyed.{put-here, put-apart}
use Rattle.limits.specs.declared.TheConstants.{ORDERS}
use Rattle.orders.specs.declared.row.Row.{Row}
use Rattle.orders.specs.declared.row.Terms.{Terms}
use Rattle.orders.specs.Rows.{orderly}
use Rattle.orders.specs.Kept.{kept_from}
use Rattle.orders.proofs.Kept.{kept_at}
use Rattle.partitions.specs.PerPartition.{at}
use Rattle.partitions.specs.Series.{grown}
use Rattle.reports.specs.declared.report.Entry.{Entry}
use Rattle.reports.specs.declared.report.ExecutionReport.{ExecutionReport}
use Rattle.reports.specs.declared.report.Report.TheVariants.{Execution}
use Rattle.reports.specs.declared.standings.FoldRefusal.{FoldRefusal}
use Rattle.reports.specs.Fold.{Knowledge, nothing_known, fold}
use Rattle.reports.specs.Told.{told_of}
use Rattle.reports.specs.Tally.{tally, tally_one}
use Rattle.store.specs.Kept.{Kept}
use Rattle.changes.specs.declared.change.Change.{Change}
use Rattle.changes.specs.Changes.{after}
use Rattle.changes.specs.Laws.{Knows, standing_of, reports_of, fold_all}
use Rattle.changes.proofs.Following.{follows}
use Rattle.configuration.specs.declared.instrument.Instrument.{Instrument}
use Rattle.venue.specs.Ledger.{entries_of, appended, told_at, standing, standing_in, told_one, all_told, Recorded}

-- ---- partitions

pub same_or_apart : (p q : Partition) → (p ≡ q) ⊎ (same_partition p q ≡ false)
same_or_apart One One = inl refl
same_or_apart One Two = inr refl
same_or_apart One Three = inr refl
same_or_apart Two One = inr refl
same_or_apart Two Two = inl refl
same_or_apart Two Three = inr refl
same_or_apart Three One = inr refl
same_or_apart Three Two = inr refl
same_or_apart Three Three = inl refl

pub same_self : (p : Partition) → same_partition p p ≡ true
same_self One = refl
same_self Two = refl
same_self Three = refl

grown-here : (k : Kept) (p : Partition) (e : Entry) → at (grown k p e) p ≡ at k p ++ e ∷ []
grown-here k One e = refl
grown-here k Two e = refl
grown-here k Three e = refl

grown-apart : (k : Kept) (p q : Partition) (e : Entry) → same_partition p q ≡ false → at (grown k p e) q ≡ at k q
grown-apart k One One e h = absurd (true≢false h)
grown-apart k One Two e h = refl
grown-apart k One Three e h = refl
grown-apart k Two One e h = refl
grown-apart k Two Two e h = absurd (true≢false h)
grown-apart k Two Three e h = refl
grown-apart k Three One e h = refl
grown-apart k Three Two e h = refl
grown-apart k Three Three e h = absurd (true≢false h)

pub appended-here : (k : Kept) (p : Partition) (es : List Entry) → at (appended k p es) p ≡ at k p ++ es
appended-here k p [] = sym (append-nil (at k p))
appended-here k p (e ∷ es) =
    appended-here (grown k p e) p es ∙ ap (λ l. l ++ es) (grown-here k p e) ∙ append_assoc (at k p) (e ∷ []) es

pub appended-apart : (k : Kept) (p q : Partition) (es : List Entry) → same_partition p q ≡ false
    → at (appended k p es) q ≡ at k q
appended-apart k p q [] h = refl
appended-apart k p q (e ∷ es) h = appended-apart (grown k p e) p q es h ∙ grown-apart k p q e h

-- ---- folding more reports

module _ (p : Partition) (o : ℕ) where
  abbrev told : Result Knowledge FoldRefusal → List Entry → Result Knowledge FoldRefusal
  told k l = fold_each (told_one p o) k l

  refused_stays : (x : FoldRefusal) (l : List Entry) → told (Err x) l ≡ Err x
  refused_stays x [] = refl
  refused_stays x (e ∷ l) = refused_stays x l

  -- reports of another owner
  others_pass : (q : ℕ) (k : Result Knowledge FoldRefusal) (es : List ExecutionReport) → eqb q o ≡ false
      → told k (entries_of q es) ≡ k
  others_pass q k [] h = refl
  others_pass q (Err x) (e ∷ es) h = others_pass q (Err x) es h
  others_pass q (Ok k) (e ∷ es) h =
      ap (λ b. told (cond b (fold p (told_of (Execution e)) k) (Ok k)) (entries_of q es)) h ∙ others_pass q (Ok k) es h

  -- and his own
  own_fold : (k : Result Knowledge FoldRefusal) (es : List ExecutionReport) → told k (entries_of o es) ≡ fold_all p es k
  own_fold k [] = refl
  own_fold (Err x) (e ∷ es) = own_fold (Err x) es
  own_fold (Ok k) (e ∷ es) =
      ap (λ b. told (cond b (fold p (told_of (Execution e)) k) (Ok k)) (entries_of o es)) (eq-eqb o o refl) ∙ own_fold
      (fold p (told_of (Execution e)) k) es

  -- where no report is refused, what is folded is the tally
  pub tally-told : (k k' : Knowledge) (l : List Entry) → told (Ok k) l ≡ Ok k' → fold_each (tally_one p o) k l ≡ k'
  tally-told k k' [] h = cc
  tally-told k k' (e ∷ l) h = go (eqb e.owner o) (fold p (told_of e.report) k) (λ j f. tally-told j k' l f) h
    where
      go : (b : Bool) (f : Result Knowledge FoldRefusal)
          → ((j : Knowledge) → told (Ok j) l ≡ Ok k' → fold_each (tally_one p o) j l ≡ k') → told (cond b f (Ok k)) l
          ≡ Ok k' → fold_each (tally_one p o) (cond b (result_unwrap_or f k) k) l ≡ k'
      go false f rest h = rest k h
      go true (Ok j) rest h = rest j h
      go true (Err x) rest h =
          let no : ◌≡◌ {A = Result Knowledge FoldRefusal} (Err x) (Ok k') = sym (refused_stays x l) ∙ h in absurd (cc)

-- ---- what an owner is to know of one row

-- of an order that is another's, or is told elsewhere: nothing
standing-none : (is : List Instrument) (o : ℕ) (p : Partition) (b : Row) (i : Instrument)
    → slice_get is b.terms.instrument ≡ Some i → (eqb b.terms.owner o && same_partition i.partition p) ≡ false
    → standing is o p (Some b) ≡ None
standing-none is o p b i at_i h = ap (standing_in o p b) at_i ∙ cond-false _ _ _ h

standing-some : (is : List Instrument) (b : Row) (i : Instrument) → slice_get is b.terms.instrument ≡ Some i
    → standing is b.terms.owner i.partition (Some b) ≡ Some (standing_of i.partition b)
standing-some is b i at_i =
    ap (standing_in b.terms.owner i.partition b) at_i
    ∙ cond-true _ _ _ (ap (λ x. x && same_partition i.partition i.partition)
    (eq-eqb b.terms.owner b.terms.owner refl) ∙ same_self i.partition)

-- ---- one row changes, or is new, and its owner is told

-- what a change does to the rows: under its number stands the row r, which is told for the instrument i
pub record Rewrites (is : List Instrument) (n : ℕ) (c : Change) (rows : List Row) (r : Row) (i : Instrument)
    (rows' : List Row) : Type 0 where
  pub here : under rows' n ≡ Some r
  pub apart : (m : ℕ) → (m ≡ n → ⊥) → under rows' m ≡ under rows m
  pub numbered : kept_from 1 rows' ≡ true
  pub made : after n c (under rows n) ≡ Some r
  pub instrument : slice_get is r.terms.instrument ≡ Some i
  pub inside : r.terms.instrument < length is
  pub terms : (b : Row) → under rows n ≡ Some b → b.terms ≡ r.terms
  pub longer : length rows ≤ length rows'
  pub new : under rows n ≡ None → (length rows < ORDERS) × (length rows' ≡ length rows + 1)

module _ (is : List Instrument) (n : ℕ) (c : Change) (rows : List Row) (r : Row) (i : Instrument) (rows' : List Row)
    (kept : Kept) (t : Time)
    (s : Recorded is rows kept) (w : Rewrites is n c rows r i rows') where
  abbrev o : ℕ
  o = r.terms.owner

  abbrev p : Partition
  p = i.partition

  abbrev es : List ExecutionReport
  es = reports_of (told_at i t) c r

  abbrev now : Kept
  now = appended kept p (entries_of o es)

  abbrev k : Knowledge
  k = tally p o (at kept p)

  number_of : (b : Option Row) → under rows n ≡ b → IfSome b (λ x. (x.number ≡ n) × (orderly x ≡ true))
  number_of None e = tt
  number_of (Some x) e = kept_at rows n x s.numbered e

  was_at : (b : Row) → under rows n ≡ Some b → slice_get is b.terms.instrument ≡ Some i
  was_at b e = ap (λ (x : Terms). slice_get is x.instrument) (w.terms b e) ∙ w.instrument

  stood : (b : Option Row) → under rows n ≡ b → standing is o p b ≡ option_map (standing_of p) b
  stood None e = refl
  stood (Some b) e =
      let own : b.terms.owner ≡ o = ap (λ (x : Terms). x.owner) (w.terms b e) in
      ap (λ x. standing is x p (Some b)) (sym own) ∙ standing-some is b i (was_at b e)

  known : Knows p n (under rows n) k
  known = record {
    number = number_of (under rows n) refl;
    stands = s.tallied o p n ∙ stood (under rows n) refl;
    room = λ e. let l = s.room o p in let m = (w.new e).0 in omega arith;
  }

  followed : fold_all p es (Ok k) ≡ Ok (insert k n (standing_of p r))
  followed = follows p (told_at i t) n c (under rows n) r k known w.made

  -- the owner's tally in the order's partition
  told_here : all_told p o (at now p) ≡ Ok (insert k n (standing_of p r))
  told_here =
      ap (all_told p o) (appended-here kept p (entries_of o es)) ∙ fold-append (told_one p o) (Ok nothing_known)
      (at kept p) (entries_of o es)
      ∙ ap (λ x. told p o x (entries_of o es)) (s.unrefused o p) ∙ own_fold p o (Ok k) es ∙ followed

  tally_here : tally p o (at now p) ≡ insert k n (standing_of p r)
  tally_here = tally-told p o nothing_known _ (at now p) told_here

  -- every other is as it was
  told_other : (q : ℕ) (u : Partition) → (p ≡ u) ⊎ (same_partition p u ≡ false)
      → (eqb o q && same_partition p u) ≡ false
      → all_told u q (at now u) ≡ all_told u q (at kept u)
  told_other q u (inr away) h = ap (all_told u q) (appended-apart kept p u (entries_of o es) away)
  told_other q u (inl here) h =
      subst (λ x. all_told x q (at now x) ≡ all_told x q (at kept x)) here
      (ap (all_told p q) (appended-here kept p (entries_of o es)) ∙ fold-append (told_one p q) (Ok nothing_known)
      (at kept p) (entries_of o es)
      ∙ others_pass p q o (all_told p q (at kept p)) es
      (another (eqb o q) (same_partition p u) (ap (same_partition p) (sym here) ∙ same_self p) h))
    where
      another : (x y : Bool) → y ≡ true → (x && y) ≡ false → x ≡ false
      another true y e h = absurd (cc)
      another false y e h = refl

  stood_none : (q : ℕ) (u : Partition) (b : Option Row) → under rows n ≡ b → (eqb o q && same_partition p u) ≡ false
      → standing is q u b ≡ None
  stood_none q u None e h = refl
  stood_none q u (Some b) e h =
      let own : b.terms.owner ≡ o = ap (λ (x : Terms). x.owner) (w.terms b e) in
      standing-none is q u b i (was_at b e) (ap (λ x. eqb x q && same_partition p u) own ∙ h)

  standing_other : (q : ℕ) (u : Partition) (m : ℕ) → (m ≡ n) ⊎ (m ≡ n → ⊥) → (eqb o q && same_partition p u) ≡ false
      → standing is q u (under rows m) ≡ standing is q u (under rows' m)
  standing_other q u m (inr ne) h = ap (standing is q u) (sym (w.apart m ne))
  standing_other q u m (inl e) h =
      subst (λ x. standing is q u (under rows x) ≡ standing is q u (under rows' x)) (sym e)
      (stood_none q u (under rows n) refl h
      ∙ sym (ap (standing is q u) w.here ∙ standing-none is q u r i w.instrument h))

  standing_own : (m : ℕ) → (m ≡ n) ⊎ (m ≡ n → ⊥)
      → get (insert k n (standing_of p r)) m ≡ standing is o p (under rows' m)
  standing_own m (inl e) =
      subst (λ x. get (insert k n (standing_of p r)) x ≡ standing is o p (under rows' x)) (sym e)
      (put-here k n (Some (standing_of p r)) ∙ sym (ap (standing is o p) w.here ∙ standing-some is r i w.instrument))
  standing_own m (inr ne) = put-apart k n (Some (standing_of p r)) m ne ∙ s.tallied o p m ∙ ap (standing is o p)
      (sym (w.apart m ne))

  -- at most one order more is known, and only where there is a row more
  room_here : (b : Option Row) → under rows n ≡ b → len (insert k n (standing_of p r)) ≤ length rows'
  room_here None e = by_test (contains_key k n) (len-insert nat_cmp_total k n (standing_of p r)) (s.room o p)
      (w.new e).1
    where
      by_test : (b : Bool) → len (insert k n (standing_of p r)) ≡ cond b (len k) (len k + 1) → len k ≤ length rows
          → length rows' ≡ length rows + 1 → len (insert k n (standing_of p r)) ≤ length rows'
      by_test true a l m = omega arith
      by_test false a l m = omega arith
  room_here (Some b) e =
      let there : get k n ≡ Some (standing_of p b) = known.stands ∙ ap (option_map (standing_of p)) e in
      let same : len (insert k n (standing_of p r))
      ≡ len k = len-insert nat_cmp_total k n (standing_of p r) ∙ cond-true _ _ _ (ap is_some there) in
      let l = s.room o p in
      let m = w.longer in
      omega arith

  -- one owner and one partition
  record Each (q : ℕ) (u : Partition) : Type 0 where
    unrefused : all_told u q (at now u) ≡ Ok (tally u q (at now u))
    tallied : (m : ℕ) → get (tally u q (at now u)) m ≡ standing is q u (under rows' m)
    room : len (tally u q (at now u)) ≤ length rows'

  each_other : (q : ℕ) (u : Partition) → (p ≡ u) ⊎ (same_partition p u ≡ false)
      → (eqb o q && same_partition p u) ≡ false → Each q u
  each_other q u b h =
      let told_same = told_other q u b h ∙ s.unrefused q u in
      let same : tally u q (at now u) ≡ tally u q (at kept u) = tally-told u q nothing_known _ (at now u) told_same in
      record {
        unrefused = told_same ∙ ap Ok (sym same);
        tallied = λ m. ap (λ x. get x m) same ∙ s.tallied q u m ∙ standing_other q u m (cases_eq m n) h;
        room = let l = s.room q u in let g = w.longer in let e = ap len same in omega arith;
      }

  each_own : Each o p
  each_own = record {
    unrefused = told_here ∙ ap Ok (sym tally_here);
    tallied = λ m. ap (λ x. get x m) tally_here ∙ standing_own m (cases_eq m n);
    room = let l = room_here (under rows n) refl in let e = ap len tally_here in omega arith;
  }

  each : (q : ℕ) (u : Partition) → (o ≡ q) ⊎ (o ≡ q → ⊥) → (p ≡ u) ⊎ (same_partition p u ≡ false) → Each q u
  each q u (inl a) (inl b) = subst (λ x. Each x u) a (subst (Each o) b each_own)
  each q u (inl a) (inr b) = each_other q u (inr b) (and_right (eqb o q) (same_partition p u) b)
  each q u (inr a) b = each_other q u b (and_left (eqb o q) (same_partition p u) (ne_eqb o q a))

  placed : (m : ℕ) (x : Row) → under rows' m ≡ Some x → (m ≡ n) ⊎ (m ≡ n → ⊥) → x.terms.instrument < length is
  placed m x e (inl h) =
      let same : r ≡ x = let a = sym w.here ∙ ap (under rows') (sym h) ∙ e in cc in
      subst (λ (y : Row). y.terms.instrument < length is) same w.inside
  placed m x e (inr ne) = s.placed m x (sym (w.apart m ne) ∙ e)

  pub recorded : Recorded is rows' now
  recorded = record {
    numbered = w.numbered;
    placed = λ m x e. placed m x e (cases_eq m n);
    unrefused = λ q u. (each q u (cases_eq o q) (same_or_apart p u)).unrefused;
    tallied = λ q u m. (each q u (cases_eq o q) (same_or_apart p u)).tallied m;
    room = λ q u. (each q u (cases_eq o q) (same_or_apart p u)).room;
  }
