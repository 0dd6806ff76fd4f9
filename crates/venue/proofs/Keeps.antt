-- Every call keeps a venue sound. Assumes nothing.
use Rattle.std.specs.Prelude.{slice_get, is_none, nat_le, nat_lt}
use Rattle.std.proofs.Common.{◌≡◌, ℕ, zero, suc, ◌+◌, ◌<◌, ◌≤◌, ◌⊎◌, Bool, true, false, cond, eqb, List, [], ◌∷◌, ◌++◌, length, Some, None, Ok, Option, inl, inr, is_some, refl, sym, ap, ◌∙◌, subst, arith, ltb-true, lt-ltb}
use Rattle.std.proofs.lemmas.Bool.{and_parts, cond-true, cond-false, cases_eq, le-ltb}
use Rattle.std.proofs.lemmas.List.Sums.{fold-append, sum_by-cons, sum_by_push}
use Rattle.std.specs.Option.{option_map}
use Rattle.std.specs.FinMap.{get, len, get-empty, len-empty, empty_of_len}
use Rattle.std.specs.Ordering.{nat_cmp}
use Rattle.codes.specs.declared.session.Partition.{Partition}
use Rattle.codes.specs.declared.session.Partition.TheVariants.{One, Two, Three}
use Rattle.codes.specs.Session.{same_partition}
use Rattle.texts.specs.declared.values.Time.{Time}
use Rattle.texts.specs.declared.fixed.FixedText.{FixedText}
use Rattle.keyed.specs.Look.{put}
use Rattle.keyed.specs.Numbers.{under, put_under}
use Rattle.keyed.proofs.Keyed.{put-here, put-apart}
use Rattle.keyed.proofs.Under.{none-some, under-others}
use Rattle.limits.specs.declared.TheConstants.{ORDERS, SHARES}
use Rattle.matching.specs.Meaning.{Meaning, closed, resized, with_order}
use Rattle.matching.specs.declared.matcher.Held.{Held}
use Rattle.orders.specs.declared.row.Row.{Row}
use Rattle.orders.specs.declared.row.Ask.{Ask}
use Rattle.orders.specs.declared.row.Terms.{Terms}
use Rattle.orders.specs.declared.row.Ending.{Ending}
use Rattle.orders.specs.Rows.{is_open, orderable, accepted, ended, left_open, replaced}
use Rattle.orders.specs.Orders.{replace_fault}
use Rattle.orders.specs.Tables.{open_count}
use Rattle.orders.proofs.Kept.{kept_at, kept_none}
use Rattle.partitions.specs.PerPartition.{at}
use Rattle.partitions.specs.Series.{grown}
use Rattle.reports.specs.declared.standing.Standing.{Standing}
use Rattle.reports.specs.declared.report.Entry.{Entry}
use Rattle.reports.specs.Fold.{Knowledge, nothing_known, fold}
use Rattle.reports.specs.Told.{told_of}
use Rattle.reports.specs.Tally.{tally}
use Rattle.store.specs.Kept.{Kept, empty}
use Rattle.changes.specs.declared.change.Change.{Change}
use Rattle.changes.specs.declared.change.Change.TheVariants.{Accept, Replace, Withdraw}
use Rattle.changes.specs.Changes.{after}
use Rattle.changes.specs.Changes.{after as made_of}
use Rattle.changes.specs.Laws.{reports_of}
use Rattle.changes.proofs.Orderly.{replaceable}
use Rattle.configuration.specs.declared.instrument.Instrument.{Instrument}
use Rattle.limits.specs.declared.TheConstants.{INSTRUMENTS}
use Rattle.venue.specs.Ledger.{Ledger, told_at, told_in, appended, entries_of, rewritten, changed, standing, told_one, all_told, Recorded}
use Rattle.venue.specs.Acts.{Open, Alter, Note, enact, ledger_of}
use Rattle.venue.specs.Books.{Books, Sound, Booked, held_as, open_of, executed_of, traded}
use Rattle.venue.specs.Enacting.{Silent}
use Rattle.venue.proofs.Recording.{Rewrites, recorded, same_or_apart, appended-here, appended-apart, tally-told}
use Rattle.venue.proofs.Rows.{put-here as put-row-here, push_here, push_apart, past_none, keeps, rewrites_there, rewrites_new}

-- ---- a new day

under-nil : {X : Type 0} (n : ℕ) → under {X = X} [] n ≡ None
under-nil zero = refl
under-nil (suc n) = refl

nothing_told : (o : ℕ) (p : Partition) → all_told p o (at empty p) ≡ Ok (tally p o (at empty p))
nothing_told o One = refl
nothing_told o Two = refl
nothing_told o Three = refl

nothing_tallied : (o : ℕ) (p : Partition) (n : ℕ) → get (tally p o (at empty p)) n ≡ None
nothing_tallied o One n = get-empty nat_cmp n
nothing_tallied o Two n = get-empty nat_cmp n
nothing_tallied o Three n = get-empty nat_cmp n

nothing_counted : (o : ℕ) (p : Partition) → len (tally p o (at empty p)) ≤ 0
nothing_counted o One = omega (arith, len-empty nat_cmp Standing)
nothing_counted o Two = omega (arith, len-empty nat_cmp Standing)
nothing_counted o Three = omega (arith, len-empty nat_cmp Standing)

recorded-empty : (is : List Instrument) → Recorded is [] empty
recorded-empty is = record {
  numbered = kept_none [] refl;
  placed = λ n r e. none-some r (sym (under-nil n) ∙ e);
  unrefused = nothing_told;
  tallied = λ o p n. nothing_tallied o p n ∙ ap (λ b. standing is o p b) (sym (under-nil n));
  room = nothing_counted;
}

pub sound-fresh : (b : Books) → length b.instruments ≤ INSTRUMENTS → b.rows ≡ [] → b.trades ≡ [] → b.kept ≡ empty
    → len b.market.orders ≡ 0 → Sound b
sound-fresh b listed rows trades kept none = record {
  listed = listed;
  recorded = subst (λ x. Recorded b.instruments x b.kept) (sym rows)
      (subst (Recorded b.instruments []) (sym kept) (recorded-empty b.instruments));
  booked = λ n. ap (λ m. get m n) (empty_of_len b.market.orders none) ∙ get-empty nat_cmp n ∙ sym
      (ap (λ x. open_of (under x n)) rows ∙ ap open_of (under-nil n));
  filling = λ n t e. none-some t (sym (ap (λ x. under x n) trades ∙ under-nil n) ∙ e);
  summed = λ n. ap (traded n) trades ∙ sym (ap (λ x. executed_of (under x n)) rows ∙ ap executed_of (under-nil n));
}

-- ---- the matcher and the rows, where one row changes

pub booked-changed : (rows rows' : List Row) (m m' : Meaning) (n : ℕ) (r : Row) → Booked rows m → under rows' n
    ≡ Some r → ((k : ℕ) → (k ≡ n → ⊥) → under rows' k ≡ under rows k)
    → m'.orders ≡ put m.orders n (open_of (Some r)) → Booked rows' m'
booked-changed rows rows' m m' n r s here apart e k = go (cases_eq k n)
  where
    go : (k ≡ n) ⊎ (k ≡ n → ⊥) → get m'.orders k ≡ open_of (under rows' k)
    go (inl q) =
        subst (λ j. get m'.orders j ≡ open_of (under rows' j)) (sym q)
        (ap (λ o. get o n) e ∙ put-here m.orders n (open_of (Some r)) ∙ ap open_of (sym here))
    go (inr ne) = ap (λ o. get o k) e ∙ put-apart m.orders n (open_of (Some r)) k ne ∙ s k
        ∙ ap open_of (sym (apart k ne))

-- ---- how many orders are open

abbrev pub one_of : Row → ℕ
one_of r = cond (is_open r) 1 0

pub open-put : (rows : List Row) (n : ℕ) (b r : Row) → under rows n ≡ Some b
    → open_count (put_under rows n r) + one_of b ≡ open_count rows + one_of r
open-put rows zero b r e = none-some b e
open-put [] (suc n) b r e = none-some b e
open-put (x ∷ rows) (suc zero) b r e =
    let same : x ≡ b = cc in
    let p = sum_by-cons one_of r rows in
    let q = sum_by-cons one_of x rows in
    let w = ap one_of same in
    omega arith
open-put (x ∷ rows) (suc (suc n)) b r e =
    let h = open-put rows (suc n) b r e in
    let p = sum_by-cons one_of x (put_under rows (suc n) r) in
    let q = sum_by-cons one_of x rows in
    omega arith

pub open-push : (rows : List Row) (r : Row) → open_count (rows ++ r ∷ []) ≡ open_count rows + one_of r
open-push rows r = sum_by_push one_of rows r

pub one_open : (r : Row) → 0 < r.leaves → one_of r ≡ 1
one_open r h = cond-true _ _ _ (lt-ltb 0 r.leaves h)

pub one_done : (r : Row) → r.leaves ≡ 0 → one_of r ≡ 0
one_done r h = cond-false _ _ _ (le-ltb 0 r.leaves (omega arith))

pub at_most_one : (r : Row) → one_of r ≤ 1
at_most_one r = go (is_open r)
  where
    go : (b : Bool) → cond b 1 0 ≤ 1
    go true = omega arith
    go false = omega arith

pub open-some : (rows : List Row) (n : ℕ) (b : Row) → under rows n ≡ Some b → one_of b ≤ open_count rows
open-some rows n b e =
    let h = open-put rows n b (record b { leaves = 0 }) e in
    let z = one_done (record b { leaves = 0 }) refl in
    omega arith

-- ---- a change of an order that is there

pub instrument_there : (is : List Instrument) (n : ℕ) → n < length is → (i : Instrument) × (slice_get is n ≡ Some i)
instrument_there [] n h = absurd (let no : ⊥ = omega arith in no)
instrument_there (i ∷ is) zero h = (i, refl)
instrument_there (i ∷ is) (suc n) h = instrument_there is n (omega arith)

module _ (is : List Instrument) (t : Time) (n : ℕ) (c : Change) (l : Ledger) (b r : Row)
    (s : Recorded is l.rows l.kept) (was : under l.rows n ≡ Some b) (made : after n c (Some b) ≡ Some r) where
  pub changed-rows : (changed is t n c l).rows ≡ put_under l.rows n r
  changed-rows = ap (λ x. (rewritten is t n c (after n c x) l).rows) was ∙ ap (λ x. (rewritten is t n c x l).rows) made

  changed-kept : (i : Instrument) → slice_get is r.terms.instrument ≡ Some i → (changed is t n c l).kept
      ≡ appended l.kept i.partition (entries_of r.terms.owner (reports_of (told_at i t) c r))
  changed-kept i e =
      ap (λ x. (rewritten is t n c (after n c x) l).kept) was ∙ ap (λ x. (rewritten is t n c x l).kept) made ∙ ap
      (λ x. told_in t c r x l.kept) e

  pub inside : r.terms.instrument < length is
  inside =
      subst (λ (x : Terms). x.instrument < length is)
      (sym (keeps n c b r (kept_at l.rows n b s.numbered was).1 made).terms) (s.placed n b was)

  rewrites : (i : Instrument) → slice_get is r.terms.instrument ≡ Some i
      → Rewrites is n c l.rows r i (put_under l.rows n r)
  rewrites i e = rewrites_there is n c l.rows b r i s.numbered was (s.placed n b was) made e

  pub recorded-changed : Recorded is (changed is t n c l).rows (changed is t n c l).kept
  recorded-changed =
      let (i, e) = instrument_there is r.terms.instrument inside in
      subst (λ x. Recorded is x (changed is t n c l).kept) (sym changed-rows)
      (subst (Recorded is (put_under l.rows n r)) (sym (changed-kept i e))
      (recorded is n c l.rows r i (put_under l.rows n r) l.kept t s (rewrites i e)))

  pub changed-here : under (changed is t n c l).rows n ≡ Some r
  changed-here = ap (λ x. under x n) changed-rows ∙ put-row-here l.rows n b r was

  pub changed-apart : (k : ℕ) → (k ≡ n → ⊥) → under (changed is t n c l).rows k ≡ under l.rows k
  changed-apart k ne = ap (λ x. under x k) changed-rows ∙ under-others l.rows n k r ne

  pub changed-open : open_count (changed is t n c l).rows + one_of b ≡ open_count l.rows + one_of r
  changed-open = let e = ap open_count changed-rows in let h = open-put l.rows n b r was in omega arith

  pub executed-same : r.executed ≡ b.executed → (k : ℕ) → executed_of (under (changed is t n c l).rows k)
      ≡ executed_of (under l.rows k)
  executed-same e k = go (cases_eq k n)
    where
      go : (k ≡ n) ⊎ (k ≡ n → ⊥) → executed_of (under (changed is t n c l).rows k) ≡ executed_of (under l.rows k)
      go (inl q) =
          subst (λ j. executed_of (under (changed is t n c l).rows j) ≡ executed_of (under l.rows j)) (sym q)
          (ap executed_of changed-here ∙ e ∙ sym (ap executed_of was))
      go (inr ne) = ap executed_of (changed-apart k ne)

-- a change of one order, of which as much stays executed
pub sound-changed : (b : Books) (t : Time) (n : ℕ) (c : Change) (x r : Row) → Sound b → under b.rows n ≡ Some x
    → after n c (Some x) ≡ Some r → r.executed ≡ x.executed → Sound (enact t (Alter n c) b)
sound-changed b t n c x r s was made executed =
    let is = b.instruments in
    let l = ledger_of b in
    let here = changed-here is t n c l x r s.recorded was made in
    record {
      listed = s.listed;
      recorded = recorded-changed is t n c l x r s.recorded was made;
      booked = booked-changed b.rows (changed is t n c l).rows b.market (enact t (Alter n c) b).market n r s.booked here
          (changed-apart is t n c l x r s.recorded was made) (ap (λ o. put b.market.orders n (open_of o)) here);
      filling = s.filling;
      summed = λ k. s.summed k ∙ sym (executed-same is t n c l x r s.recorded was made executed k);
    }

-- ---- the end of an order

pub open_row : (rows : List Row) (n : ℕ) → is_some (open_of (under rows n)) ≡ true → (b : Row)
    × (under rows n ≡ Some b) × (0 < b.leaves)
open_row rows n h = go (under rows n) refl h
  where
    test : (b : Row) (x : Bool) → nat_lt 0 b.leaves ≡ x → is_some (cond x (Some (held_as b)) None) ≡ true → 0 < b.leaves
    test b true e h = ltb-true 0 b.leaves e
    test b false e h = absurd (cc)

    go : (x : Option Row) → under rows n ≡ x → is_some (open_of x) ≡ true → (b : Row) × (under rows n ≡ Some b)
        × (0 < b.leaves)
    go None e h = absurd (cc)
    go (Some b) e h = (b, e, test b (nat_lt 0 b.leaves) refl h)

-- an open order has a place for the report of its end
pub open_place : (b : Books) (n free : ℕ) → open_count b.rows ≤ free → is_some (open_of (under b.rows n)) ≡ true
    → 1 ≤ free
open_place b n free spare h =
    let (r, was, some) = open_row b.rows n h in
    let c = open-some b.rows n r was in
    let y = one_open r some in
    omega arith

module _ (b : Books) (t : Time) (n : ℕ) (e : Ending) (i : FixedText 20) (x : Row) (s : Sound b)
    (was : under b.rows n ≡ Some x) (some : 0 < x.leaves) where
  withdrawn-made : made_of n (Withdraw e i) (Some x) ≡ Some (ended e x)
  withdrawn-made = cond-true _ _ _ (lt-ltb 0 x.leaves some)

  pub sound-withdrawn : Sound (enact t (Alter n (Withdraw e i)) b)
  sound-withdrawn = sound-changed b t n (Withdraw e i) x (ended e x) s was withdrawn-made refl

  -- nothing is open of it
  pub gone-withdrawn : open_of (under (changed b.instruments t n (Withdraw e i) (ledger_of b)).rows n) ≡ None
  gone-withdrawn = ap open_of (changed-here b.instruments t n (Withdraw e i) (ledger_of b) x (ended e x) s.recorded was
      withdrawn-made)

  -- one order less is open
  pub count-withdrawn : open_count (changed b.instruments t n (Withdraw e i) (ledger_of b)).rows + 1
      ≡ open_count b.rows
  count-withdrawn =
      let count = changed-open b.instruments t n (Withdraw e i) (ledger_of b) x (ended e x) s.recorded was
      withdrawn-made in
      let y = one_open x some in
      let z = one_done (ended e x) refl in
      omega arith

-- ---- a new order

executed-new : (rows : List Row) (r : Row) → r.executed ≡ 0 → (j : ℕ) → executed_of (under (rows ++ r ∷ []) j)
    ≡ executed_of (under rows j)
executed-new rows r e j = go (cases_eq j (length rows + 1))
  where
    go : (j ≡ length rows + 1) ⊎ (j ≡ length rows + 1 → ⊥) → executed_of (under (rows ++ r ∷ []) j)
        ≡ executed_of (under rows j)
    go (inl q) = ap executed_of (push_here rows j r q) ∙ e ∙ sym (ap executed_of (past_none rows j (omega arith)))
    go (inr ne) = ap executed_of (push_apart rows j r ne)

-- the next number is not open
pub next_free : (b : Books) → Sound b → get b.market.orders (length b.rows + 1) ≡ None
next_free b s = s.booked (length b.rows + 1) ∙ ap open_of (past_none b.rows (length b.rows + 1) (omega arith))

module _ (b : Books) (t : Time) (s : Terms) (a : Ask) (k : Sound b) (q : orderable a.quantity ≡ true) where
  pub some_ordered : 0 < a.quantity
  some_ordered = ltb-true 0 a.quantity (and_parts (nat_lt 0 a.quantity) (nat_le a.quantity SHARES) q).0

  pub sound-opened : s.instrument < length b.instruments → length b.rows < ORDERS → Sound (enact t (Open s a) b)
  sound-opened inside room =
      let is = b.instruments in
      let n = length b.rows + 1 in
      let r = accepted (length b.rows + 1) s a in
      let (i, e) = instrument_there is s.instrument inside in
      let told = ap (λ x. told_in t (Accept s a) r x b.kept) e in
      record {
        listed = k.listed;
        recorded = subst (Recorded is (b.rows ++ r ∷ [])) (sym told)
            (recorded is (length b.rows + 1) (Accept s a) b.rows r i (b.rows ++ r ∷ []) b.kept t k.recorded
            (rewrites_new is b.rows s a i k.recorded.numbered room q inside e));
        booked = booked-changed b.rows (b.rows ++ r ∷ []) b.market (enact t (Open s a) b).market (length b.rows + 1) r
            k.booked
            (push_here b.rows (length b.rows + 1) r refl) (λ j ne. push_apart b.rows j r ne)
            (ap (put b.market.orders (length b.rows + 1)) (sym (cond-true _ _ _ (lt-ltb 0 a.quantity some_ordered))));
        filling = k.filling;
        summed = λ j. k.summed j ∙ sym (executed-new b.rows r refl j);
      }

  -- one order more is open
  pub count-opened : open_count (b.rows ++ accepted (length b.rows + 1) s a ∷ []) ≡ open_count b.rows + 1
  count-opened =
      let r = accepted (length b.rows + 1) s a in
      let count = open-push b.rows r in
      let y = one_open r some_ordered in
      omega arith

-- ---- another quantity and price

module _ (b : Books) (t : Time) (n : ℕ) (a : Ask) (x : Row) (s : Sound b) (was : under b.rows n ≡ Some x)
    (fits : is_none (replace_fault a.quantity x) ≡ true) where
  replaced-made : made_of n (Replace a) (Some x) ≡ Some (replaced a x)
  replaced-made = cond-true _ _ _ fits

  pub sound-replaced : Sound (enact t (Alter n (Replace a)) b)
  sound-replaced = sound-changed b t n (Replace a) x (replaced a x) s was replaced-made refl

  -- no more orders are open
  pub count-replaced : open_count (changed b.instruments t n (Replace a) (ledger_of b)).rows ≤ open_count b.rows
  count-replaced =
      let count = changed-open b.instruments t n (Replace a) (ledger_of b) x (replaced a x) s.recorded was
      replaced-made in
      let y = one_open x (replaceable a.quantity x fits).0 in
      let z = at_most_one (replaced a x) in
      omega arith

  -- what the matcher is set to is what it then holds
  pub held-replaced : cond (nat_lt 0 (left_open x.executed a.quantity))
      (resized b.market n (left_open x.executed a.quantity)) (closed b.market n)
      ≡ with_order b.market n (open_of (under (changed b.instruments t n (Replace a) (ledger_of b)).rows n))
  held-replaced =
      let q = left_open x.executed a.quantity in
      let holds : get b.market.orders n ≡ Some (held_as x) = s.booked n ∙ ap open_of was ∙ cond-true _ _ _
      (lt-ltb 0 x.leaves (replaceable a.quantity x fits).0) in
      ap (λ o. cond (nat_lt 0 q) (with_order b.market n (option_map (λ (h : Held). record h { quantity = q }) o))
      (closed b.market n)) holds
      ∙ joined (nat_lt 0 q)
      ∙ ap (with_order b.market n) (sym (ap open_of (changed-here b.instruments t n (Replace a) (ledger_of b) x
      (replaced a x) s.recorded was replaced-made)))
    where
      joined : (v : Bool) → cond v (with_order b.market n (Some (held_as (replaced a x)))) (with_order b.market n None)
          ≡ with_order b.market n (cond v (Some (held_as (replaced a x))) None)
      joined true = refl
      joined false = refl

-- ---- a report that touches no order

module _ (is : List Instrument) (rows : List Row) (kept : Kept) (p : Partition) (e : Entry) (s : Recorded is rows kept)
    (silent : Silent e.report) where
  silent_one : (q : ℕ) (k : Knowledge) → told_one p q (Ok k) e ≡ Ok k
  silent_one q k = by_owner (eqb e.owner q)
    where
      by_owner : (b : Bool) → cond b (fold p (told_of e.report) k) (Ok k) ≡ Ok k
      by_owner true = silent p k
      by_owner false = refl

  told_same : (q : ℕ) (u : Partition) → (p ≡ u) ⊎ (same_partition p u ≡ false) → all_told u q (at (grown kept p e) u)
      ≡ all_told u q (at kept u)
  told_same q u (inr away) = ap (all_told u q) (appended-apart kept p u (e ∷ []) away)
  told_same q u (inl here) =
      subst (λ x. all_told x q (at (grown kept p e) x) ≡ all_told x q (at kept x)) here
      (ap (all_told p q) (appended-here kept p (e ∷ [])) ∙ fold-append (told_one p q) (Ok nothing_known) (at kept p)
      (e ∷ [])
      ∙ ap (λ k. told_one p q k e) (s.unrefused q p) ∙ silent_one q _ ∙ sym (s.unrefused q p))

  tally_same : (q : ℕ) (u : Partition) → tally u q (at (grown kept p e) u) ≡ tally u q (at kept u)
  tally_same q u = tally-told u q nothing_known _ (at (grown kept p e) u)
      (told_same q u (same_or_apart p u) ∙ s.unrefused q u)

  pub recorded-noted : Recorded is rows (grown kept p e)
  recorded-noted = record {
    numbered = s.numbered;
    placed = s.placed;
    unrefused = λ q u. told_same q u (same_or_apart p u) ∙ s.unrefused q u ∙ ap Ok (sym (tally_same q u));
    tallied = λ q u n. ap (λ x. get x n) (tally_same q u) ∙ s.tallied q u n;
    room = λ q u. let l = s.room q u in let x = ap len (tally_same q u) in omega arith;
  }

pub sound-noted : (b : Books) (t : Time) (p : Partition) (e : Entry) → Sound b → Silent e.report
    → Sound (enact t (Note p e) b)
sound-noted b t p e s silent = record {
  listed = s.listed;
  recorded = recorded-noted b.instruments b.rows b.kept p e s.recorded silent;
  booked = s.booked;
  filling = s.filling;
  summed = s.summed;
}
