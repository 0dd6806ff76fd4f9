-- Trades, as the orders are filled, and as the fills are undone. Assumes nothing.
use Rattle.std.specs.Prelude.{nat_le, nat_lt}
use Rattle.std.proofs.Common.{◌≡◌, ℕ, zero, suc, ◌+◌, ◌-◌, ◌<◌, ◌≤◌, ◌⊎◌, Bool, true, false, cond, eqb, List, [], ◌∷◌, ◌++◌, length, Some, None, Option, inl, inr, is_some, refl, sym, ap, ◌∙◌, subst, arith, ltb-true, lt-ltb, le-leb}
use Rattle.std.proofs.lemmas.Bool.{and_from, cond-true, cond-false, cases_eq, cases_lt, eq-eqb, ne_eqb, le-ltb}
use Rattle.std.proofs.lemmas.List.Sums.{sum_by-cons, sum_by_push}
use Rattle.std.specs.FinMap.{get}
use Rattle.texts.specs.declared.values.Time.{Time}
use Rattle.keyed.specs.Look.{put}
use Rattle.keyed.specs.Numbers.{under, put_under}
use Rattle.keyed.proofs.Keyed.{put-apart}
use Rattle.keyed.proofs.Under.{none-some, under-others}
use Rattle.matching.specs.Meaning.{Meaning, Orders, closed, with_order, Allowed, Parties, open_quantity, quantity_of, left, filled as taken}
use Rattle.orders.specs.declared.row.Row.{Row}
use Rattle.orders.specs.declared.trade.Trade.{Trade}
use Rattle.orders.specs.declared.row.Ending.TheVariants.{Expired}
use Rattle.orders.specs.Trades.{Notes, void, void_fault}
use Rattle.orders.specs.declared.trade.Leg.{Leg}
use Rattle.orders.specs.declared.trade.TradeRefusal.TheVariants.{DoneBefore}
use Rattle.changes.specs.declared.change.Undone.{Undone}
use Rattle.limits.specs.declared.TheConstants.{TRADES}
use Rattle.orders.specs.Rows.{filled, undone}
use Rattle.orders.specs.Tables.{open_count}
use Rattle.changes.specs.declared.change.Change.TheVariants.{Fill, Undo, Withdraw}
use Rattle.changes.specs.declared.change.Fill.{Fill as Filled}
use Rattle.changes.specs.Changes.{after}
use Rattle.configuration.specs.declared.instrument.Instrument.{Instrument}
use Rattle.venue.specs.Ledger.{Ledger, changed, expired, expired_as, Recorded}
use Rattle.venue.specs.Acts.{Alter, Take, Void, deal_of, enact, ledger_of, voided}
use Rattle.venue.specs.Books.{Books, Sound, Booked, Filling, held_as, open_of, executed_of, side_of, share_of, traded}
use Rattle.venue.specs.Trading.{SideExecuted, undoing, side_undone, passive_undone, both_undone, SideAllows, filling, passive_filled, both_filled, trade_of, side_filled, side_told}
use Rattle.venue.specs.declared.trading.Deal.{Deal}
use Rattle.texts.specs.declared.values.Price.{Price}
use Rattle.codes.specs.declared.report.Liquidity.TheVariants.{Added, Removed}
use Rattle.matching.specs.declared.event.Event.TheVariants as event
use Rattle.venue.proofs.Rows.{put-here as put-row-here, push_here, push_apart}
use Rattle.venue.proofs.Keeps.{booked-changed, one_of, one_open, at_most_one, open_row, count-withdrawn, sound-withdrawn, recorded-changed, changed-here, changed-apart, changed-open}

-- what is open of a side is at least so much
abbrev pub SideOpen : Orders → ℕ → Option ℕ → Type 0
SideOpen os q None = Unit {0}
SideOpen os q (Some n) = q ≤ open_quantity os n

-- an order of which the matcher holds so much has a row with as much open
pub record Backed (rows : List Row) (os : Orders) (n q : ℕ) : Type 0 where
  pub row : Row
  pub was : under rows n ≡ Some row
  pub some : 0 < row.leaves
  pub enough : q ≤ row.leaves
  pub held : get os n ≡ Some (held_as row)

pub backed : (rows : List Row) (m : Meaning) (n q : ℕ) → Booked rows m → 1 ≤ q → q ≤ open_quantity m.orders n
    → Backed rows m.orders n q
backed rows m n q s some h = go (under rows n) refl
  where
    nothing : get m.orders n ≡ None → Backed rows m.orders n q
    nothing e = let z : open_quantity m.orders n ≡ 0 = ap quantity_of e in absurd (let no : ⊥ = omega arith in no)

    test : (r : Row) (x : Bool) → under rows n ≡ Some r → nat_lt 0 r.leaves ≡ x → Backed rows m.orders n q
    test r true e f =
        let is : get m.orders n ≡ Some (held_as r) = s n ∙ ap open_of e ∙ cond-true _ _ _ f in
        let z : open_quantity m.orders n ≡ r.leaves = ap quantity_of is in
        record { row = r; was = e; some = ltb-true 0 r.leaves f; enough = omega arith; held = is }
    test r false e f = nothing (s n ∙ ap open_of e ∙ cond-false _ _ _ f)

    go : (x : Option Row) → under rows n ≡ x → Backed rows m.orders n q
    go None e = nothing (s n ∙ ap open_of e)
    go (Some r) e = test r (nat_lt 0 r.leaves) e refl

fill_made : (n : ℕ) (f : Filled) (r : Row) → 1 ≤ f.quantity → f.quantity ≤ r.leaves → after n (Fill f) (Some r)
    ≡ Some (filled f.quantity r)
fill_made n f r some enough =
    cond-true _ _ _ (and_from (nat_lt 0 f.quantity) (nat_le f.quantity r.leaves) (lt-ltb 0 f.quantity (omega arith))
    (le-leb f.quantity r.leaves enough))

less-left : (q l : ℕ) → nat_lt q l ≡ nat_lt 0 (l - q)
less-left q l = go (cases_lt q l)
  where
    go : (q < l) ⊎ (l ≤ q) → nat_lt q l ≡ nat_lt 0 (l - q)
    go (inl a) = lt-ltb q l a ∙ sym (lt-ltb 0 (l - q) (omega arith))
    go (inr b) = le-ltb q l b ∙ sym (le-ltb 0 (l - q) (omega arith))

-- the reports and the matcher, with the rows
pub record Tied (is : List Instrument) (l : Ledger) (m : Meaning) : Type 0 where
  pub recorded : Recorded is l.rows l.kept
  pub booked : Booked l.rows m

abbrev pub part_of : ℕ → ℕ → Option ℕ → ℕ
part_of k q None = 0
part_of k q (Some n) = cond (eqb n k) q 0

module _ (is : List Instrument) (t : Time) (f : Filled) (l : Ledger) (m : Meaning) (s : Tied is l m)
    (some : 1 ≤ f.quantity) where
  -- one side of a trade
  pub side-tied : (side : Option ℕ) → SideOpen m.orders f.quantity side
      → Tied is (side_filled is t f side l) (taken m f.quantity side)
  side-tied None h = s
  side-tied (Some n) h =
      let b = backed l.rows m n f.quantity s.booked some h in
      let made = fill_made n f b.row some b.enough in
      let now : left f.quantity (get m.orders n) ≡ open_of (Some (filled f.quantity b.row)) =
      ap (left f.quantity) b.held ∙ ap (λ x. cond x (Some (held_as (filled f.quantity b.row))) None)
      (less-left f.quantity b.row.leaves) in
      record {
        recorded = recorded-changed is t n (Fill f) l b.row (filled f.quantity b.row) s.recorded b.was made;
        booked = booked-changed l.rows _ m (taken m f.quantity (Some n)) n (filled f.quantity b.row) s.booked
            (changed-here is t n (Fill f) l b.row (filled f.quantity b.row) s.recorded b.was made)
            (changed-apart is t n (Fill f) l b.row (filled f.quantity b.row) s.recorded b.was made)
            (ap (put m.orders n) now);
      }

  pub side-allows : (side : Option ℕ) → SideOpen m.orders f.quantity side → SideAllows f side l.rows
  side-allows None h = tt
  side-allows (Some n) h =
      let b = backed l.rows m n f.quantity s.booked some h in
      ap (λ x. is_some (after n (Fill f) x)) b.was ∙ ap is_some (fill_made n f b.row some b.enough)

  -- a fill opens nothing
  pub side-count : (side : Option ℕ) → SideOpen m.orders f.quantity side
      → open_count (side_filled is t f side l).rows ≤ open_count l.rows
  side-count None h = omega arith
  side-count (Some n) h =
      let b = backed l.rows m n f.quantity s.booked some h in
      let c = changed-open is t n (Fill f) l b.row (filled f.quantity b.row) s.recorded b.was
      (fill_made n f b.row some b.enough) in
      let y = one_open b.row b.some in
      let z = at_most_one (filled f.quantity b.row) in
      omega arith

  pub side-executed : (side : Option ℕ) → SideOpen m.orders f.quantity side → (k : ℕ)
      → executed_of (under (side_filled is t f side l).rows k)
      ≡ executed_of (under l.rows k) + part_of k f.quantity side
  side-executed None h k = omega arith
  side-executed (Some n) h k =
      let b = backed l.rows m n f.quantity s.booked some h in
      let made = fill_made n f b.row some b.enough in
      side-at n b.row b.was made k (cases_eq k n)
    where
      side-at : (n : ℕ) (r : Row) → under l.rows n ≡ Some r → after n (Fill f) (Some r) ≡ Some (filled f.quantity r)
          → (k : ℕ) → (k ≡ n) ⊎ (k ≡ n → ⊥)
          → executed_of (under (changed is t n (Fill f) l).rows k)
          ≡ executed_of (under l.rows k) + cond (eqb n k) f.quantity 0
      side-at n r was made k (inl e) =
          let now = ap (λ j. executed_of (under (changed is t n (Fill f) l).rows j)) e ∙ ap executed_of
          (changed-here is t n (Fill f) l r (filled f.quantity r) s.recorded was made) in
          let before = ap (λ j. executed_of (under l.rows j)) e ∙ ap executed_of was in
          let here : cond (eqb n k) f.quantity 0 ≡ f.quantity = cond-true _ _ _ (eq-eqb n k (sym e)) in
          omega arith
      side-at n r was made k (inr ne) =
          let now = ap executed_of (changed-apart is t n (Fill f) l r (filled f.quantity r) s.recorded was made k ne) in
          let away : cond (eqb n k) f.quantity 0 ≡ 0 = cond-false _ _ _ (ne_eqb n k (λ e. ne (sym e))) in
          omega arith

filling-push : (ts : List Trade) (tr : Trade) → Filling ts → 0 < tr.quantity → Filling (ts ++ tr ∷ [])
filling-push ts tr s some n x e = go (cases_eq n (length ts + 1))
  where
    go : (n ≡ length ts + 1) ⊎ (n ≡ length ts + 1 → ⊥) → 0 < x.quantity
    go (inl q) = let same : tr ≡ x = let h = sym (push_here ts n tr q) ∙ e in cc in subst
        (λ (y : Trade). 0 < y.quantity) same some
    go (inr ne) = s n x (sym (push_apart ts n tr ne) ∙ e)

-- the parties of a trade have as much open, one after the other
pub first_open : (os : Orders) (q : ℕ) (p a : Option ℕ) → Parties os q p a → SideOpen os q p
first_open os q None None h = tt
first_open os q (Some p) None h = h
first_open os q None (Some a) h = tt
first_open os q (Some p) (Some a) h = h.0

pub second_open : (m : Meaning) (q : ℕ) (p a : Option ℕ) → Parties m.orders q p a → SideOpen (taken m q p).orders q a
second_open m q None None h = tt
second_open m q (Some p) None h = tt
second_open m q None (Some a) h = h
second_open m q (Some p) (Some a) h =
    let e = ap quantity_of (put-apart m.orders p (left q (get m.orders p)) a (λ x. h.2 (sym x))) in
    let l = h.1 in
    omega arith

told_part : (is : List Instrument) (l : Ledger) (k q : ℕ) (side : Option ℕ) → side_of k q (side_told is side l)
    ≡ part_of k q side
told_part is l k q None = refl
told_part is l k q (Some n) = refl

-- a trade of the matcher
module _ (b : Books) (t : Time) (p a : Option ℕ) (q : ℕ) (x : Price) (s : Sound b)
    (allowed : Allowed b.market.orders (event.Trade p a q x)) where
  abbrev d : Deal
  d = deal_of b q x

  abbrev l : Ledger
  l = ledger_of b

  abbrev between-ledger : Ledger
  between-ledger = passive_filled b.instruments t (deal_of b q x) p (ledger_of b)

  tied : Tied b.instruments (ledger_of b) b.market
  tied = record { recorded = s.recorded; booked = s.booked }

  first : SideOpen b.market.orders q p
  first = first_open b.market.orders q p a allowed.1

  second : SideOpen (taken b.market q p).orders q a
  second = second_open b.market q p a allowed.1

  pub trade_first : SideAllows (filling d Added) p b.rows
  trade_first = side-allows b.instruments t (filling d Added) l b.market tied allowed.0 p first

  pub trade_between : Tied b.instruments between-ledger (taken b.market q p)
  trade_between = side-tied b.instruments t (filling d Added) l b.market tied allowed.0 p first

  pub trade_second : SideAllows (filling d Removed) a between-ledger.rows
  trade_second = side-allows b.instruments t (filling d Removed) between-ledger (taken b.market q p) trade_between
      allowed.0 a second

  done : Tied b.instruments (both_filled b.instruments t d p a l) (taken (taken b.market q p) q a)
  done = side-tied b.instruments t (filling d Removed) between-ledger (taken b.market q p) trade_between allowed.0 a
      second

  -- a trade opens nothing
  pub count-traded : open_count (both_filled b.instruments t d p a l).rows ≤ open_count b.rows
  count-traded =
      let x = side-count b.instruments t (filling d Added) l b.market tied allowed.0 p first in
      let y = side-count b.instruments t (filling d Removed) between-ledger (taken b.market q p) trade_between
      allowed.0 a second in
      omega arith

  pub sound-traded : Sound (enact t (Take (event.Trade p a q x)) b)
  sound-traded = record {
    listed = s.listed;
    recorded = done.recorded;
    booked = done.booked;
    filling = filling-push b.trades (trade_of b.instruments t d p a l) s.filling allowed.0;
    summed = λ k.
        let old = s.summed k in
        let pushed = sum_by_push (share_of k) b.trades (trade_of b.instruments t d p a l) in
        let x = told_part b.instruments l k q p in
        let y = told_part b.instruments between-ledger k q a in
        let e = side-executed b.instruments t (filling d Added) l b.market tied allowed.0 p first k in
        let f = side-executed b.instruments t (filling d Removed) between-ledger (taken b.market q p) trade_between
        allowed.0 a second k in
        omega arith;
  }

pub trade_noted : (ts ts' : List Trade) (tr : Trade) (out : Option ℕ) → length ts < TRADES → Notes ts tr out ts' → ts'
    ≡ ts ++ tr ∷ []
trade_noted ts ts' tr None room h = absurd (let l = h.0 in let no : ⊥ = omega arith in no)
trade_noted ts ts' tr (Some n) room h = h.2

-- an order that ends in the matcher is open
pub ends_open : (b : Books) (n : ℕ) → Sound b → is_some (get b.market.orders n) ≡ true
    → is_some (open_of (under b.rows n)) ≡ true
ends_open b n s h = sym (ap is_some (s.booked n)) ∙ h

pub expiry_told : (is : List Instrument) (t : Time) (n : ℕ) (l : Ledger) (r : Row) → under l.rows n ≡ Some r
    → expired is t n l ≡ changed is t n (Withdraw Expired r.client) l
expiry_told is t n l r e = ap (λ x. expired_as is t n x l) e

module _ (b : Books) (t : Time) (n : ℕ) (s : Sound b) (h : is_some (open_of (under b.rows n)) ≡ true) where
  pub sound-expired : Sound (enact t (Take (event.Expired n)) b)
  sound-expired =
      let (x, was, some) = open_row b.rows n h in
      let c = Withdraw Expired x.client in
      let ended = sound-withdrawn b t n Expired x.client x s was some in
      let told = expiry_told b.instruments t n (ledger_of b) x was in
      let gone = ap open_of (changed-here b.instruments t n c (ledger_of b) x _ s.recorded was
      (cond-true _ _ _ (lt-ltb 0 x.leaves some))) in
      let same : enact t (Alter n c) b ≡ enact t (Take (event.Expired n)) b =
      ap (λ o. record b {
        rows = (changed b.instruments t n c (ledger_of b)).rows;
        kept = (changed b.instruments t n c (ledger_of b)).kept;
        market = with_order b.market n o;
      }) gone
      ∙ ap (λ (z : Ledger). record b { rows = z.rows; kept = z.kept; market = closed b.market n }) (sym told) in
      subst Sound same ended

  pub count-expired : open_count (expired b.instruments t n (ledger_of b)).rows + 1 ≡ open_count b.rows
  count-expired =
      let (x, was, some) = open_row b.rows n h in
      ap (λ (z : Ledger). open_count z.rows + 1) (expiry_told b.instruments t n (ledger_of b) x was)
      ∙ count-withdrawn b t n Expired x.client x s was some

-- ---- a trade is cancelled

-- another trade under a number
traded-put : (k : ℕ) (ts : List Trade) (n : ℕ) (tr x : Trade) → under ts n ≡ Some tr
    → traded k (put_under ts n x) + share_of k tr ≡ traded k ts + share_of k x
traded-put k ts zero tr x e = none-some tr e
traded-put k [] (suc n) tr x e = none-some tr e
traded-put k (y ∷ ts) (suc zero) tr x e =
    let same : y ≡ tr = cc in
    let p = sum_by-cons (share_of k) x ts in
    let q = sum_by-cons (share_of k) y ts in
    let w = ap (share_of k) same in
    omega arith
traded-put k (y ∷ ts) (suc (suc n)) tr x e =
    let h = traded-put k ts (suc n) tr x e in
    let p = sum_by-cons (share_of k) y (put_under ts (suc n) x) in
    let q = sum_by-cons (share_of k) y ts in
    omega arith

share_stands : (k : ℕ) (tr : Trade) → tr.cancelled ≡ false → share_of k tr
    ≡ side_of k tr.quantity tr.passive + side_of k tr.quantity tr.aggressive
share_stands k tr e = cond-false _ _ _ e

void_left : (k : ℕ) (ts : List Trade) (n : ℕ) (tr : Trade) → under ts n ≡ Some tr → tr.cancelled ≡ false
    → traded k (put_under ts n (void tr)) + side_of k tr.quantity tr.passive + side_of k tr.quantity tr.aggressive
    ≡ traded k ts
void_left k ts n tr e stands =
    let h = traded-put k ts n tr (void tr) e in
    let s = share_stands k tr stands in
    omega arith

filling-put : (ts : List Trade) (n : ℕ) (tr x : Trade) → under ts n ≡ Some tr → Filling ts → 0 < x.quantity
    → Filling (put_under ts n x)
filling-put ts n tr x e s some m y f = go (cases_eq m n)
  where
    go : (m ≡ n) ⊎ (m ≡ n → ⊥) → 0 < y.quantity
    go (inl q) = let same : x ≡ y = let h = sym (put-row-here ts n tr x e) ∙ ap (under (put_under ts n x))
        (sym q) ∙ f in cc in subst (λ (z : Trade). 0 < z.quantity) same some
    go (inr ne) = s m y (sym (under-others ts n m x ne) ∙ f)

undo_made : (n : ℕ) (u : Undone) (r : Row) → 1 ≤ u.quantity → u.quantity ≤ r.executed → after n (Undo u) (Some r)
    ≡ Some (undone u.quantity r)
undo_made n u r some enough =
    cond-true _ _ _ (and_from (nat_lt 0 u.quantity) (nat_le u.quantity r.executed) (lt-ltb 0 u.quantity (omega arith))
    (le-leb u.quantity r.executed enough))

-- an order that has so much executed
pub record Executed (rows : List Row) (n q : ℕ) : Type 0 where
  pub row : Row
  pub was : under rows n ≡ Some row
  pub enough : q ≤ row.executed

executed_row : (rows : List Row) (n q : ℕ) → 1 ≤ q → q ≤ executed_of (under rows n) → Executed rows n q
executed_row rows n q some h = go (under rows n) refl
  where
    go : (x : Option Row) → under rows n ≡ x → Executed rows n q
    go None e = let z = ap executed_of e in absurd (let no : ⊥ = omega arith in no)
    go (Some r) e = let z = ap executed_of e in record { row = r; was = e; enough = omega arith }

module _ (is : List Instrument) (t : Time) (q : ℕ) (l : Ledger) (s : Recorded is l.rows l.kept) where
  pub undone-recorded : (side : Option Leg) → SideExecuted q side l.rows
      → Recorded is (side_undone is t q side l).rows (side_undone is t q side l).kept
  undone-recorded None h = s
  undone-recorded (Some f) h =
      let b = executed_row l.rows f.order q h.0 h.1 in
      recorded-changed is t f.order (Undo (undoing is q f l)) l b.row (undone q b.row) s b.was
      (undo_made f.order (undoing is q f l) b.row h.0 b.enough)

  -- open stays as it is
  undone-open : (side : Option Leg) → SideExecuted q side l.rows → (k : ℕ)
      → open_of (under (side_undone is t q side l).rows k) ≡ open_of (under l.rows k)
  undone-open None h k = refl
  undone-open (Some f) h k =
      let b = executed_row l.rows f.order q h.0 h.1 in
      at b.row b.was (undo_made f.order (undoing is q f l) b.row h.0 b.enough) (cases_eq k f.order)
    where
      at : (r : Row) → under l.rows f.order ≡ Some r → after f.order (Undo (undoing is q f l)) (Some r)
          ≡ Some (undone q r) → (k ≡ f.order) ⊎ (k ≡ f.order → ⊥)
          → open_of (under (changed is t f.order (Undo (undoing is q f l)) l).rows k) ≡ open_of (under l.rows k)
      at r was made (inl e) =
          ap (λ j. open_of (under (changed is t f.order (Undo (undoing is q f l)) l).rows j)) e
          ∙ ap open_of (changed-here is t f.order (Undo (undoing is q f l)) l r (undone q r) s was made) ∙ sym
          (ap (λ j. open_of (under l.rows j)) e ∙ ap open_of was)
      at r was made (inr ne) =
          ap open_of (changed-apart is t f.order (Undo (undoing is q f l)) l r (undone q r) s was made k ne)

  undone-count : (side : Option Leg) → SideExecuted q side l.rows → open_count (side_undone is t q side l).rows
      ≡ open_count l.rows
  undone-count None h = refl
  undone-count (Some f) h =
      let b = executed_row l.rows f.order q h.0 h.1 in
      let c = changed-open is t f.order (Undo (undoing is q f l)) l b.row (undone q b.row) s b.was
      (undo_made f.order (undoing is q f l) b.row h.0 b.enough) in
      let same : one_of (undone q b.row) ≡ one_of b.row = refl in
      omega arith

  pub undone-executed : (side : Option Leg) → SideExecuted q side l.rows → (k : ℕ)
      → executed_of (under (side_undone is t q side l).rows k) + side_of k q side ≡ executed_of (under l.rows k)
  undone-executed None h k = omega arith
  undone-executed (Some f) h k =
      let b = executed_row l.rows f.order q h.0 h.1 in
      at b.row b.was b.enough (undo_made f.order (undoing is q f l) b.row h.0 b.enough) (cases_eq k f.order)
    where
      at : (r : Row) → under l.rows f.order ≡ Some r → q ≤ r.executed
          → after f.order (Undo (undoing is q f l)) (Some r) ≡ Some (undone q r) → (k ≡ f.order) ⊎ (k ≡ f.order → ⊥)
          → executed_of (under (changed is t f.order (Undo (undoing is q f l)) l).rows k) + cond (eqb f.order k) q 0
          ≡ executed_of (under l.rows k)
      at r was enough made (inl e) =
          let now = ap (λ j. executed_of (under (changed is t f.order (Undo (undoing is q f l)) l).rows j)) e ∙ ap
          executed_of (changed-here is t f.order (Undo (undoing is q f l)) l r (undone q r) s was made) in
          let before = ap (λ j. executed_of (under l.rows j)) e ∙ ap executed_of was in
          let here : cond (eqb f.order k) q 0 ≡ q = cond-true _ _ _ (eq-eqb f.order k (sym e)) in
          omega arith
      at r was enough made (inr ne) =
          let now = ap executed_of (changed-apart is t f.order (Undo (undoing is q f l)) l r
          (undone q r) s was made k ne) in
          let away : cond (eqb f.order k) q 0 ≡ 0 = cond-false _ _ _ (ne_eqb f.order k (λ e. ne (sym e))) in
          omega arith

-- the sides of a trade that stands have as much executed, one after the other
module _ (b : Books) (t : Time) (n : ℕ) (tr : Trade) (s : Sound b) (was : under b.trades n ≡ Some tr)
    (stands : tr.cancelled ≡ false) where
  some_shares : 1 ≤ tr.quantity
  some_shares = let h = s.filling n tr was in omega arith

  sides_executed : (k : ℕ) → side_of k tr.quantity tr.passive + side_of k tr.quantity tr.aggressive ≤ executed_of
      (under b.rows k)
  sides_executed k = let h = void_left k b.trades n tr was stands in let e = s.summed k in omega arith

  side_self : (f : Leg) → side_of f.order tr.quantity (Some f) ≡ tr.quantity
  side_self f = cond-true _ _ _ (eq-eqb f.order f.order refl)

  passive_at : (side : Option Leg) → tr.passive ≡ side → SideExecuted tr.quantity side b.rows
  passive_at None e = tt
  passive_at (Some f) e =
      let h = sides_executed f.order in
      let x = ap (side_of f.order tr.quantity) e ∙ side_self f in
      (some_shares, omega arith)

  pub undo_first : SideExecuted tr.quantity tr.passive b.rows
  undo_first = passive_at tr.passive refl

  pub undo_between : Recorded b.instruments (passive_undone b.instruments t tr (ledger_of b)).rows
      (passive_undone b.instruments t tr (ledger_of b)).kept
  undo_between = undone-recorded b.instruments t tr.quantity (ledger_of b) s.recorded tr.passive undo_first

  aggressive_at : (side : Option Leg) → tr.aggressive ≡ side
      → SideExecuted tr.quantity side (passive_undone b.instruments t tr (ledger_of b)).rows
  aggressive_at None e = tt
  aggressive_at (Some f) e =
      let h = sides_executed f.order in
      let x = ap (side_of f.order tr.quantity) e ∙ side_self f in
      let u = undone-executed b.instruments t tr.quantity (ledger_of b) s.recorded tr.passive undo_first f.order in
      (some_shares, omega arith)

  pub undo_second : SideExecuted tr.quantity tr.aggressive (passive_undone b.instruments t tr (ledger_of b)).rows
  undo_second = aggressive_at tr.aggressive refl

  -- open stays as it is
  pub count-undone : open_count (both_undone b.instruments t tr (ledger_of b)).rows ≡ open_count b.rows
  count-undone =
      undone-count b.instruments t tr.quantity (passive_undone b.instruments t tr (ledger_of b)) undo_between
      tr.aggressive undo_second
      ∙ undone-count b.instruments t tr.quantity (ledger_of b) s.recorded tr.passive undo_first

  sound-voided : Sound (voided t n (Some tr) b)
  sound-voided =
      let is = b.instruments in
      let l = passive_undone is t tr (ledger_of b) in
      record {
        listed = s.listed;
        recorded = undone-recorded is t tr.quantity (passive_undone is t tr (ledger_of b)) undo_between tr.aggressive
            undo_second;
        booked = λ k. s.booked k
            ∙ sym (undone-open is t tr.quantity (passive_undone is t tr (ledger_of b)) undo_between tr.aggressive
            undo_second k ∙ undone-open is t tr.quantity (ledger_of b) s.recorded tr.passive undo_first k);
        filling = filling-put b.trades n tr (void tr) was s.filling (s.filling n tr was);
        summed = λ k.
            let old = s.summed k in
            let left = void_left k b.trades n tr was stands in
            let e = undone-executed is t tr.quantity (ledger_of b) s.recorded tr.passive undo_first k in
            let f = undone-executed is t tr.quantity (passive_undone is t tr (ledger_of b)) undo_between tr.aggressive
            undo_second k in
            omega arith;
      }

  pub sound-undone : Sound (enact t (Void n) b)
  sound-undone = subst (λ o. Sound (voided t n o b)) (sym was) sound-voided

pub stands_from : (tr : Trade) → void_fault (Some tr) ≡ None → tr.cancelled ≡ false
stands_from tr h = go tr.cancelled h
  where
    go : (b : Bool) → cond b (Some DoneBefore) None ≡ None → b ≡ false
    go true e = absurd (cc)
    go false e = refl
