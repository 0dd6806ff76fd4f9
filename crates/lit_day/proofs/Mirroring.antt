-- What a change makes of an order, the book follows. Assumes nothing.
use Rattle.std.specs.Prelude.{is_none, nat_lt, not, ◌||◌}
use Rattle.std.proofs.Common.{◌≡◌, ℕ, zero, suc, ◌+◌, ◌-◌, ◌<◌, ◌≤◌, Bool, true, false, cond, ◌⊎◌, inl, inr, List, [], ◌∷◌, length, Some, None, Option, refl, sym, ap, ◌∙◌, subst, arith}
use Rattle.std.proofs.lemmas.Bool.{and_parts, both_ways, cases_eq, cond-false, cond-true, lt-ltb, ltb-true}
use Rattle.std.proofs.lemmas.Int.{ints}
use Rattle.std.specs.Option.{option_map}
use Rattle.changes.specs.Changes.{after, where_allowed}
use Rattle.changes.specs.declared.change.Change.{Change}
use Rattle.changes.specs.declared.change.Change.TheVariants.{Accept, Replace, Withdraw, Fill, Undo}
use Rattle.changes.specs.declared.change.Fill.{Fill as Filling}
use Rattle.changes.specs.declared.change.Undone.{Undone}
use Rattle.codes.specs.declared.order.OrderType.{OrderType}
use Rattle.codes.specs.declared.order.OrderType.TheVariants as order_type
use Rattle.configuration.specs.declared.instrument.Instrument.{Instrument}
use Rattle.keyed.proofs.Under.{none-some, under-others}
use Rattle.keyed.specs.Numbers.{under, put_under}
use Rattle.order_book.specs.Orders.{goes_back, relimited, reprices, with_limit, with_quantity}
use Rattle.order_book.specs.Rules.{Lists, altered, amended, entered, left_of, order_of, order_under}
use Rattle.order_book.specs.declared.order.Order.{Order}
use Rattle.lit_day.proofs.Finding.{OnceIn, altered_none, altered_other, altered_some, entered_here, entered_other}
use Rattle.lit_day.specs.Trading.{Mirrors, as_order, open_order}
use Rattle.orders.specs.Orders.{fillable, replace_fault, undoable}
use Rattle.orders.specs.Rows.{accepted, ended, filled, left_open, orderable, replaced, undone}
use Rattle.orders.specs.declared.row.Ask.{Ask}
use Rattle.orders.specs.declared.row.Ending.{Ending}
use Rattle.orders.specs.declared.row.Row.{Row}
use Rattle.orders.specs.declared.row.Terms.{Terms}
use Rattle.refusals.specs.declared.Refusal.{Refusal}
use Rattle.refusals.specs.declared.Refusal.TheVariants.{NotOpen, BadTerms}
use Rattle.terms.specs.Pricing.{pricing_of}
use Rattle.terms.specs.declared.pricing.Pricing.{Pricing}
use Rattle.terms.specs.declared.pricing.Pricing.TheVariants.{Limit}
use Rattle.texts.specs.declared.fixed.FixedText.{FixedText}
use Rattle.texts.specs.declared.values.Price.{Price}
use Rattle.texts.specs.declared.values.Time.{Time}
use Rattle.venue.proofs.Rows.{past_none, push_apart, push_here, put-here}
use Rattle.venue.specs.Asking.{ticket_of}
use Rattle.venue.specs.Books.{executed_of}
use Rattle.venue.specs.Ledger.{Ledger, changed, rewritten}
use Rattle.venue.specs.Ledger.{entered as opened}

-- ---- the row under a number after a change, which may not be allowed

abbrev pub made : Option Row → Option Row → Option Row
made None o = None
made (Some r) None = Some r
made (Some r) (Some s) = Some s

put_none : (xs : List Row) (n : ℕ) (y : Row) → under xs n ≡ None → under (put_under xs n y) n ≡ None
put_none xs zero y e = refl
put_none [] (suc n) y e = refl
put_none (x ∷ xs) (suc zero) y e = none-some x (sym e)
put_none (x ∷ xs) (suc (suc n)) y e = put_none xs (suc n) y e

rewritten_here : (is : List Instrument) (t : Time) (n : ℕ) (c : Change) (l : Ledger) (b o : Option Row)
    → under l.rows n ≡ b → under (rewritten is t n c o l).rows n ≡ made b o
rewritten_here is t n c l None None e = e
rewritten_here is t n c l (Some r) None e = e
rewritten_here is t n c l None (Some s) e = put_none l.rows n s e
rewritten_here is t n c l (Some r) (Some s) e = put-here l.rows n r s e

rewritten_other : (is : List Instrument) (t : Time) (n : ℕ) (c : Change) (l : Ledger) (o : Option Row) (m : ℕ)
    → (n ≡ m → ⊥) → under (rewritten is t n c o l).rows m ≡ under l.rows m
rewritten_other is t n c l None m ne = refl
rewritten_other is t n c l (Some s) m ne = under-others l.rows n m s (λ e. ne (sym e))

module _ (is : List Instrument) (t : Time) (n : ℕ) (c : Change) (l : Ledger) where
  -- the row of the number
  abbrev Now : Option Row
  Now = made (under l.rows n) (after n c (under l.rows n))

  here_is : under (changed is t n c l).rows n ≡ Now
  here_is = rewritten_here is t n c l (under l.rows n) (after n c (under l.rows n)) refl

  others_are : (m : ℕ) → (n ≡ m → ⊥) → under (changed is t n c l).rows m ≡ under l.rows m
  others_are m ne = rewritten_other is t n c l (after n c (under l.rows n)) m ne

  -- the book follows where it does under the number
  follows : (b b' : Lists) → Mirrors l.rows b → order_under b' n ≡ open_order n Now
      → ((m : ℕ) → (n ≡ m → ⊥) → order_under b' m ≡ order_under b m) → Mirrors (changed is t n c l).rows b'
  follows b b' k here others m = go (cases_eq n m)
    where
      go : (n ≡ m) ⊎ (n ≡ m → ⊥) → order_under b' m ≡ open_order m (under (changed is t n c l).rows m)
      go (inl e) = subst (λ i. order_under b' i ≡ open_order i (under (changed is t n c l).rows i)) e
          (here ∙ ap (open_order n) (sym here_is))
      go (inr ne) = others m ne ∙ k m ∙ ap (open_order m) (sym (others_are m ne))

  -- and stays as it is where as much is open as before
  stays_by : (b : Lists) → Mirrors l.rows b → open_order n Now ≡ open_order n (under l.rows n)
      → Mirrors (changed is t n c l).rows b
  stays_by b k e = follows b b k (k n ∙ sym e) (λ m ne. refl)

-- ---- what is withdrawn is not open

withdrawn_now : (n : ℕ) (e : Ending) (c : FixedText 20) (o : Option Row)
    → open_order n (made o (after n (Withdraw e c) o)) ≡ None
withdrawn_now n e c None = refl
withdrawn_now n e c (Some r) = go (nat_lt 0 r.leaves) refl
  where
    go : (b : Bool) → nat_lt 0 r.leaves ≡ b → open_order n (made (Some r) (where_allowed b (ended e r))) ≡ None
    go true h = refl
    go false h = cond-false (nat_lt 0 r.leaves) _ _ h

pub withdraws : (is : List Instrument) (t : Time) (n : ℕ) (e : Ending) (c : FixedText 20) (l : Ledger) (b b' : Lists)
    → Mirrors l.rows b → OnceIn n b → b' ≡ altered b n None → Mirrors (changed is t n (Withdraw e c) l).rows b'
withdraws is t n e c l b b' k u f =
    subst (Mirrors (changed is t n (Withdraw e c) l).rows) (sym f)
    (follows is t n (Withdraw e c) l b (altered b n None) k
    (altered_none b n u ∙ sym (withdrawn_now n e c (under l.rows n))) (λ m ne. altered_other b n m None ne))

-- ---- an order that is there is not accepted again, and what is undone opens nothing

accepted_now : (n : ℕ) (s : Terms) (a : Ask) (o : Option Row)
    → open_order n (made o (after n (Accept s a) o)) ≡ open_order n o
accepted_now n s a None = refl
accepted_now n s a (Some r) = refl

pub accepts_none : (is : List Instrument) (t : Time) (n : ℕ) (s : Terms) (a : Ask) (l : Ledger) (b : Lists)
    → Mirrors l.rows b → Mirrors (changed is t n (Accept s a) l).rows b
accepts_none is t n s a l b k = stays_by is t n (Accept s a) l b k (accepted_now n s a (under l.rows n))

undone_now : (n : ℕ) (u : Undone) (o : Option Row) → open_order n (made o (after n (Undo u) o)) ≡ open_order n o
undone_now n u None = refl
undone_now n u (Some r) = go (undoable u.quantity r)
  where
    go : (b : Bool) → open_order n (made (Some r) (where_allowed b (undone u.quantity r))) ≡ open_order n (Some r)
    go true = refl
    go false = refl

pub undoes : (is : List Instrument) (t : Time) (n : ℕ) (u : Undone) (l : Ledger) (b : Lists)
    → Mirrors l.rows b → Mirrors (changed is t n (Undo u) l).rows b
undoes is t n u l b k = stays_by is t n (Undo u) l b k (undone_now n u (under l.rows n))

-- ---- a fill

-- an order that is found open
pub record Opened (n : ℕ) (x : Option Row) (o : Order) : Type 0 where
  pub row : Row
  pub is : x ≡ Some row
  pub some : 0 < row.leaves
  pub same : as_order n row ≡ o

pub opened_by : (n : ℕ) (x : Option Row) (o : Order) → open_order n x ≡ Some o → Opened n x o
opened_by n None o e = none-some o e
opened_by n (Some r) o e = go (nat_lt 0 r.leaves) refl e
  where
    go : (b : Bool) → nat_lt 0 r.leaves ≡ b → cond b (Some (as_order n r)) None ≡ Some o → Opened n (Some r) o
    go true h f = record { row = r; is = refl; some = ltb-true 0 r.leaves h; same = cc }
    go false h f = none-some o f

fillable_is : (q : ℕ) (r : Row) → 0 < q → q ≤ r.leaves → fillable q r ≡ true
fillable_is q r some le = Prim.grind arith

filled_now : (n : ℕ) (f : Filling) (o : Option Row) (r : Row) → o ≡ Some r → 0 < f.quantity → f.quantity ≤ r.leaves
    → made o (after n (Fill f) o) ≡ Some (filled f.quantity r)
filled_now n f o r e some le =
    ap (λ (x : Option Row). made x (after n (Fill f) x)) e
    ∙ ap (λ (b : Bool). made (Some r) (where_allowed b (filled f.quantity r))) (fillable_is f.quantity r some le)

left_now : (n q : ℕ) (r : Row) (b : Lists) → order_under b n ≡ Some (as_order n r) → OnceIn n b → q ≤ r.leaves
    → order_under (altered b n (left_of q r.leaves)) n ≡ open_order n (Some (filled q r))
left_now n q r b e u le = go (nat_lt q r.leaves) refl
  where
    go : (v : Bool) → nat_lt q r.leaves ≡ v
        → order_under (altered b n (cond v (Some (r.leaves - q)) None)) n ≡ open_order n (Some (filled q r))
    go true h =
        let lt = ltb-true q r.leaves h in
        altered_some b n (r.leaves - q)
        ∙ ap (option_map (λ (o : Order). with_quantity o (r.leaves - q))) e
        ∙ sym (cond-true (nat_lt 0 (r.leaves - q)) _ _ (lt-ltb 0 (r.leaves - q) (omega arith)))
    go false h =
        let none : nat_lt 0 (r.leaves - q) ≡ false = Prim.grind arith in
        altered_none b n u ∙ sym (cond-false (nat_lt 0 (r.leaves - q)) _ _ none)

pub fills : (is : List Instrument) (t : Time) (n : ℕ) (f : Filling) (l : Ledger) (b : Lists) (o : Order)
    → Mirrors l.rows b → OnceIn n b → order_under b n ≡ Some o → 0 < f.quantity → f.quantity ≤ o.quantity
    → Mirrors (changed is t n (Fill f) l).rows (altered b n (left_of f.quantity o.quantity))
fills is t n f l b o k u e some le =
    let x = opened_by n (under l.rows n) o (sym (k n) ∙ e) in
    let as_much : x.row.leaves ≡ o.quantity = ap (λ (y : Order). y.quantity) x.same in
    let fits : f.quantity ≤ x.row.leaves = omega arith in
    subst (λ q. Mirrors (changed is t n (Fill f) l).rows (altered b n (left_of f.quantity q))) as_much
    (follows is t n (Fill f) l b (altered b n (left_of f.quantity x.row.leaves)) k
    (left_now n f.quantity x.row b (e ∙ ap Some (sym x.same)) u fits
    ∙ ap (open_order n) (sym (filled_now n f (under l.rows n) x.row x.is some fits)))
    (λ m ne. altered_other b n m (left_of f.quantity x.row.leaves) ne))

-- ---- a new order

some_ordered : (q : ℕ) → orderable q ≡ true → nat_lt 0 q ≡ true
some_ordered q h = (and_parts (nat_lt 0 q) _ h).0

pub enters : (is : List Instrument) (t : Time) (s : Terms) (a : Ask) (l : Ledger) (b b' : Lists)
    → Mirrors l.rows b → orderable a.quantity ≡ true
    → b' ≡ entered b (order_of (length l.rows + 1) (ticket_of s a)) → Mirrors (opened is t s a l).rows b'
enters is t s a l b b' k some f =
    subst (Mirrors (opened is t s a l).rows) (sym f) (λ m. go m (cases_eq (length l.rows + 1) m))
  where
    go : (m : ℕ) → (length l.rows + 1 ≡ m) ⊎ (length l.rows + 1 ≡ m → ⊥)
        → order_under (entered b (order_of (length l.rows + 1) (ticket_of s a))) m
        ≡ open_order m (under (opened is t s a l).rows m)
    go m (inl e) =
        subst (λ i. order_under (entered b (order_of (length l.rows + 1) (ticket_of s a))) i
        ≡ open_order i (under (opened is t s a l).rows i)) e
        (entered_here b (order_of (length l.rows + 1) (ticket_of s a)) (length l.rows + 1) refl
        (k (length l.rows + 1)
        ∙ ap (open_order (length l.rows + 1)) (past_none l.rows (length l.rows + 1) (omega arith)))
        ∙ sym (cond-true (nat_lt 0 a.quantity) _ _ (some_ordered a.quantity some))
        ∙ ap (open_order (length l.rows + 1))
        (sym (push_here l.rows (length l.rows + 1) (accepted (length l.rows + 1) s a) refl)))
    go m (inr ne) =
        entered_other b (order_of (length l.rows + 1) (ticket_of s a)) m ne
        ∙ k m
        ∙ ap (open_order m) (sym (push_apart l.rows m (accepted (length l.rows + 1) s a) (λ e. ne (sym e))))

-- ---- a replacement

or_right : (x y : Bool) → (x || y) ≡ false → y ≡ false
or_right true y h = absurd (both_ways false refl (sym h))
or_right false y h = h

relimited_is : (k : OrderType) (p q : Price) → relimited (pricing_of k p) q ≡ pricing_of k q
relimited_is order_type.Market p q = refl
relimited_is order_type.Limit p q = refl

same_price : (k : OrderType) (p q : Price) → reprices (pricing_of k p) q ≡ false → pricing_of k p ≡ pricing_of k q
same_price order_type.Market p q h = refl
same_price order_type.Limit p q h =
    let e : p.raw ≡ q.raw = Prim.grind (arith, ints) in ap (λ (z : _). Limit (record { raw = z })) e

-- the book after it: the order has its new limit and quantity, and the others are as they were
record Again (n : ℕ) (a : Ask) (r : Row) (b b' : Lists) : Type 0 where
  here : order_under b' n ≡ Some (as_order n (replaced a r))
  others : (m : ℕ) → (n ≡ m → ⊥) → order_under b' m ≡ order_under b m

again : (n : ℕ) (a : Ask) (r : Row) (b : Lists) → OnceIn n b → order_under b n ≡ Some (as_order n r)
    → Again n a r b (amended b (Some (as_order n r)) (left_open r.executed a.quantity) a.price)
again n a r b u e = go (goes_back (as_order n r) (left_open r.executed a.quantity) a.price) refl
  where
    go : (v : Bool) → goes_back (as_order n r) (left_open r.executed a.quantity) a.price ≡ v
        → Again n a r b (cond v
        (entered (altered b n None) (with_limit (with_quantity (as_order n r) (left_open r.executed a.quantity)) a.price))
        (altered b n (Some (left_open r.executed a.quantity))))
    go true h =
        let o = with_limit (with_quantity (as_order n r) (left_open r.executed a.quantity)) a.price in
        record {
          here = entered_here (altered b n None) o n refl (altered_none b n u)
              ∙ ap (λ (z : Pricing). Some (record (as_order n (replaced a r)) { pricing = z }))
              (relimited_is r.terms.kind r.price a.price);
          others = λ m ne. entered_other (altered b n None) o m ne ∙ altered_other b n m None ne;
        }
    go false h = record {
      here = altered_some b n (left_open r.executed a.quantity)
          ∙ ap (option_map (λ (x : Order). with_quantity x (left_open r.executed a.quantity))) e
          ∙ ap (λ (z : Pricing). Some (record (as_order n (replaced a r)) { pricing = z }))
          (same_price r.terms.kind r.price a.price (or_right _ _ h));
      others = λ m ne. altered_other b n m (Some (left_open r.executed a.quantity)) ne;
    }

replaceable : (r : Row) (a : Ask) → nat_lt 0 r.leaves ≡ true → orderable a.quantity ≡ true
    → is_none (replace_fault a.quantity r) ≡ true
replaceable r a l o =
    ap (λ b. is_none (cond (not b) (Some NotOpen) (cond (not (orderable a.quantity)) (Some BadTerms) None))) l
    ∙ ap (λ b. is_none (cond (not b) (Some BadTerms) None)) o

replaced_now : (n : ℕ) (a : Ask) (r : Row) → nat_lt 0 r.leaves ≡ true → orderable a.quantity ≡ true
    → open_order n (made (Some r) (after n (Replace a) (Some r))) ≡ open_order n (Some (replaced a r))
replaced_now n a r some may =
    ap (λ (b : Bool). open_order n (made (Some r) (where_allowed b (replaced a r)))) (replaceable r a some may)

unreplaced_now : (n : ℕ) (a : Ask) (r : Row) → nat_lt 0 r.leaves ≡ false
    → open_order n (made (Some r) (after n (Replace a) (Some r))) ≡ None
unreplaced_now n a r h =
    let later : Option Refusal = cond (not (orderable a.quantity)) (Some BadTerms) None in
    ap (λ (b : Bool). open_order n (made (Some r)
    (where_allowed (is_none (cond (not b) (Some NotOpen) later)) (replaced a r)))) h
    ∙ cond-false (nat_lt 0 r.leaves) _ _ h

-- of which nothing is left open
gone_now : (n : ℕ) (a : Ask) (o : Option Row) → orderable a.quantity ≡ true
    → nat_lt 0 (left_open (executed_of o) a.quantity) ≡ false
    → open_order n (made o (after n (Replace a) o)) ≡ None
gone_now n a None may h = refl
gone_now n a (Some r) may h = go (nat_lt 0 r.leaves) refl
  where
    go : (v : Bool) → nat_lt 0 r.leaves ≡ v → open_order n (made (Some r) (after n (Replace a) (Some r))) ≡ None
    go true s = replaced_now n a r s may ∙ cond-false (nat_lt 0 (left_open r.executed a.quantity)) _ _ h
    go false s = unreplaced_now n a r s

-- the book, once an order is set to what is left open of it
abbrev pub set_book : ℕ → ℕ → Price → Lists → Lists
set_book n q x b = cond (nat_lt 0 q) (amended b (order_under b n) q x) (altered b n None)

pub replaces : (is : List Instrument) (t : Time) (n : ℕ) (a : Ask) (l : Ledger) (b b' : Lists)
    → Mirrors l.rows b → OnceIn n b → orderable a.quantity ≡ true
    → b' ≡ set_book n (left_open (executed_of (under l.rows n)) a.quantity) a.price b
    → Mirrors (changed is t n (Replace a) l).rows b'
replaces is t n a l b b' k u may f = by_left (nat_lt 0 (left_open (executed_of (under l.rows n)) a.quantity)) refl
  where
    amends : nat_lt 0 (left_open (executed_of (under l.rows n)) a.quantity) ≡ true → (o : Option Order) (x : Option Row)
        → order_under b n ≡ o → under l.rows n ≡ x
        → b' ≡ amended b o (left_open (executed_of x) a.quantity) a.price
    amends h o x e r =
        f ∙ cond-true (nat_lt 0 (left_open (executed_of (under l.rows n)) a.quantity)) _ _ h
        ∙ ap (λ z. amended b z (left_open (executed_of (under l.rows n)) a.quantity) a.price) e
        ∙ ap (λ z. amended b o (left_open (executed_of z) a.quantity) a.price) r

    unmoved : nat_lt 0 (left_open (executed_of (under l.rows n)) a.quantity) ≡ true
        → open_order n (made (under l.rows n) (after n (Replace a) (under l.rows n))) ≡ None
        → open_order n (under l.rows n) ≡ None → Mirrors (changed is t n (Replace a) l).rows b'
    unmoved h gone none =
        let same : b' ≡ b = amends h None (under l.rows n) (k n ∙ none) refl in
        subst (Mirrors (changed is t n (Replace a) l).rows) (sym same)
        (stays_by is t n (Replace a) l b k (gone ∙ sym none))

    moved : (r : Row) → nat_lt 0 (left_open (executed_of (under l.rows n)) a.quantity) ≡ true
        → under l.rows n ≡ Some r → nat_lt 0 r.leaves ≡ true → Mirrors (changed is t n (Replace a) l).rows b'
    moved r h e open_ =
        let there : order_under b n ≡ Some (as_order n r) =
        k n ∙ ap (open_order n) e ∙ cond-true (nat_lt 0 r.leaves) _ _ open_ in
        let x = subst (Again n a r b) (sym (amends h (Some (as_order n r)) (Some r) there e)) (again n a r b u there) in
        let more : nat_lt 0 (left_open r.executed a.quantity) ≡ true =
        ap (λ z. nat_lt 0 (left_open (executed_of z) a.quantity)) (sym e) ∙ h in
        follows is t n (Replace a) l b b' k
        (x.here ∙ sym (replaced_now n a r open_ may
        ∙ cond-true (nat_lt 0 (left_open r.executed a.quantity)) _ _ more)
        ∙ ap (λ (o : Option Row). open_order n (made o (after n (Replace a) o))) (sym e)) x.others

    by_row : (x : Option Row) → nat_lt 0 (left_open (executed_of (under l.rows n)) a.quantity) ≡ true
        → under l.rows n ≡ x → Mirrors (changed is t n (Replace a) l).rows b'
    by_row None h e =
        unmoved h (ap (λ (o : Option Row). open_order n (made o (after n (Replace a) o))) e) (ap (open_order n) e)
    by_row (Some r) h e = by_leaves (nat_lt 0 r.leaves) refl
      where
        by_leaves : (v : Bool) → nat_lt 0 r.leaves ≡ v → Mirrors (changed is t n (Replace a) l).rows b'
        by_leaves true s = moved r h e s
        by_leaves false s =
            unmoved h (ap (λ (o : Option Row). open_order n (made o (after n (Replace a) o))) e
            ∙ unreplaced_now n a r s)
            (ap (open_order n) e ∙ cond-false (nat_lt 0 r.leaves) _ _ s)

    by_left : (v : Bool) → nat_lt 0 (left_open (executed_of (under l.rows n)) a.quantity) ≡ v
        → Mirrors (changed is t n (Replace a) l).rows b'
    by_left true h = by_row (under l.rows n) h refl
    by_left false h =
        let gone : b' ≡ altered b n None =
        f ∙ cond-false (nat_lt 0 (left_open (executed_of (under l.rows n)) a.quantity)) _ _ h in
        subst (Mirrors (changed is t n (Replace a) l).rows) (sym gone)
        (follows is t n (Replace a) l b (altered b n None) k
        (altered_none b n u ∙ sym (gone_now n a (under l.rows n) may h)) (λ m ne. altered_other b n m None ne))
