-- What two engines mean as one, after a call of one of them. Assumes nothing.
use Rattle.std.specs.Prelude.{◌≡◌, ◌≢◌, ℕ, ◌+◌, ◌<◌, ◌≤◌, Bool, true, false, cond, ◌||◌, is_ok, is_some, min, Some, None, Ok, Err, Option, Result, refl}
use Rattle.std.proofs.Common.{eqb, leb, sym, ap, ◌∙◌, subst, arith}
use Rattle.std.proofs.lemmas.Bool.{cond-false, cond-true, ne_eqb}
use Rattle.std.specs.FinMap.{get, len}
use Rattle.std.specs.Option.{option_map}
use Rattle.std.specs.Result.{result_err}
use Rattle.codes.specs.declared.order.Book.{Book}
use Rattle.codes.specs.declared.order.Book.TheVariants.{DarkMidpoint, Integrated}
use Rattle.matching.specs.Meaning.{Allowed, Meaning, Orders, Parties, amend_refusal, cancel_refusal, closed, enter_refusal, filled, happened, instrument_of, left, opened, quantity_of, resized, serves, with_order}
use Rattle.matching.specs.declared.event.Event.{Event}
use Rattle.matching.specs.declared.event.Event.TheVariants.{Nothing, Expired, Trade}
use Rattle.matching.specs.declared.matcher.Held.{Held}
use Rattle.matching.specs.declared.matcher.Refusal.{Refusal}
use Rattle.matching.specs.declared.matcher.Refusal.TheVariants.{NoQuantity, NumberOpen, Full, NotOpen}
use Rattle.book_pair.specs.Pairs.{Fits, happens, paired}
use Rattle.book_pair.specs.Unions.{Apart, union}
use Rattle.book_pair.proofs.Rooms.{fits-closed, fits-happened, fits-opened, fits-resized}
use Rattle.book_pair.proofs.Unions.{apart-back, apart-empty, apart-first, apart-second, in_first, in_neither, in_second, len-union, put-first, put-second}

abbrev Answer : Type 0
Answer = Result (Unit {0}) Refusal

pub serves_paired : (a b : Meaning) (k : Book) → (serves a k || serves b k) ≡ serves (paired a b) k
serves_paired a b DarkMidpoint = refl
serves_paired a b Integrated = refl

-- ---- one of the two changes what is under a number

change_first : (a b : Meaning) (n : ℕ) (w : Option Held) → get b.orders n ≡ None
    → paired (with_order a n w) b ≡ with_order (paired a b) n w
change_first a b n w e = ap (λ (os : Orders). record (paired a b) { orders = os }) (put-first a.orders b.orders n w e)

change_second : (a b : Meaning) (n : ℕ) (w : Option Held) → get a.orders n ≡ None
    → paired a (with_order b n w) ≡ with_order (paired a b) n w
change_second a b n w e =
    ap (λ (os : Orders). record (paired a b) { orders = os }) (put-second a.orders b.orders n w e)

-- what holds of the two after it, where together they then mean m
pub record Kept (a b m : Meaning) : Type 0 where
  pub after : paired a b ≡ m
  pub apart : Apart a.orders b.orders
  pub roomy : Fits (paired a b)

-- a call of the first that changes what is under n, or is refused
first_done : (a a' b : Meaning) (n : ℕ) (w : Option Held) (r : Answer) → Apart a.orders b.orders → Fits (paired a b)
    → get b.orders n ≡ None → Fits (with_order (paired a b) n w) → a' ≡ cond (is_ok r) (with_order a n w) a
    → Kept a' b (cond (is_ok r) (with_order (paired a b) n w) (paired a b))
first_done a a' b n w (Ok u) h f e g is =
    let same = ap (λ (m : Meaning). paired m b) is ∙ change_first a b n w e in
    record {
      after = same;
      apart = subst (λ (m : Meaning). Apart m.orders b.orders) (sym is) (apart-first a.orders b.orders n w h e);
      roomy = subst Fits (sym same) g;
    }
first_done a a' b n w (Err x) h f e g is =
    let same = ap (λ (m : Meaning). paired m b) is in
    record {
      after = same;
      apart = subst (λ (m : Meaning). Apart m.orders b.orders) (sym is) h;
      roomy = subst Fits (sym same) f;
    }

-- and of the second
second_done : (a b b' : Meaning) (n : ℕ) (w : Option Held) (r : Answer) → Apart a.orders b.orders → Fits (paired a b)
    → get a.orders n ≡ None → Fits (with_order (paired a b) n w) → b' ≡ cond (is_ok r) (with_order b n w) b
    → Kept a b' (cond (is_ok r) (with_order (paired a b) n w) (paired a b))
second_done a b b' n w (Ok u) h f e g is =
    let same = ap (paired a) is ∙ change_second a b n w e in
    record {
      after = same;
      apart = subst (λ (m : Meaning). Apart a.orders m.orders) (sym is) (apart-second a.orders b.orders n w h e);
      roomy = subst Fits (sym same) g;
    }
second_done a b b' n w (Err x) h f e g is =
    let same = ap (paired a) is in
    record {
      after = same;
      apart = subst (λ (m : Meaning). Apart a.orders m.orders) (sym is) h;
      roomy = subst Fits (sym same) f;
    }

-- ---- two that hold nothing are joined

pub joined : (a b : Meaning) → len a.orders ≡ 0 → len b.orders ≡ 0 → Kept a b (paired a b)
joined a b e f =
    let u = apart-empty a.orders b.orders f in
    let l = len-union a.orders b.orders u in
    record { after = refl; apart = u; roomy = omega arith }

-- ---- an order is entered

-- it is refused for none of the reasons
enter_free : (m : Meaning) (n q : ℕ) → q ≢ 0 → get m.orders n ≡ None → len m.orders < m.capacity
    → enter_refusal m n q ≡ None
enter_free m n q ne e lt =
    cond-false (eqb q 0) _ _ (ne_eqb q 0 ne)
    ∙ cond-false (is_some (get m.orders n)) _ _ (ap is_some e)
    ∙ cond-false (leb m.capacity (len m.orders)) _ _ (grind (arith))

-- what is asked first of a new order, of both together
pub record Free (a b : Meaning) (n q : ℕ) : Type 0 where
  pub some : q ≢ 0
  pub unknown : get (union a.orders b.orders) n ≡ None
  pub room : len (union a.orders b.orders) < min a.capacity b.capacity

pub enter_first : (a a' b : Meaning) (n q : ℕ) (h : Held) (r : Answer) → Apart a.orders b.orders → Fits (paired a b)
    → Free a b n q → a' ≡ cond (is_ok r) (opened a n h) a
    → Kept a' b (cond (is_ok r) (opened (paired a b) n h) (paired a b))
enter_first a a' b n q h r u f k is =
    first_done a a' b n (Some h) r u f (in_neither a.orders b.orders n k.unknown).1
    (fits-opened (paired a b) n h k.room) is

pub enter_second : (a b b' : Meaning) (n q : ℕ) (h : Held) (r : Answer) → Apart a.orders b.orders → Fits (paired a b)
    → Free a b n q → b' ≡ cond (is_ok r) (opened b n h) b
    → Kept a b' (cond (is_ok r) (opened (paired a b) n h) (paired a b))
enter_second a b b' n q h r u f k is =
    second_done a b b' n (Some h) r u f (in_neither a.orders b.orders n k.unknown).0
    (fits-opened (paired a b) n h k.room) is

pub refused_first : (a b : Meaning) (n q : ℕ) → Apart a.orders b.orders → Free a b n q
    → enter_refusal a n q ≡ enter_refusal (paired a b) n q
refused_first a b n q u k =
    let l = len-union a.orders b.orders u in
    let g = k.room in
    enter_free a n q k.some (in_neither a.orders b.orders n k.unknown).0 (omega arith)
    ∙ sym (enter_free (paired a b) n q k.some k.unknown k.room)

pub refused_second : (a b : Meaning) (n q : ℕ) → Apart a.orders b.orders → Free a b n q
    → enter_refusal b n q ≡ enter_refusal (paired a b) n q
refused_second a b n q u k =
    let l = len-union a.orders b.orders u in
    let g = k.room in
    enter_free b n q k.some (in_neither a.orders b.orders n k.unknown).1 (omega arith)
    ∙ sym (enter_free (paired a b) n q k.some k.unknown k.room)

-- ---- an order is cancelled or amended, by the one that has it, or by the second

abbrev no_refusal : Option Held → Option Refusal
no_refusal w = cond (is_some w) None (Some NotOpen)

pub cancel_first : (a a' b : Meaning) (n : ℕ) (r : Answer) → Apart a.orders b.orders → Fits (paired a b)
    → get b.orders n ≡ None → a' ≡ cond (is_ok r) (closed a n) a
    → Kept a' b (cond (is_ok r) (closed (paired a b) n) (paired a b))
cancel_first a a' b n r u f e is = first_done a a' b n None r u f e (fits-closed (paired a b) n f) is

pub cancel_second : (a b b' : Meaning) (n : ℕ) (r : Answer) → Apart a.orders b.orders → Fits (paired a b)
    → get a.orders n ≡ None → b' ≡ cond (is_ok r) (closed b n) b
    → Kept a b' (cond (is_ok r) (closed (paired a b) n) (paired a b))
cancel_second a b b' n r u f e is = second_done a b b' n None r u f e (fits-closed (paired a b) n f) is

pub uncancelled_first : (a b : Meaning) (n : ℕ) → get b.orders n ≡ None
    → cancel_refusal a n ≡ cancel_refusal (paired a b) n
uncancelled_first a b n e = ap no_refusal (sym (in_first a.orders b.orders n e))

pub uncancelled_second : (a b : Meaning) (n : ℕ) → get a.orders n ≡ None
    → cancel_refusal b n ≡ cancel_refusal (paired a b) n
uncancelled_second a b n e = ap no_refusal (sym (in_second a.orders b.orders n e))

abbrev sized : ℕ → Option Held → Option Held
sized q w = option_map (λ (h : Held). record h { quantity = q }) w

pub amend_first : (a a' b : Meaning) (n q : ℕ) (r : Answer) → Apart a.orders b.orders → Fits (paired a b)
    → get b.orders n ≡ None → a' ≡ cond (is_ok r) (resized a n q) a
    → Kept a' b (cond (is_ok r) (resized (paired a b) n q) (paired a b))
amend_first a a' b n q r u f e is =
    let w = ap (sized q) (in_first a.orders b.orders n e) in
    subst (λ (x : Option Held). Kept a' b (cond (is_ok r) (with_order (paired a b) n x) (paired a b))) (sym w)
    (first_done a a' b n (sized q (get a.orders n)) r u f e
    (subst (λ (x : Option Held). Fits (with_order (paired a b) n x)) w (fits-resized (paired a b) n q f)) is)

pub amend_second : (a b b' : Meaning) (n q : ℕ) (r : Answer) → Apart a.orders b.orders → Fits (paired a b)
    → get a.orders n ≡ None → b' ≡ cond (is_ok r) (resized b n q) b
    → Kept a b' (cond (is_ok r) (resized (paired a b) n q) (paired a b))
amend_second a b b' n q r u f e is =
    let w = ap (sized q) (in_second a.orders b.orders n e) in
    subst (λ (x : Option Held). Kept a b' (cond (is_ok r) (with_order (paired a b) n x) (paired a b))) (sym w)
    (second_done a b b' n (sized q (get b.orders n)) r u f e
    (subst (λ (x : Option Held). Fits (with_order (paired a b) n x)) w (fits-resized (paired a b) n q f)) is)

abbrev amend_by : ℕ → Option Held → Option Refusal
amend_by q w = cond (is_some w) (cond (eqb q 0) (Some NoQuantity) None) (Some NotOpen)

pub unamended_first : (a b : Meaning) (n q : ℕ) → get b.orders n ≡ None
    → amend_refusal a n q ≡ amend_refusal (paired a b) n q
unamended_first a b n q e = ap (amend_by q) (sym (in_first a.orders b.orders n e))

pub unamended_second : (a b : Meaning) (n q : ℕ) → get a.orders n ≡ None
    → amend_refusal b n q ≡ amend_refusal (paired a b) n q
unamended_second a b n q e = ap (amend_by q) (sym (in_second a.orders b.orders n e))

-- the one that does not have it
pub unknown_of : (w : Option Held) → is_some w ≡ false → w ≡ None
unknown_of None e = refl
unknown_of (Some h) e = absurd (cc)

-- ---- an event of one of the two

pub quiet : (e : Event) → happens e ≡ false → e ≡ Nothing
quiet Nothing h = refl
quiet (Expired n) h = absurd (cc)
quiet (Trade p a q z) h = absurd (cc)

-- the orders that an event names are not in a map
abbrev Unnamed : Orders → Option ℕ → Type 0
Unnamed os None = Unit {0}
Unnamed os (Some n) = get os n ≡ None

abbrev Elsewhere : Orders → Event → Type 0
Elsewhere os Nothing = Unit {0}
Elsewhere os (Expired n) = get os n ≡ None
Elsewhere os (Trade p a q z) = Unnamed os p × Unnamed os a

some_open : (w : Option Held) (q : ℕ) → 1 ≤ q → q ≤ quantity_of w → is_some w ≡ true
some_open None q l m = absurd (omega arith)
some_open (Some h) q l m = refl

elsewhere : (os us : Orders) (e : Event) → Apart os us → Allowed os e → Elsewhere us e
elsewhere os us Nothing u h = tt
elsewhere os us (Expired n) u h = u n h
elsewhere os us (Trade None None q z) u h = (tt, tt)
elsewhere os us (Trade (Some p) None q z) u h = (u p (some_open (get os p) q h.0 h.1), tt)
elsewhere os us (Trade None (Some a) q z) u h = (tt, u a (some_open (get os a) q h.0 h.1))
elsewhere os us (Trade (Some p) (Some a) q z) u h =
    (u p (some_open (get os p) q h.0 h.1.0), u a (some_open (get os a) q h.0 h.1.1))

-- the orders that an event names are alike in two maps
abbrev AlikeAt : Orders → Orders → Option ℕ → Type 0
AlikeAt os us None = Unit {0}
AlikeAt os us (Some n) = get us n ≡ get os n

abbrev Alike : Orders → Orders → Event → Type 0
Alike os us Nothing = Unit {0}
Alike os us (Expired n) = get us n ≡ get os n
Alike os us (Trade p a q z) = AlikeAt os us p × AlikeAt os us a

as_much : (v w : Option Held) (q : ℕ) → w ≡ v → q ≤ quantity_of v → q ≤ quantity_of w
as_much v w q e l = subst (λ (x : Option Held). q ≤ quantity_of x) (sym e) l

allowed_alike : (os us : Orders) (e : Event) → Alike os us e → Allowed os e → Allowed us e
allowed_alike os us Nothing s h = tt
allowed_alike os us (Expired n) s h = ap is_some s ∙ h
allowed_alike os us (Trade None None q z) s h = h
allowed_alike os us (Trade (Some p) None q z) s h = (h.0, as_much (get os p) (get us p) q s.0 h.1)
allowed_alike os us (Trade None (Some a) q z) s h = (h.0, as_much (get os a) (get us a) q s.1 h.1)
allowed_alike os us (Trade (Some p) (Some a) q z) s h = (
  h.0,
  (
    as_much (get os p) (get us p) q s.0 h.1.0,
    as_much (get os a) (get us a) q s.1 h.1.1,
    h.1.2,
    ap instrument_of s.0 ∙ h.1.3 ∙ sym (ap instrument_of s.1),
  ),
)

alike_first : (a b : Orders) (e : Event) → Elsewhere b e → Alike a (union a b) e
alike_first a b Nothing x = tt
alike_first a b (Expired n) x = in_first a b n x
alike_first a b (Trade None None q z) x = (tt, tt)
alike_first a b (Trade (Some p) None q z) x = (in_first a b p x.0, tt)
alike_first a b (Trade None (Some n) q z) x = (tt, in_first a b n x.1)
alike_first a b (Trade (Some p) (Some n) q z) x = (in_first a b p x.0, in_first a b n x.1)

alike_second : (a b : Orders) (e : Event) → Elsewhere a e → Alike b (union a b) e
alike_second a b Nothing x = tt
alike_second a b (Expired n) x = in_second a b n x
alike_second a b (Trade None None q z) x = (tt, tt)
alike_second a b (Trade (Some p) None q z) x = (in_second a b p x.0, tt)
alike_second a b (Trade None (Some n) q z) x = (tt, in_second a b n x.1)
alike_second a b (Trade (Some p) (Some n) q z) x = (in_second a b p x.0, in_second a b n x.1)

pub allowed_first : (a b : Meaning) (e : Event) → Apart a.orders b.orders → Allowed a.orders e
    → Allowed (union a.orders b.orders) e
allowed_first a b e u h =
    allowed_alike a.orders (union a.orders b.orders) e
    (alike_first a.orders b.orders e (elsewhere a.orders b.orders e u h)) h

pub allowed_second : (a b : Meaning) (e : Event) → Apart a.orders b.orders → Allowed b.orders e
    → Allowed (union a.orders b.orders) e
allowed_second a b e u h =
    allowed_alike b.orders (union a.orders b.orders) e
    (alike_second a.orders b.orders e (elsewhere b.orders a.orders e (apart-back a.orders b.orders u) h)) h

-- together they mean m, and no number is in both
record Stay (a b m : Meaning) : Type 0 where
  after : paired a b ≡ m
  apart : Apart a.orders b.orders

fill_first : (a b m : Meaning) (q : ℕ) (p : Option ℕ) → Stay a b m → Unnamed b.orders p
    → Stay (filled a q p) b (filled m q p)
fill_first a b m q None s e = s
fill_first a b m q (Some n) s e = record {
  after = change_first a b n (left q (get a.orders n)) e
      ∙ ap (λ (w : Option Held). with_order (paired a b) n (left q w)) (sym (in_first a.orders b.orders n e))
      ∙ ap (λ (x : Meaning). filled x q (Some n)) s.after;
  apart = apart-first a.orders b.orders n (left q (get a.orders n)) s.apart e;
}

fill_second : (a b m : Meaning) (q : ℕ) (p : Option ℕ) → Stay a b m → Unnamed a.orders p
    → Stay a (filled b q p) (filled m q p)
fill_second a b m q None s e = s
fill_second a b m q (Some n) s e = record {
  after = change_second a b n (left q (get b.orders n)) e
      ∙ ap (λ (w : Option Held). with_order (paired a b) n (left q w)) (sym (in_second a.orders b.orders n e))
      ∙ ap (λ (x : Meaning). filled x q (Some n)) s.after;
  apart = apart-second a.orders b.orders n (left q (get b.orders n)) s.apart e;
}

happen_first : (a b : Meaning) (e : Event) → Apart a.orders b.orders → Elsewhere b.orders e
    → Stay (happened a e) b (happened (paired a b) e)
happen_first a b Nothing u x = record { after = refl; apart = u }
happen_first a b (Expired n) u x =
    record { after = change_first a b n None x; apart = apart-first a.orders b.orders n None u x }
happen_first a b (Trade p n q z) u x =
    fill_first (filled a q p) b (filled (paired a b) q p) q n
    (fill_first a b (paired a b) q p (record { after = refl; apart = u }) x.0) x.1

happen_second : (a b : Meaning) (e : Event) → Apart a.orders b.orders → Elsewhere a.orders e
    → Stay a (happened b e) (happened (paired a b) e)
happen_second a b Nothing u x = record { after = refl; apart = u }
happen_second a b (Expired n) u x =
    record { after = change_second a b n None x; apart = apart-second a.orders b.orders n None u x }
happen_second a b (Trade p n q z) u x =
    fill_second a (filled b q p) (filled (paired a b) q p) q n
    (fill_second a b (paired a b) q p (record { after = refl; apart = u }) x.0) x.1

stays_kept : (a b m : Meaning) → Stay a b m → Fits m → Kept a b m
stays_kept a b m s f = record { after = s.after; apart = s.apart; roomy = subst Fits (sym s.after) f }

pub next_first : (a a' b : Meaning) (e : Event) → Apart a.orders b.orders → Fits (paired a b) → Allowed a.orders e
    → a' ≡ happened a e → Kept a' b (happened (paired a b) e)
next_first a a' b e u f h is =
    subst (λ (m : Meaning). Kept m b (happened (paired a b) e)) (sym is)
    (stays_kept (happened a e) b (happened (paired a b) e) (happen_first a b e u (elsewhere a.orders b.orders e u h))
    (fits-happened (paired a b) e f))

pub next_second : (a a' b b' : Meaning) (e : Event) → Apart a.orders b.orders → Fits (paired a b)
    → Allowed b.orders e → a' ≡ a → b' ≡ happened b e → Kept a' b' (happened (paired a b) e)
next_second a a' b b' e u f h same is =
    subst (λ (m : Meaning). Kept m b' (happened (paired a b) e)) (sym same)
    (subst (λ (m : Meaning). Kept a m (happened (paired a b) e)) (sym is)
    (stays_kept a (happened b e) (happened (paired a b) e)
    (happen_second a b e u (elsewhere b.orders a.orders e (apart-back a.orders b.orders u) h))
    (fits-happened (paired a b) e f)))
