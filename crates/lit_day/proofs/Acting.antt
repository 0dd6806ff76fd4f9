-- What is done to a venue over the lit book: the book follows each act. Assumes nothing.
use Rattle.std.proofs.Common.{◌≡◌, ℕ, ◌+◌, Bool, true, false, cond, length, List, [], ◌∷◌, ◌++◌, Some, None, Option, refl, sym, subst}
use Rattle.std.specs.Prelude.{nat_lt}
use Rattle.std.proofs.lemmas.List.{take-append-drop}
use Rattle.std.specs.List.{AllByRecursion}
use Rattle.changes.specs.declared.change.Change.{Change}
use Rattle.changes.specs.declared.change.Change.TheVariants.{Accept, Replace, Withdraw, Fill, Undo}
use Rattle.configuration.specs.declared.instrument.Instrument.{Instrument}
use Rattle.keyed.proofs.Looks.{distinct_from}
use Rattle.keyed.specs.Numbers.{under}
use Rattle.lit_book.specs.Books.{LitDid, lit}
use Rattle.lit_book.specs.declared.book.LitBook.{LitBook}
use Rattle.lit_day.proofs.Finding.{Once, once, once_in}
use Rattle.lit_day.proofs.Mirroring.{accepts_none, enters, replaces, undoes, withdraws}
use Rattle.lit_day.proofs.Taking.{Apart, taken}
use Rattle.lit_day.specs.Trading.{Mirrors}
use Rattle.matching.specs.Asked.{Asked, Asks, Enter, Cancel, Amend, Next}
use Rattle.order_book.specs.Books.{table}
use Rattle.order_book.specs.Lists.{order_held, order_number}
use Rattle.order_book.specs.Rules.{Lists, altered, amended, order_under}
use Rattle.orders.specs.Rows.{left_open, orderable}
use Rattle.orders.specs.declared.trade.Leg.{Leg}
use Rattle.orders.specs.declared.trade.Trade.{Trade}
use Rattle.texts.specs.declared.values.Price.{Price}
use Rattle.texts.specs.declared.values.Time.{Time}
use Rattle.venue.specs.Acts.{Act, Open, Alter, Note, Take, Void, asked, asked_all, enact, enact_all, ledger_of, voided}
use Rattle.venue.specs.Asking.{set_to, ticket_of}
use Rattle.venue.specs.Books.{Books, executed_of}
use Rattle.venue.specs.Ledger.{Ledger}
use Rattle.venue.specs.Trading.{passive_undone, side_undone}

-- ---- what holds of every lit book

pub all_of : (e : LitBook) → (lit e).resting ++ (lit e).waiting ≡ table e.orders
all_of e = take-append-drop e.orders.resting (table e.orders)

pub apart_in : (e : LitBook) → Apart (lit e)
apart_in e n =
    subst (Once n) (sym (all_of e)) (once n (table e.orders)
    (distinct_from order_number order_held (table e.orders) e.orders.apart))

-- ---- acts that may be done

-- a new quantity is one that can be ordered, and no order is filled but by an event
abbrev pub MayAlter : Change → Type 0
MayAlter (Accept s a) = Unit {0}
MayAlter (Replace a) = orderable a.quantity ≡ true
MayAlter (Withdraw e c) = Unit {0}
MayAlter (Fill f) = ⊥
MayAlter (Undo u) = Unit {0}

abbrev pub MayDo : Act → Type 0
MayDo (Open s a) = orderable a.quantity ≡ true
MayDo (Alter n c) = MayAlter c
MayDo (Note p e) = Unit {0}
MayDo (Take e) = Unit {0}
MayDo (Void n) = Unit {0}

-- ---- one act

abbrev Follows : Books → LitBook → Type 0
Follows b e = Mirrors b.rows (lit e)

one_asked : (x : Asked) (e e' : LitBook) → Asks LitDid (x ∷ []) e e' → LitDid e x e'
one_asked x e e' (m, did, same) = subst (LitDid e x) (sym same) did

was_set : (n q : ℕ) (x : Price) (v : Bool) (e e' : LitBook) → LitDid e (cond v (Amend n q x) (Cancel n)) e'
    → lit e' ≡ cond v (amended (lit e) (order_under (lit e) n) q x) (altered (lit e) n None)
was_set n q x true e e' d = d
was_set n q x false e e' d = d

unasked : (b : Books) (e e' : LitBook) → e' ≡ e → Follows b e → Follows b e'
unasked b e e' same k = subst (Follows b) (sym same) k

alters : (t : Time) (n : ℕ) (c : Change) (b : Books) (e e' : LitBook) → MayAlter c
    → Asks LitDid (asked (Alter n c) b) e e' → Follows b e → Follows (enact t (Alter n c) b) e'
alters t n (Accept s a) b e e' may d k =
    unasked (enact t (Alter n (Accept s a)) b) e e' d (accepts_none b.instruments t n s a (ledger_of b) (lit e) k)
alters t n (Replace a) b e e' may d k =
    let q = left_open (executed_of (under b.rows n)) a.quantity in
    replaces b.instruments t n a (ledger_of b) (lit e) (lit e') k (once_in n (lit e) (apart_in e n)) may
    (was_set n q a.price (nat_lt 0 q) e e' (one_asked (set_to n q a.price) e e' d))
alters t n (Withdraw x c) b e e' may d k =
    withdraws b.instruments t n x c (ledger_of b) (lit e) (lit e') k (once_in n (lit e) (apart_in e n))
    (one_asked (Cancel n) e e' d)
alters t n (Fill f) b e e' may d k = absurd may
alters t n (Undo u) b e e' may d k =
    unasked (enact t (Alter n (Undo u)) b) e e' d (undoes b.instruments t n u (ledger_of b) (lit e) k)

side_follows : (is : List Instrument) (t : Time) (q : ℕ) (o : Option Leg) (l : Ledger) (b : Lists) → Mirrors l.rows b
    → Mirrors (side_undone is t q o l).rows b
side_follows is t q None l b k = k
side_follows is t q (Some s) l b k = undoes is t s.order _ l b k

voids : (t : Time) (n : ℕ) (o : Option Trade) (b : Books) (e : LitBook) → Follows b e → Follows (voided t n o b) e
voids t n None b e k = k
voids t n (Some x) b e k =
    side_follows b.instruments t x.quantity x.aggressive (passive_undone b.instruments t x (ledger_of b)) (lit e)
    (side_follows b.instruments t x.quantity x.passive (ledger_of b) (lit e) k)

act_follows : (t : Time) (a : Act) (b : Books) (e e' : LitBook) → MayDo a → Asks LitDid (asked a b) e e'
    → Follows b e → Follows (enact t a b) e'
act_follows t (Open s a) b e e' may d k =
    enters b.instruments t s a (ledger_of b) (lit e) (lit e') k may
    (one_asked (Enter (length b.rows + 1) (ticket_of s a)) e e' d)
act_follows t (Alter n c) b e e' may d k = alters t n c b e e' may d k
act_follows t (Note p x) b e e' may d k = unasked b e e' d k
act_follows t (Take v) b e e' may d k =
    let did = one_asked (Next v) e e' d in taken t b (lit e) (lit e') v k (apart_in e) did.0 did.1
act_follows t (Void n) b e e' may d k =
    unasked (enact t (Void n) b) e e' d (voids t n (under b.trades n) b e k)

-- ---- acts in turn

asks_split : (xs ys : List Asked) (e e' : LitBook) → Asks LitDid (xs ++ ys) e e'
    → (m : LitBook) × Asks LitDid xs e m × Asks LitDid ys m e'
asks_split [] ys e e' d = (e, refl, d)
asks_split (x ∷ xs) ys e e' (m, did, d) = let (i, f, g) = asks_split xs ys m e' d in (i, (m, did, f), g)

pub acts_follow : (t : Time) (acts : List Act) (b : Books) (e e' : LitBook) → AllByRecursion MayDo acts
    → Asks LitDid (asked_all t acts b) e e' → Follows b e → Follows (enact_all t acts b) e'
acts_follow t [] b e e' may d k = unasked b e e' d k
acts_follow t (a ∷ acts) b e e' (one, may) d k =
    let (m, f, g) = asks_split (asked a b) (asked_all t acts (enact t a b)) e e' d in
    acts_follow t acts (enact t a b) m e' may g (act_follows t a b e m one f k)
