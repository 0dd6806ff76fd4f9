-- The laws of a trade by any rule: its price is one that both take, and whom it passes over. Assumes nothing.
use Rattle.std.specs.Prelude.{◌≡◌, ℕ, true, false, not, List, [], ◌∷◌, ◌++◌, length, take, drop, Some, None, Option, MatchOption, nat_eq, refl}
use Rattle.std.proofs.Common.{eqb, sym, ap, ◌∙◌, subst, inl, inr, arith}
use Rattle.std.proofs.lemmas.List.{append_assoc, get_or_at, length-append, take_at, take-append-drop}
use Rattle.std.proofs.lemmas.List.Elements.{All-cons, All-nil}
use Rattle.std.proofs.lemmas.List.Sums.{take_while-cons}
use Rattle.std.proofs.lemmas.Bool.{both_ways, cases_Bool, cond-false, cond-true, eq-eqb}
use Rattle.std.specs.List.{All}
use Rattle.keyed.specs.Look.{look}
use Rattle.keyed.proofs.Looks.{passes}
use Rattle.matching.specs.declared.event.Event.{Event}
use Rattle.texts.specs.declared.values.Price.{Price}
use Rattle.order_book.specs.Laws.{Beaten, Chosen, ChosenFrom, Fair, Takes, Unbeaten, at_rest_for, before}
use Rattle.order_book.specs.Lists.{all_apart, order_held, order_in, order_number}
use Rattle.order_book.specs.Orders.{accepts}
use Rattle.order_book.specs.Pairing.{Keeps, Rule, best}
use Rattle.order_book.specs.Rules.{Lists, next_by, order_under}
use Rattle.order_book.specs.declared.order.Order.{Order}
use Rattle.order_book.proofs.Bests.{AllBeaten, Best, NoneBeats, best_some}
use Rattle.order_book.proofs.Matches.{own_place}
use Rattle.order_book.proofs.Stops.{Ends, Stop, all_same, stop}

-- ---- orders under their numbers

abbrev pub Absent : List Order → ℕ → Type 0
Absent xs n = look order_number order_held xs n ≡ None

-- numbers are apart, so nothing of its number stands before an order
pub absent_before : (xs ys : List Order) (o : Order) → all_apart (xs ++ o ∷ ys) ≡ true → Absent xs o.number
absent_before xs ys o u =
    let l = length-append xs (o ∷ ys) in
    let f = own_place (xs ++ o ∷ ys) (length xs) o u (omega arith) (sym (get_or_at xs o ys o (length xs) refl)) in
    ap (λ (k : List Order). look order_number order_held k o.number) (sym (take_at xs (o ∷ ys) (length xs) refl)) ∙ f.1

pub mid_in : (xs ys : List Order) (o : Order) → Absent xs o.number → order_in (xs ++ o ∷ ys) o.number ≡ Some o
mid_in [] ys o h = cond-true (eqb o.number o.number) _ _ (eq-eqb o.number o.number refl)
mid_in (x ∷ xs) ys o h =
    let p = passes order_number order_held x xs o.number h in
    cond-false (eqb x.number o.number) _ _ p.0 ∙ mid_in xs ys o p.1

-- where numbers are apart every order is the one under its number
pub absent_back : (xs ys : List Order) (n : ℕ) → Absent (xs ++ ys) n → Absent ys n
absent_back [] ys n h = h
absent_back (x ∷ xs) ys n h =
    absent_back xs ys n (passes order_number order_held x (xs ++ ys) n h).1

pub mid_before : (xs ys : List Order) (o : Order) → Absent xs o.number → before o.number (xs ++ o ∷ ys) ≡ xs
mid_before [] ys o h =
    take_while-cons (λ (x : Order). not (nat_eq x.number o.number)) o ys
    ∙ cond-false (not (nat_eq o.number o.number)) _ _ (ap not (eq-eqb o.number o.number refl))
mid_before (x ∷ xs) ys o h =
    let p = passes order_number order_held x xs o.number h in
    take_while-cons (λ (y : Order). not (nat_eq y.number o.number)) x (xs ++ o ∷ ys)
    ∙ cond-true (not (nat_eq x.number o.number)) _ _ (ap not p.0)
    ∙ ap (λ (l : List Order). x ∷ l) (mid_before xs ys o p.1)

-- ---- the trade that comes next: its two orders, and those at rest at that moment

pub record Met (r : Rule) (b : Lists) (a : Order) (rs : List Order) (o : Order) : Type 0 where
  pub best_is : Best r a o rs
  pub passive : order_under b o.number ≡ Some o
  pub aggressive : order_under b a.number ≡ Some a
  pub there : at_rest_for a.number b ≡ rs
  pub alone : Absent best_is.before o.number

pub met : (r : Rule) → Keeps r → (b : Lists) (s : Stop r b.resting b.waiting (next_by r b)) (rs ws : List Order) (a o : Order)
    → rs ≡ s.at_rest → a ∷ ws ≡ s.in_wait → all_apart (rs ++ a ∷ ws) ≡ true → best r a rs ≡ Some o
    → Met r b a rs o
met r k b s rs ws a o p q u f =
    let t = best_some r k a o rs f in
    let n = absent_before rs ws a u in
    let all : b.resting ++ b.waiting ≡ rs ++ a
    ∷ ws = sym (all_same r b.resting b.waiting s) ∙ ap (λ (l : List Order). l ++ s.in_wait) (sym p) ∙ ap
    (λ (l : List Order). rs ++ l) (sym q) in
    let whole : rs ++ a ∷ ws ≡ t.before ++ o ∷ (t.after ++ a ∷ ws) =
    ap (λ (l : List Order). l ++ a ∷ ws) t.split ∙ append_assoc t.before (o ∷ t.after) (a ∷ ws) in
    let m = absent_before t.before (t.after ++ a ∷ ws) o (ap all_apart (sym whole) ∙ u) in
    let came : Absent s.came a.number = absent_back b.resting s.came a.number
    (ap (λ (l : List Order). look order_number order_held l a.number) (sym s.rested ∙ sym p) ∙ n) in
    record {
      best_is = t;
      passive = ap (λ (l : List Order). order_in l o.number) (all ∙ whole)
          ∙ mid_in t.before (t.after ++ a ∷ ws) o m;
      aggressive = ap (λ (l : List Order). order_in l a.number) all ∙ mid_in rs ws a n;
      there = ap (λ (l : List Order). b.resting ++ before a.number l)
          (s.waited ∙ ap (λ (l : List Order). s.came ++ l) (sym q))
          ∙ ap (λ (l : List Order). b.resting ++ l) (mid_before s.came ws a came)
          ∙ sym s.rested ∙ sym p;
      alone = m;
    }

-- ---- the price of a trade

takes : (b : Lists) (o : Order) (z : Price) → order_under b o.number ≡ Some o → accepts o.side o.pricing z ≡ true
    → Takes b o.number z
takes b o z under h =
    subst (λ (w : Option Order). MatchOption w ⊥ (λ x. accepts x.side x.pricing z ≡ true)) (sym under) h

fair_of : (r : Rule) → Keeps r → (b : Lists) (s : Stop r b.resting b.waiting (next_by r b)) (rs ws : List Order)
    → rs ≡ s.at_rest → ws ≡ s.in_wait → all_apart (rs ++ ws) ≡ true → Ends r rs ws (next_by r b)
    → Fair b (next_by r b).0
fair_of r k b s rs [] p q u h = subst (λ (y : Event × Lists). Fair b y.0) (sym h) tt
fair_of r k b s rs (a ∷ ws) p q u (inr h) = subst (λ (y : Event × Lists). Fair b y.0) (sym h.is) tt
fair_of r k b s rs (a ∷ ws) p q u (inl h) =
    let o = h.other in
    let m = met r k b s rs ws a o p q u h.best_is in
    let f = k.faces a o m.best_is.fitting in
    subst (λ (y : Event × Lists). Fair b y.0) (sym h.is)
    (takes b o (r.price a o) m.passive f.given, takes b a (r.price a o) m.aggressive f.taken)

pub fair : (r : Rule) → Keeps r → (b : Lists) (e : Event) → all_apart (b.resting ++ b.waiting) ≡ true
    → e ≡ (next_by r b).0 → Fair b e
fair r k b e u f =
    let s = stop r b.resting b.waiting in
    subst (Fair b) (sym f)
    (fair_of r k b s s.at_rest s.in_wait refl refl (ap all_apart (all_same r b.resting b.waiting s) ∙ u) s.ends)

-- ---- whom a trade passes over

all_beaten : (r : Rule) (a o : Order) (xs : List Order) → AllBeaten r a o xs → All (Beaten r a o) xs
all_beaten r a o [] w = All-nil (Beaten r a o)
all_beaten r a o (x ∷ xs) w = All-cons (Beaten r a o) x xs w.0 (all_beaten r a o xs w.1)

none_after : (r : Rule) (a o : Order) (xs : List Order) → NoneBeats r a o xs → All (Unbeaten r a o) xs
none_after r a o [] w = All-nil (Unbeaten r a o)
none_after r a o (x ∷ xs) w = All-cons (Unbeaten r a o) x xs w.0 (none_after r a o xs w.1)

-- nothing beats itself, nor does one that is beaten beat back
one_way : (r : Rule) → Keeps r → (a o x : Order) → r.beats a o x ≡ true → r.beats a x o ≡ false
one_way r k a o x h =
    elim (cases_Bool (r.beats a x o)) [ inr f ↦ f | inl t ↦ absurd (both_ways _ (k.strict a o) (k.chain a o x o h t)) ]

none_beats : (r : Rule) → Keeps r → (a o : Order) (xs ys : List Order) → AllBeaten r a o xs → NoneBeats r a o ys
    → All (Unbeaten r a o) (xs ++ o ∷ ys)
none_beats r k a o [] ys w v =
    All-cons (Unbeaten r a o) o ys (λ t. k.strict a o) (none_after r a o ys v)
none_beats r k a o (x ∷ xs) ys w v =
    All-cons (Unbeaten r a o) x (xs ++ o ∷ ys) (λ t. one_way r k a o x (w.0 t)) (none_beats r k a o xs ys w.1 v)

chosen_from : (r : Rule) → Keeps r → (a o : Order) (rs : List Order) (t : Best r a o rs) → Absent t.before o.number
    → ChosenFrom r a o.number (r.price a o) rs
chosen_from r k a o rs t n =
    let in_line : (r.fits a o ≡ true) × (r.price a o ≡ r.price a o)
    × All (Beaten r a o) (before o.number (t.before ++ o ∷ t.after))
    × All (Unbeaten r a o) (t.before ++ o ∷ t.after) = (
      t.fitting,
      refl,
      subst (All (Beaten r a o)) (sym (mid_before t.before t.after o n)) (all_beaten r a o t.before t.earlier),
      none_beats r k a o t.before t.after t.earlier t.later,
    ) in
    subst (ChosenFrom r a o.number (r.price a o)) (sym t.split)
    (subst (λ (w : Option Order). MatchOption w ⊥
    (λ y. (r.fits a y ≡ true) × (r.price a o ≡ r.price a y)
    × All (Beaten r a y) (before o.number (t.before ++ o ∷ t.after))
    × All (Unbeaten r a y) (t.before ++ o ∷ t.after)))
    (sym (mid_in t.before t.after o n)) in_line)

chosen_of : (r : Rule) → Keeps r → (b : Lists) (s : Stop r b.resting b.waiting (next_by r b)) (rs ws : List Order)
    → rs ≡ s.at_rest → ws ≡ s.in_wait → all_apart (rs ++ ws) ≡ true → Ends r rs ws (next_by r b)
    → Chosen r b (next_by r b).0
chosen_of r k b s rs [] p q u h = subst (λ (y : Event × Lists). Chosen r b y.0) (sym h) tt
chosen_of r k b s rs (a ∷ ws) p q u (inr h) = subst (λ (y : Event × Lists). Chosen r b y.0) (sym h.is) tt
chosen_of r k b s rs (a ∷ ws) p q u (inl h) =
    let o = h.other in
    let m = met r k b s rs ws a o p q u h.best_is in
    subst (λ (y : Event × Lists). Chosen r b y.0) (sym h.is)
    (subst (λ (w : Option Order). MatchOption w ⊥
    (λ y. ChosenFrom r y o.number (r.price a o) (at_rest_for a.number b))) (sym m.aggressive)
    (subst (ChosenFrom r a o.number (r.price a o)) (sym m.there) (chosen_from r k a o rs m.best_is m.alone)))

pub chosen : (r : Rule) → Keeps r → (b : Lists) (e : Event) → all_apart (b.resting ++ b.waiting) ≡ true
    → e ≡ (next_by r b).0 → Chosen r b e
chosen r k b e u f =
    let s = stop r b.resting b.waiting in
    subst (Chosen r b) (sym f)
    (chosen_of r k b s s.at_rest s.in_wait refl refl (ap all_apart (all_same r b.resting b.waiting s) ∙ u) s.ends)

-- the numbers of the two lists of a table are apart
pub lists_apart : (xs : List Order) (k : ℕ) → all_apart xs ≡ true → all_apart (take k xs ++ drop k xs) ≡ true
lists_apart xs k u = ap all_apart (take-append-drop k xs) ∙ u
