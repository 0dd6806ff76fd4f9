-- Tables of fields, gone through from the front. Assumes nothing.
use Rattle.std.proofs.Common.{◌&&◌, ◌≡◌, ℕ, ◌+◌, ◌<◌, ◌≤◌, Bool, true, false, cond, leb, not, List, [], ◌∷◌, length, get_or, drop, is_none, Some, None, Option, sym, refl, ◌∙◌, add-one, arith, drop-cons}
use Rattle.std.proofs.lemmas.List.{drop_all}
use Rattle.std.specs.Option.{option_map}
use Rattle.layout.specs.declared.field.Field.{Field}
use Rattle.std.proofs.lemmas.Bool.{and_parts}
use Rattle.layout.specs.Layout.{first_bad, within, ok, place, span, AllOk, asks, good_from, all_good, OneLook, form_of, ok_form}
use Rattle.layout.specs.declared.field.Form.{Form}
use Rattle.layout.specs.declared.field.Field.TheVariants.{Always, When}

first_bad-cons : (b : Bool) (r : Option Field) (f : Field) → option_map place (cond (not b) (Some f) r)
    ≡ cond b (option_map place r) (Some (place f))
first_bad-cons true r f = refl
first_bad-cons false r f = refl

pub first_bad-drop : (fs : List Field) (bs : List ℕ) (i : ℕ) (d : Field) → i < length fs → first_bad (drop i fs) bs
    ≡ cond (ok bs (get_or fs i d)) (first_bad (drop (i + 1) fs) bs) (Some (place (get_or fs i d)))
unfolding first_bad
first_bad-drop fs bs i d h = rw (add-one, drop-cons fs i d h) (first_bad-cons (ok bs (get_or fs i d)) _ _)

pub within-drop : (fs : List Field) (n i : ℕ) (d : Field) → i < length fs → within n (drop i fs)
    ≡ (leb (span (get_or fs i d)) n && within n (drop (i + 1) fs))
within-drop fs n i d h = rw (add-one, drop-cons fs i d h)

pub first_bad-end : (fs : List Field) (bs : List ℕ) (i : ℕ) → length fs ≤ i → first_bad (drop i fs) bs ≡ None
unfolding first_bad
first_bad-end fs bs i h = rw (drop_all i fs h)

all_ok-more : (b : Bool) (r : Option Field) (f : Field) → option_map place (cond (not b) (Some f) r) ≡ None
    → (b ≡ true) × (option_map place r ≡ None)
all_ok-more true r f e = (refl, e)
all_ok-more false r f e = let z : ◌≡◌ {A = ℕ} 0 1 = cc in absurd (omega arith)

pub all_ok : (fs : List Field) (bs : List ℕ) → first_bad fs bs ≡ None → AllOk fs bs
unfolding first_bad
all_ok [] bs e = tt
all_ok (f ∷ fs) bs e = let p = all_ok-more (ok bs f) _ f e in (p.0, all_ok fs bs p.1)

-- a form that asks nothing takes all bytes
unasked_form : (f : Form) (bs : List ℕ) → asks f ≡ false → ok_form f bs ≡ true
unasked_form f bs h = grind arith

unasked : (bs : List ℕ) (f : Field) → asks (form_of f) ≡ false → ok bs f ≡ true
unasked bs (Always at f) h = unasked_form f _ h
unasked bs (When at f other cs) h = if_true _ (ok_form f _) (unasked_form f _ h)
  where
    if_true : (b k : Bool) → k ≡ true → cond b k true ≡ true
    if_true true k e = e
    if_true false k e = refl

-- a table that is taken as a whole has no field that is refused
so_far : (a b k : Bool) → (a ≡ false → k ≡ true) → cond a (b && k) b ≡ true → (b ≡ true) × (k ≡ true)
so_far true b k u h = and_parts b k h
so_far false b k u h = (h, u refl)

none_bad : (b : Bool) (fs : List Field) (bs : List ℕ) → good_from b fs bs ≡ true → (b ≡ true) × (first_bad fs bs ≡ None)
unfolding first_bad
none_bad b [] bs h = (h, refl)
none_bad b (f ∷ fs) bs h =
    let p = none_bad (cond (asks (form_of f)) (b && ok bs f) b) fs bs h in
    let q = so_far (asks (form_of f)) b (ok bs f) (unasked bs f) p.0 in (q.0, rw q.1 p.1)

pub good_passes : (fs : List Field) (bs : List ℕ) → all_good fs bs ≡ true → (first_bad fs bs ≡ None) × AllOk fs bs
unfolding all_good
good_passes fs bs h = let n = (none_bad true fs bs h).1 in (n, all_ok fs bs n)

-- and one that has none is taken as a whole
goes_on : (a b k : Bool) → b ≡ true → k ≡ true → cond a (b && k) b ≡ true
goes_on true b k p q = rw (p, q)
goes_on false b k p q = p

ok_all : (b : Bool) (fs : List Field) (bs : List ℕ) → b ≡ true → AllOk fs bs → good_from b fs bs ≡ true
ok_all b [] bs p h = p
ok_all b (f ∷ fs) bs p h = ok_all (cond (asks (form_of f)) (b && ok bs f) b) fs bs (goes_on (asks (form_of f)) b (ok bs f) p h.0) h.1

passes_good : (fs : List Field) (bs : List ℕ) → AllOk fs bs → all_good fs bs ≡ true
unfolding all_good
passes_good fs bs h = ok_all true fs bs refl h

pub one_look : OneLook
one_look fs bs = go (all_good fs bs) (first_bad fs bs) refl refl
  where
    go : (b : Bool) (o : Option ℕ) → all_good fs bs ≡ b → first_bad fs bs ≡ o → b ≡ is_none o
    go true None g e = refl
    go false (Some n) g e = refl
    go true (Some n) g e = let z : ◌≡◌ {A = Option ℕ} (Some n) None = sym e ∙ (good_passes fs bs g).0 in absurd (cc)
    go false None g e = let z : false ≡ true = sym g ∙ passes_good fs bs (all_ok fs bs e) in absurd (cc)
