-- Fields shown one after the other. Assumes nothing.
use Rattle.std.proofs.Common.{◌≡◌, ℕ, true, ◌⊎◌, List, [], ◌∷◌, ◌++◌, length, sym, refl, ap, ◌∙◌, inl, inr, append_assoc, append-nil, Bor}
use Rattle.std.specs.Prelude.{nat_le}
use Rattle.std.proofs.lemmas.Bool.{and_parts}
use Rattle.std.proofs.lemmas.List.{nil_from_length}
use Rattle.layout.specs.declared.field.Field.{Field}
use Rattle.layout.specs.Layout.{Content, Says, form_of, got, span, within}
use Rattle.inspector.specs.Labels.{spelt}
use Rattle.inspector.specs.Shown.{field_text, bytes_text, message_text, shown_text}
use Rattle.wire.specs.declared.kinds.Kind.{Kind}
use Rattle.wire.specs.Kinds.{table_of}

-- one field more is written, and one less is left
pub field-more : (t all bs : List ℕ) (ns rest : List (Bor (List ℕ))) (fs left : List Field) (n : Bor (List ℕ))
    (f : Field) → ns ≡ n ∷ rest → fs ≡ f ∷ left
    → t ++ bytes_text (spelt ns) fs bs ≡ all → (t ++ field_text n.now (form_of f) (got bs f))
    ++ bytes_text (spelt rest) left bs ≡ all
field-more t all bs ns rest fs left n f e g inv =
    append_assoc t (field_text n.now (form_of f) (got bs f)) (bytes_text (spelt rest) left bs)
    ∙ ap (λ us. t ++ bytes_text (spelt (n ∷ rest)) us bs) (sym g)
    ∙ ap (λ ms. t ++ bytes_text (spelt ms) fs bs) (sym e)
    ∙ inv

no_fields : (ns : List (List ℕ)) (bs : List ℕ) → bytes_text ns [] bs ≡ []
no_fields [] bs = refl
no_fields (n ∷ ns) bs = refl

ended : (t all left : List ℕ) → left ≡ [] → t ++ left ≡ all → t ≡ all
ended t all left e inv = sym (append-nil t) ∙ ap (λ x. t ++ x) (sym e) ∙ inv

-- either side has ended
pub fields-done : {X Y : Type 0} {P : X → Type 0} {Q : Y → Type 0} (t all bs : List ℕ) (ns : List (Bor (List ℕ)))
    (fs : List Field)
    → ((x : X) × ((length ns ≡ 0) × P x)) ⊎ ((y : Y) × ((length fs ≡ 0) × Q y)) → t ++ bytes_text (spelt ns) fs bs
    ≡ all → t ≡ all
fields-done t all bs ns fs (inl h) inv =
    ended t all _ (ap (λ ms. bytes_text (spelt ms) fs bs) (nil_from_length ns h.1.0)) inv
fields-done t all bs ns fs (inr h) inv =
    ended t all _ (ap (λ us. bytes_text (spelt ns) us bs) (nil_from_length fs h.1.0) ∙ no_fields (spelt ns) bs) inv

-- the first of the fields left is within, and so are the others
pub within_rest : (n : ℕ) (fs left : List Field) (f : Field) → fs ≡ f ∷ left → within n fs ≡ true → within n left ≡ true
within_rest n fs left f e h = (and_parts (nat_le (span f) n) (within n left) (ap (within n) (sym e) ∙ h)).1

-- what the fields hold is what stands in the bytes
pub says_shown : (k : Kind) (vs : List Content) (bs : List ℕ) → Says vs (table_of k) bs → shown_text k bs
    ≡ message_text k vs
unfolding Says
says_shown k vs bs h = ap (message_text k) (sym h)
