-- What a message's contents say: values by their bytes, and what bytes hold. Assumes nothing.
use Rattle.std.proofs.Common.{◌≡◌, ◌⊎◌, ◌≢◌, ℕ, true, false, cond, eqb, List, [], ◌∷◌, map, Some, sym, inl, inr, ap, ◌∙◌}
use Rattle.std.specs.List.{find}
use Rattle.std.specs.Option.{unwrap_or}
use Rattle.std.proofs.lemmas.Bool.{ne_eqb}
use Rattle.std.proofs.lemmas.Bool.Decides.{eqb_tells}
use Rattle.codes.specs.Member.{member}
use Rattle.codes.specs.declared.lists.Codes.{Codes}
use Rattle.codes.specs.Lists.{listed, AreSound}
use Rattle.layout.specs.declared.field.Field.{Field}
use Rattle.layout.specs.Layout.{Content, Says, got, value_of}
use Rattle.layout.specs.Layout.Content.{figure}

-- a value by its byte, where the byte is listed and no other value has it
found_back : {V : Type 0} (code : V → ℕ) (values : List V) (other x : V) → member (code x) (map code values) ≡ true
    → ((y : V) → code y ≡ code x → y ≡ x) → value_of code values other (figure (code x)) ≡ x
found_back code [] other x listed one = absurd (cc)
found_back code (v ∷ vs) other x listed one =
    go (eqb_tells (code v) (code x)) (λ e. found_back code vs other x e one)
  where
    go : ((eqb (code v) (code x) ≡ true) × (code v ≡ code x)) ⊎ ((eqb (code v) (code x) ≡ false) × (code v ≢ code x))
        → (member (code x) (map code vs) ≡ true → unwrap_or (find (λ w. eqb (code w) (code x)) vs) other ≡ x)
        → unwrap_or (cond (eqb (code v) (code x)) (Some v) (find (λ w. eqb (code w) (code x)) vs)) other ≡ x
    go (inl same) later = rw same.0 (one v same.1)
    go (inr other_one) later =
        let n : eqb (code x) (code v) ≡ false = ne_eqb _ _ (λ e. other_one.1 (sym e)) in
        rw other_one.0 (later (rw n at listed))

pub value_back : {V : Type 0} {list : Codes} {code : V → ℕ} (values : List V) (other x : V) → AreSound list code
    → listed list ≡ map code values → value_of code values other (figure (code x)) ≡ x
value_back {V} {list} {code} values other x s e =
    found_back code values other x (ap (member (code x)) (sym e) ∙ s.every x) (λ y. s.one y x)

-- what bytes hold is got from them
pub all_got : (fs : List Field) (vs : List Content) (bs : List ℕ) → Says vs fs bs → map (got bs) fs ≡ vs
unfolding Says
all_got fs vs bs h = sym h
