-- Acts after acts. Assumes nothing.
use Rattle.std.proofs.Common.{◌≡◌, ◌+◌, List, [], ◌∷◌, ◌++◌, refl, sym, ap, ◌∙◌, subst, append_assoc, arith}
use Rattle.matching.proofs.Chains.{asks-append}
use Rattle.matching.specs.Asked.{Asked, Asks}
use Rattle.texts.specs.declared.values.Time.{Time}
use Rattle.venue.specs.Acts.{Act, all_told, asked, asked_all, enact, enact_all}
use Rattle.venue.specs.Books.{Books, Over}
use Rattle.venue.specs.Enacting.{Enacts}

pub enact_append : (t : Time) (xs ys : List Act) (b : Books)
    → enact_all t (xs ++ ys) b ≡ enact_all t ys (enact_all t xs b)
enact_append t [] ys b = refl
enact_append t (x ∷ xs) ys b = enact_append t xs ys (enact t x b)

pub asked_append : (t : Time) (xs ys : List Act) (b : Books)
    → asked_all t (xs ++ ys) b ≡ asked_all t xs b ++ asked_all t ys (enact_all t xs b)
asked_append t [] ys b = refl
asked_append t (x ∷ xs) ys b =
    ap (λ qs. asked x b ++ qs) (asked_append t xs ys (enact t x b)) ∙ sym (append_assoc (asked x b) _ _)

pub told_append : (xs ys : List Act) → all_told (xs ++ ys) ≡ all_told xs + all_told ys
told_append [] ys = omega arith
told_append (x ∷ xs) ys = let h = told_append xs ys in omega arith

module _ {M : Type 0} {did : M → Asked → M → Type 0} (t : Time) where
  pub enacts_none : (x : Over Books M) → Enacts did t [] x x
  enacts_none x = record { books = refl; asked = refl; places = (omega arith, omega arith) }

  pub enacts_append : (xs ys : List Act) (x y z : Over Books M) → Enacts did t xs x y → Enacts did t ys y z
      → Enacts did t (xs ++ ys) x z
  enacts_append xs ys x y z f g = record {
    books = g.books ∙ ap (enact_all t ys) f.books ∙ sym (enact_append t xs ys x.state);
    asked =
        let then = subst (λ b. Asks did (asked_all t ys b) y.engine z.engine) f.books g.asked in
        subst (λ qs. Asks did qs x.engine z.engine) (sym (asked_append t xs ys x.state))
        (asks-append did _ _ x.engine y.engine z.engine f.asked then);
    places =
        let told = told_append xs ys in
        let a = f.places in
        let b = g.places in
        (omega arith, omega arith);
  }
