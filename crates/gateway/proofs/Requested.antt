-- What a request for orders gets, as the gateway's answer. Assumes nothing.
use Rattle.std.proofs.Common.{◌≡◌, None, Ok, Err, Result, refl, sym, ap, ◌∙◌, subst, arith}
use Rattle.std.specs.Result.{result_err}
use Rattle.keyed.proofs.Under.{none-some}
use Rattle.answers.specs.declared.answer.Answer.{Answer}
use Rattle.answers.specs.declared.answer.Answer.TheVariants.{Silent}
use Rattle.gateway.specs.Hearing.{Took, answer_for, requested_as}
use Rattle.gateway.specs.State.{State, venue_of, with_venue}
use Rattle.matching.specs.Asked.{Asked, Asks}
use Rattle.requests.specs.Deciding.{Decision, Does}
use Rattle.refusals.specs.declared.Turned.{Turned}
use Rattle.texts.specs.declared.values.Time.{Time}
use Rattle.venue.specs.Acts.{all_told, asked_all}
use Rattle.venue.specs.Books.{Books, Over}
use Rattle.venue.specs.Ledger.{Uses}
use Rattle.wire.specs.declared.message.Message.{Message}

silent : (m : Message) (done : Result (Unit {0}) Turned) → result_err done ≡ None → answer_for m done ≡ Silent
silent m (Ok u) e = refl
silent m (Err t) e = none-some t (sym e)

-- a gateway with another venue
abbrev pub put : {M : Type 0} → Over State M → Over Books M → Over State M
put x v = record { state = with_venue x.state v.state; engine = v.engine; free = v.free }

pub obeyed : {M : Type 0} (did : M → Asked → M → Type 0) (t : Time) (o : Decision) (m : Message) (x y : Over State M)
    (v : Over Books M) (done : Result (Unit {0}) Turned) (a : Answer)
    → Does did t o (venue_of x) done v
    → y ≡ put x v
    → a ≡ answer_for m done → Took did t (requested_as m x.state o) x a y
obeyed {M} did t (Err e) m x y v done a (is, stays) new answer =
    let same : y ≡ x = new ∙ ap (put x) stays in
    let free : y.free ≡ x.free = ap (λ (z : Over State M). z.free) same in (
      answer ∙ ap (answer_for m) is,
      record {
        state = ap (λ (z : Over State M). z.state) same;
        asked = ap (λ (z : Over State M). z.engine) same;
        places = (omega arith, omega arith);
      },
    )
obeyed {M} did t (Ok acts) m x y v done a (is, acted) new answer = (
  answer ∙ silent m done is,
  record {
    state = ap (λ (z : Over State M). z.state) new ∙ ap (with_venue x.state) acted.books;
    asked = subst (λ (z : Over State M). Asks did (asked_all t acts x.state.venue) x.engine z.engine) (sym new) acted.asked;
    places = subst (λ (z : Over State M). Uses (all_told acts) x.free z.free) (sym new) acted.places;
  },
)
