-- What both ends keep as steps are taken. Assumes nothing.
use Rattle.std.proofs.lemmas.Bool.{and_parts, eqb-true}
use Rattle.std.proofs.Common.{◌≡◌, ℕ, Bool, Option, true, eqb, List, [], ◌∷◌, ◌++◌, append_assoc, append-nil, refl, sym, ap, ◌∙◌, subst}
use Rattle.std.proofs.lemmas.List.{map_push}
use Rattle.both_ends.proofs.Agreeing.{agrees}
use Rattle.both_ends.proofs.Erasing.{asked_of, one_more, run_of, runs_turned}
use Rattle.both_ends.specs.Asking.{Answer, Takes, made, step_of}
use Rattle.both_ends.specs.Both.{Ends, Begins, Ran, Holds, Steps, StepsAll}
use Rattle.both_ends.specs.Runs.{Desk, Runs, fresh, venue_log}
use Rattle.both_ends.specs.declared.entry.Entry.{Entry}
use Rattle.both_ends.specs.declared.entry.Step.{Step}
use Rattle.configuration.specs.declared.instrument.Instrument.{Instrument}
use Rattle.configuration.specs.declared.participant.Participant.{Participant}
use Rattle.follower.specs.Owing.{Tied}
use Rattle.gateway.specs.Starting.{is_new, is_unused, opened}
use Rattle.gateway.specs.State.{State}
use Rattle.gateway_runs.proofs.Conserving.{conserved}
use Rattle.matching.specs.Asked.{Asked}
use Rattle.matching.specs.Meaning.{Meaning}
use Rattle.std.specs.FinMap.{len}
use Rattle.store.specs.Kept.{Kept}
use Rattle.texts.specs.declared.values.Price.{Price}
use Rattle.venue.specs.Books.{Over, fresh as fresh_books}

module _ {M Q A : Type 0} (meaning : M → Meaning) (did : M → Asked → M → Type 0) (guided : Bool)
    (learns : M → ℕ → Option Price → Bool → M → Type 0) (answer : Answer Q A) where
  abbrev pub ends : List (Entry Q A) → Over State M → Desk → Ends M Q A
  ends log x d = record { log = log; gateway = x; desk = d }

  pub begins : (x : Over State M) (ps : List Participant) (is : List Instrument) (m : M) (free : ℕ) (k : Kept)
      → x ≡ opened ps (record { state = fresh_books is (meaning m); engine = m; free = free })
      → is_new (meaning m) k ≡ true → Begins meaning x
  begins x ps is m free k e new =
      let none = eqb-true _ 0 (and_parts (eqb (len (meaning m).orders) 0) (is_unused k) new).0 in
      subst (Begins meaning) (sym e) (record { participants = ps; instruments = is; is = refl; empty = none })

  pub begun : (x : Over State M) → Begins meaning x → Ran meaning did guided learns answer (ends [] x fresh)
  begun x b = record { first = x; begins = b; goes = (refl, refl); tied = refl }

  pub more : (log : List (Entry Q A)) (x : Over State M) (d : Desk) (a : Entry Q A) (y : Over State M) (e : Desk)
      → Ran meaning did guided learns answer (ends log x d) → Takes did guided learns answer x d a y e → Tied e.token e.follower
      → Ran meaning did guided learns answer (ends (log ++ a ∷ []) y e)
  more log x d a y e r t tied = record {
    first = r.first;
    begins = r.begins;
    goes = one_more did guided learns answer r.first fresh log x d a y e r.goes t;
    tied = tied;
  }

  pub holds : (b : Ends M Q A) → Ran meaning did guided learns answer b → Holds meaning did guided learns answer b
  holds b r =
      let asked = asked_of did guided learns answer r.first fresh b.log b.gateway b.desk r.goes in
      let run = run_of did guided learns answer r.first fresh b.log b.gateway b.desk r.goes in
      record {
        first = r.first;
        begins = r.begins;
        asked = asked;
        conserves = conserved r.first.state (venue_log (made b.log)) b.gateway.state
            (ap (λ (s : State). s.venue.rows) r.begins.is)
            (runs_turned r.first.state fresh (made b.log) b.gateway.state b.desk run);
        agrees = λ c allowed.
            agrees c r.begins.participants _ (made b.log) b.gateway.state b.desk
            (subst (λ s. Runs s fresh (made b.log) b.gateway.state b.desk) r.begins.is run) allowed;
      }

module _ {M Q A : Type 0} (did : M → Asked → M → Type 0) (guided : Bool)
    (learns : M → ℕ → Option Price → Bool → M → Type 0) (answer : Answer Q A) where
  pub none_taken : (b e : Ends M Q A) → e ≡ b → StepsAll did guided learns answer [] b e
  none_taken b e h = record {
    entries = [];
    same = refl;
    log = ap (λ (x : Ends M Q A). x.log) h ∙ sym (append-nil b.log);
    goes = (ap (λ (x : Ends M Q A). x.gateway) h, ap (λ (x : Ends M Q A). x.desk) h);
  }

  pub one_taken : (steps : List (Step Q)) (b m e : Ends M Q A) (s : Step Q) → StepsAll did guided learns answer steps b m
      → Steps did guided learns answer s m e → StepsAll did guided learns answer (steps ++ s ∷ []) b e
  one_taken steps b m e s k n = let a = n.entry in record {
    entries = k.entries ++ a ∷ [];
    same = map_push step_of k.entries a
        ∙ (ap (λ t. t ++ step_of a ∷ []) k.same ∙ ap (λ y. steps ++ y ∷ []) n.same);
    log = n.log ∙ (ap (λ t. t ++ a ∷ []) k.log ∙ append_assoc b.log k.entries (a ∷ []));
    goes = one_more did guided learns answer b.gateway b.desk k.entries m.gateway m.desk a e.gateway e.desk k.goes n.takes;
  }
