-- No call brings two to rest that cross. Assumes nothing.
use Rattle.std.specs.Prelude.{◌≡◌, ℕ, Bool, true, false, is_ok, List, [], ◌∷◌, ◌++◌, Some, None, Ok, Err, Option, OnErr, OnOk, Result}
use Rattle.std.proofs.Common.{sym, ap, ◌∙◌, subst, inl, inr}
use Rattle.std.proofs.lemmas.Bool.{cases_Bool, cond-true, cond-false}
use Rattle.matching.specs.declared.event.Event.{Event}
use Rattle.matching.specs.declared.matcher.Refusal.{Refusal}
use Rattle.texts.specs.declared.values.Price.{Price}
use Rattle.order_book.specs.Orders.{goes_back}
use Rattle.order_book.specs.Rules.{Lists, altered, amended, entered, order_under}
use Rattle.order_book.specs.declared.order.Order.{Order}
use Rattle.order_book.proofs.Bests.{best_none}
use Rattle.order_book.proofs.Stops.{Ends, Kept, stop}
use Rattle.lit_book.specs.Keeping.{lit_keeps}
use Rattle.lit_book.specs.Lists.{settled}
use Rattle.lit_book.specs.Rules.{lit_rule, next}
use Rattle.lit_book.proofs.Settles.{settled_changed, settled_push}

abbrev Quiet : Lists → Type 0
Quiet b = settled b.resting ≡ true

-- ---- a call that opens, ends or amends an order

pub enter_settled : (r : Result (Unit {0}) Refusal) (b e : Lists) (o : Order) → Quiet b
    → OnOk r (e ≡ entered b o) → OnErr r (e ≡ b) → Quiet e
enter_settled (Ok u) b e o q f g = ap (λ (x : Lists). settled x.resting) f ∙ q
enter_settled (Err w) b e o q f g = ap (λ (x : Lists). settled x.resting) g ∙ q

pub cancel_settled : (r : Result (Unit {0}) Refusal) (b e : Lists) (n : ℕ) → Quiet b
    → OnOk r (e ≡ altered b n None) → OnErr r (e ≡ b) → Quiet e
cancel_settled (Ok u) b e n q f g = ap (λ (x : Lists). settled x.resting) f ∙ settled_changed n None b.resting q
cancel_settled (Err w) b e n q f g = ap (λ (x : Lists). settled x.resting) g ∙ q

settled_amended : (b : Lists) (w : Option Order) (n : ℕ) (p : Price) → Quiet b → Quiet (amended b w n p)
settled_amended b None n p q = q
settled_amended b (Some o) n p q =
    elim (cases_Bool (goes_back o n p)) [
      | inl t ↦ ap (λ (x : Lists). settled x.resting) (cond-true (goes_back o n p) _ _ t)
          ∙ settled_changed o.number None b.resting q
      | inr f ↦ ap (λ (x : Lists). settled x.resting) (cond-false (goes_back o n p) _ _ f)
          ∙ settled_changed o.number (Some n) b.resting q
    ]

pub amend_settled : (r : Result (Unit {0}) Refusal) (b e : Lists) (m n : ℕ) (p : Price) → Quiet b
    → OnOk r (e ≡ amended b (order_under b m) n p) → OnErr r (e ≡ b) → Quiet e
amend_settled (Ok u) b e m n p q f g =
    ap (λ (x : Lists). settled x.resting) f ∙ settled_amended b (order_under b m) n p q
amend_settled (Err w) b e m n p q f g = ap (λ (x : Lists). settled x.resting) g ∙ q

-- ---- events

-- one more comes to rest where there is none for it
pub settled_kept : Kept lit_rule settled
settled_kept a xs e r s = settled_push a xs s r (best_none lit_rule lit_keeps a xs e)

settled_of : (rs ws : List Order) (x : Event × Lists) → settled rs ≡ true → Ends lit_rule rs ws x → Quiet x.1
settled_of rs [] x q h = ap (λ (y : Event × Lists). settled y.1.resting) h ∙ q
settled_of rs (a ∷ ws) x q (inl h) =
    ap (λ (y : Event × Lists). settled y.1.resting) h.is
    ∙ settled_changed a.number _ _ (settled_changed h.other.number _ rs q)
settled_of rs (a ∷ ws) x q (inr h) =
    ap (λ (y : Event × Lists). settled y.1.resting) h.is ∙ settled_changed a.number None rs q

pub settled_next : (b : Lists) → Quiet b → Quiet (next b).1
settled_next b q =
    let s = stop lit_rule b.resting b.waiting in
    settled_of s.at_rest s.in_wait (next b) (s.keeps settled settled_kept q) s.ends

pub next_settled : (b e : Lists) → Quiet b → e ≡ (next b).1 → Quiet e
next_settled b e q f = ap (λ (x : Lists). settled x.resting) f ∙ settled_next b q
