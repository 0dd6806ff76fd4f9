-- The laws of the fold. Assumes nothing.
use Rattle.std.proofs.Common.{◌≡◌, ℕ, ◌+◌, ◌<◌, ◌≤◌, ◌⊎◌, Bool, true, false, cond, ◌&&◌, eqb, ltb, leb, Some, None, Ok, Err, Option, Result, inl, inr, sym, refl, ap, ◌∙◌, arith}
use Rattle.std.specs.FinMap.{get, insert, len, contains_key, len-insert}
use Rattle.std.specs.Cmp.{nat_cmp_total}
use Rattle.std.proofs.lemmas.Bool.{and_parts, ltb-true, eqb-true, leb-true}
use Rattle.codes.specs.declared.session.Partition.{Partition}
use Rattle.codes.specs.declared.report.Status.{Status}
use Rattle.keyed.proofs.Keyed.{put-apart}
use Rattle.limits.specs.declared.TheConstants.{ORDERS, SHARES}
use Rattle.texts.specs.declared.identifiers.OrderId.{OrderId}
use Rattle.reports.specs.declared.standing.Told.{Told}
use Rattle.reports.specs.declared.standing.Standing.{Standing}
use Rattle.reports.specs.declared.standing.Effect.{Effect}
use Rattle.reports.specs.declared.standing.Effect.TheVariants.{Adds, Fills, Undoes, Tells, Nothing}
use Rattle.reports.specs.declared.standings.FoldRefusal.{FoldRefusal}
use Rattle.reports.specs.declared.standings.FoldRefusal.TheVariants.{Unfit, Full}
use Rattle.reports.specs.Effects.{effect_of}
use Rattle.reports.specs.Changes.{natural, stands, added, filled_to, executed_after, bounded, changed_to, changed}
use Rattle.reports.specs.Fold.{Knowledge, fold_known, fold_new, fold_order, fold_named, fold_by}
use Rattle.reports.specs.FoldLaws.{FoldLaws}

never : {A : Type 0} (e : FoldRefusal) (k : Knowledge) → ◌≡◌ {A = Result Knowledge FoldRefusal} (Err e) (Ok k) → A
never e k h = absurd (let z : ◌≡◌ {A = ℕ} 0 1 = cc in let no : ⊥ = omega arith in no)

nothing : {A : Type 0} (s : Standing) → ◌≡◌ {A = Option Standing} None (Some s) → A
nothing s h = absurd (let z : ◌≡◌ {A = ℕ} 0 1 = cc in let no : ⊥ = omega arith in no)

-- what a fold that is not refused makes: nothing, or a standing under the number of the report's order
abbrev Made : Told → Knowledge → Knowledge → Type 0
Made t k k' = (k' ≡ k) ⊎ ((i : OrderId) × (s : Standing) × (t.order ≡ Some i) × (k' ≡ insert k i.number s))

abbrev Written : ℕ → Knowledge → Knowledge → Type 0
Written n k k' = (s : Standing) × (k' ≡ insert k n s)

known-made : (k : Knowledge) (n : ℕ) (r : Option Standing) (k' : Knowledge) → fold_known k n r ≡ Ok k' → Written n k k'
known-made k n None k' h = never Unfit k' h
known-made k n (Some s) k' h = (s, cc)

room-made : (b : Bool) (k : Knowledge) (n : ℕ) (s : Standing) (k' : Knowledge) → cond b (Ok (insert k n s)) (Err Full)
    ≡ Ok k' → Written n k k'
room-made true k n s k' h = (s, cc)
room-made false k n s k' h = never Full k' h

new-made : (k : Knowledge) (n : ℕ) (r : Option Standing) (k' : Knowledge) → fold_new k n r ≡ Ok k' → Written n k k'
new-made k n None k' h = never Unfit k' h
new-made k n (Some s) k' h = room-made (ltb (len k) ORDERS) k n s k' h

order-made : (p : Partition) (t : Told) (k : Knowledge) (n : ℕ) (s : Option Standing) (k' : Knowledge)
    → fold_order p t k n s ≡ Ok k' → Written n k k'
order-made p t k n None k' h = new-made k n (added p t) k' h
order-made p t k n (Some s) k' h = known-made k n (changed t s) k' h

named-made : (p : Partition) (t : Told) (k : Knowledge) (o : Option OrderId) (k' : Knowledge) → o ≡ t.order
    → fold_named p t k o ≡ Ok k' → Made t k k'
named-made p t k None k' e h = never Unfit k' h
named-made p t k (Some i) k' e h = let w = order-made p t k i.number (get k i.number) k' h in inr (i, w.0, sym e, w.1)

by-made : (e : Effect) (p : Partition) (t : Told) (k k' : Knowledge) → fold_by e p t k ≡ Ok k' → Made t k k'
by-made Nothing p t k k' h = inl cc
by-made Adds p t k k' h = named-made p t k t.order k' refl h
by-made Fills p t k k' h = named-made p t k t.order k' refl h
by-made Undoes p t k k' h = named-made p t k t.order k' refl h
by-made Tells p t k k' h = named-made p t k t.order k' refl h

others-stay : (t : Told) (k k' : Knowledge) (n : ℕ) → Made t k k'
    → ((i : OrderId) → t.order ≡ Some i → i.number ≡ n → ⊥) → get k' n ≡ get k n
others-stay t k k' n (inl e) ne = ap (λ m. get m n) e
others-stay t k k' n (inr (i, s, named, e)) ne =
    ap (λ m. get m n) e ∙ put-apart k i.number (Some s) n (λ q. ne i named (sym q))

counted : (t : Told) (k k' : Knowledge) → Made t k k' → (len k ≤ len k') × (len k' ≤ len k + 1)
counted t k k' (inl e) = let c = ap len e in (omega arith, omega arith)
counted t k k' (inr (i, s, named, e)) =
    by-test (contains_key k i.number) (ap len e ∙ len-insert nat_cmp_total k i.number s)
  where
    by-test : (b : Bool) → len k' ≡ cond b (len k) (len k + 1) → (len k ≤ len k') × (len k' ≤ len k + 1)
    by-test true c = (omega arith, omega arith)
    by-test false c = (omega arith, omega arith)

-- a known order's figures
abbrev Moved : Standing → Standing → Type 0
Moved s s' = (s'.executed + s'.leaves ≡ s.executed + s.leaves) × (s'.leaves < s.leaves)

limit-moved : (b : Bool) (p : Partition) (st : Status) (l q : ℕ) (s s' : Standing) → 0 < q → l + q ≡ s.leaves
    → cond b (Some (stands p st (s.executed + q) l)) None ≡ Some s' → Moved s s'
limit-moved true p st l q s s' some took h =
    let e : s' ≡ stands p st (s.executed + q) l = cc in
    let x = ap (λ (u : Standing). u.executed) e in
    let y = ap (λ (u : Standing). u.leaves) e in
    (omega arith, omega arith)
limit-moved false p st l q s s' some took h = nothing s' h

fits_moved : (b : Bool) (p : Partition) (st : Status) (l q : ℕ) (s s' : Standing) → (ltb 0 q && eqb (l + q) s.leaves)
    ≡ b → bounded p st l (cond b (Some (s.executed + q)) None) ≡ Some s' → Moved s s'
fits_moved true p st l q s s' e h =
    let parts = and_parts (ltb 0 q) (eqb (l + q) s.leaves) e in
    limit-moved (leb (s.executed + q) SHARES) p st l q s s' (ltb-true 0 q parts.0) (eqb-true (l + q) s.leaves parts.1) h
fits_moved false p st l q s s' e h = nothing s' h

quantity-moved : (o : Option ℕ) (p : Partition) (st : Status) (l : ℕ) (s s' : Standing)
    → bounded p st l (filled_to o l s) ≡ Some s' → Moved s s'
quantity-moved None p st l s s' h = nothing s' h
quantity-moved (Some q) p st l s s' h = fits_moved (ltb 0 q && eqb (l + q) s.leaves) p st l q s s' refl h

leaves-moved : (o : Option ℕ) (t : Told) (s s' : Standing) → effect_of t.kind ≡ Fills → changed_to t s o ≡ Some s'
    → Moved s s'
leaves-moved None t s s' e h = nothing s' h
leaves-moved (Some l) t s s' e h =
    quantity-moved (natural t.quantity) s.partition t.status l s s'
    (ap (λ f. bounded s.partition t.status l (executed_after f t.quantity l s)) (sym e) ∙ h)

limit-bound : (b : Bool) (p : Partition) (st : Status) (l x : ℕ) (s' : Standing) → leb x SHARES ≡ b
    → cond b (Some (stands p st x l)) None ≡ Some s' → s'.executed ≤ SHARES
limit-bound true p st l x s' e h =
    let same : s' ≡ stands p st x l = cc in
    let y = ap (λ (u : Standing). u.executed) same in
    let z = leb-true x SHARES e in
    omega arith
limit-bound false p st l x s' e h = nothing s' h

bounded-bound : (o : Option ℕ) (p : Partition) (st : Status) (l : ℕ) (s' : Standing) → bounded p st l o ≡ Some s'
    → s'.executed ≤ SHARES
bounded-bound None p st l s' h = nothing s' h
bounded-bound (Some x) p st l s' h = limit-bound (leb x SHARES) p st l x s' refl h

leaves-bound : (o : Option ℕ) (t : Told) (s s' : Standing) → changed_to t s o ≡ Some s' → s'.executed ≤ SHARES
leaves-bound None t s s' h = nothing s' h
leaves-bound (Some l) t s s' h =
    bounded-bound (executed_after (effect_of t.kind) t.quantity l s) s.partition t.status l s' h

pub fold-laws : FoldLaws
fold-laws p t k = record {
  rejected = λ e. ap (λ x. fold_by (effect_of x) p t k) e;
  others = λ k' n h ne. others-stay t k k' n (by-made (effect_of t.kind) p t k k' h) ne;
  count = λ k' h. counted t k k' (by-made (effect_of t.kind) p t k k' h);
  fill = λ s s' e h. leaves-moved (natural t.leaves) t s s' (ap effect_of e) h;
  bound = λ s s' h. leaves-bound (natural t.leaves) t s s' h;
}
