-- Folding a list of reports, one further. Assumes nothing.
use Rattle.std.proofs.Common.{◌≡◌, ℕ, suc, ◌+◌, ◌≤◌, ◌<◌, ◌⊎◌, inl, inr, get_or, List, [], ◌∷◌, length, drop, Some, None, Ok, Err, Option, Result, refl, sym, ap, ◌∙◌, add-one, arith}
use Rattle.std.proofs.Math.Seq.{drop-cons}
use Rattle.std.proofs.Math.ListN.{drop_of_length-le}
use Rattle.std.proofs.lemmas.Option.{slice_get_within, get_or_from_slice_get, slice_get_cases}
use Rattle.std.specs.List.{fold as fold_each, slice_get}
use Rattle.codes.specs.declared.session.Partition.{Partition}
use Rattle.reports.specs.declared.standings.FoldRefusal.{FoldRefusal}
use Rattle.follower.specs.declared.heard.NumberedReport.{NumberedReport}
use Rattle.follower.specs.Folding.{Reached, caught_at, caught_next, caught_up}

-- behind a report that is refused nothing is folded
stuck : (p : Partition) (e : FoldRefusal) (hs : List NumberedReport) → fold_each (caught_next p) (Err e) hs ≡ Err e
stuck p e [] = refl
stuck p e (h ∷ hs) = stuck p e hs

drop_at : (hs : List NumberedReport) (i : ℕ) (h : NumberedReport) → slice_get hs i ≡ Some h → drop i hs ≡ h ∷ drop (i + 1) hs
drop_at hs i h e =
    drop-cons hs i h (slice_get_within hs i h e)
    ∙ ap (λ x. x ∷ drop (suc i) hs) (get_or_from_slice_get hs i h h e)
    ∙ ap (λ n. h ∷ drop n hs) (sym (add-one i))

past : (hs : List NumberedReport) (i : ℕ) → length hs ≤ i → drop i hs ≡ []
past hs i e = drop_of_length-le hs e

missing : (hs : List NumberedReport) (i : ℕ) → slice_get hs i ≡ None
    → ((h : NumberedReport) × (i < length hs) × (slice_get hs i ≡ Some h) × (get_or hs i h ≡ h))
    ⊎ ((length hs ≤ i) × (slice_get hs i ≡ None)) → length hs ≤ i
missing hs i g (inl x) = absurd cc
missing hs i g (inr x) = x.0

-- the list begins at its first report, and ends behind its last
pub begins : (p : Partition) (hs : List NumberedReport) (r : Reached) → caught_up p r (drop 0 hs) ≡ caught_up p r hs
begins p hs r = refl

pub ends : (p : Partition) (hs : List NumberedReport) (i : ℕ) (r : Reached) (z : Result Reached FoldRefusal) → length hs ≤ i
    → caught_up p r (drop i hs) ≡ z → z ≡ Ok r
ends p hs i r z e h = sym h ∙ ap (caught_up p r) (past hs i e)

-- one report further
pub folds : (p : Partition) (hs : List NumberedReport) (i : ℕ) (o : Option NumberedReport) (r s : Reached) (z : Result Reached FoldRefusal)
    → o ≡ slice_get hs i → caught_at p r o ≡ Ok s → caught_up p r (drop i hs) ≡ z → caught_up p s (drop (i + 1) hs) ≡ z
folds p hs i (Some h) r s z g f e =
    ap (λ x. fold_each (caught_next p) x (drop (i + 1) hs)) (sym f) ∙ ap (caught_up p r)
    (sym (drop_at hs i h (sym g))) ∙ e
folds p hs i None r s z g f e =
    let short = missing hs i (sym g) (slice_get_cases hs i).1 in
    ap (λ x. fold_each (caught_next p) x (drop (i + 1) hs)) (sym f) ∙ ap (caught_up p r)
    (past hs (i + 1) (omega (arith, short)) ∙ sym (past hs i short)) ∙ e

-- the first report that is refused
pub fails : (p : Partition) (hs : List NumberedReport) (i : ℕ) (o : Option NumberedReport) (r : Reached) (x : FoldRefusal)
    (z : Result Reached FoldRefusal) → o ≡ slice_get hs i → caught_at p r o ≡ Err x → caught_up p r (drop i hs) ≡ z → z
    ≡ Err x
fails p hs i (Some h) r x z g f e =
    sym e ∙ ap (caught_up p r) (drop_at hs i h (sym g)) ∙ ap
    (λ y. fold_each (caught_next p) y (drop (i + 1) hs)) f ∙ stuck p x (drop (i + 1) hs)
fails p hs i None r x z g f e = cc
