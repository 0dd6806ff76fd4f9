-- Folding one report into what is known of orders. Assumes nothing.
use Rattle.std.specs.Prelude.{◌≡◌, ℕ, Some, None, Ok, Err, Option, Result, nat_lt, if◌then◌else◌}
use Rattle.std.specs.FinMap.{FinMap, empty, get, insert, len}
use Rattle.std.specs.Ordering.{nat_cmp}
use Rattle.codes.specs.declared.session.Partition.{Partition}
use Rattle.limits.specs.declared.TheConstants.{ORDERS}
use Rattle.texts.specs.declared.identifiers.OrderId.{OrderId}
use Rattle.reports.specs.declared.standing.Told.{Told}
use Rattle.reports.specs.declared.standing.Standing.{Standing}
use Rattle.reports.specs.declared.standing.Effect.{Effect}
use Rattle.reports.specs.declared.standing.Effect.TheVariants.{Adds, Fills, Undoes, Tells, Nothing}
use Rattle.reports.specs.declared.standings.FoldRefusal.{FoldRefusal}
use Rattle.reports.specs.declared.standings.FoldRefusal.TheVariants.{Unfit, Full}
use Rattle.reports.specs.Effects.{effect_of}
use Rattle.reports.specs.Changes.{added, changed}

-- what is known of each order number
abbrev pub Knowledge : Type 0
Knowledge = FinMap nat_cmp Standing

abbrev pub nothing_known : Knowledge
nothing_known = empty

-- the number of each refusal
abbrev pub fold_number : FoldRefusal → ℕ
fold_number Unfit = 53
fold_number Full = 55

abbrev pub fold_known : Knowledge → ℕ → Option Standing → Result Knowledge FoldRefusal
fold_known k n None = Err Unfit
fold_known k n (Some s) = Ok (insert k n s)

abbrev pub fold_new : Knowledge → ℕ → Option Standing → Result Knowledge FoldRefusal
fold_new k n None = Err Unfit
fold_new k n (Some s) = if nat_lt (len k) ORDERS then Ok (insert k n s) else Err Full

abbrev pub fold_order : Partition → Told → Knowledge → ℕ → Option Standing → Result Knowledge FoldRefusal
fold_order p t k n None = fold_new k n (added p t)
fold_order p t k n (Some s) = fold_known k n (changed t s)

abbrev pub fold_named : Partition → Told → Knowledge → Option OrderId → Result Knowledge FoldRefusal
fold_named p t k None = Err Unfit
fold_named p t k (Some i) = fold_order p t k i.number (get k i.number)

abbrev pub fold_by : Effect → Partition → Told → Knowledge → Result Knowledge FoldRefusal
fold_by Nothing p t k = Ok k
fold_by Adds p t k = fold_named p t k t.order
fold_by Fills p t k = fold_named p t k t.order
fold_by Undoes p t k = fold_named p t k t.order
fold_by Tells p t k = fold_named p t k t.order

-- one report of a partition; one that tells of no order changes nothing
abbrev pub fold : Partition → Option Told → Knowledge → Result Knowledge FoldRefusal
fold p None k = Ok k
fold p (Some t) k = fold_by (effect_of t.kind) p t k

-- a call that folds: a refused one changes nothing
abbrev pub Folds : Result Knowledge FoldRefusal → Knowledge → Result (Unit {0}) FoldRefusal → Knowledge → Type 0
Folds out k (Ok u) k' = out ≡ Ok k'
Folds out k (Err e) k' = (out ≡ Err e) × (k' ≡ k)
