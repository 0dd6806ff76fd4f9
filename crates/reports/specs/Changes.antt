-- What a report does to the standing of its order. Assumes nothing.
use Rattle.std.specs.Prelude.{ℕ, ◌+◌, ◌&&◌, ℤ, pos, negsuc, ◌-ℤ◌, Some, None, Option, ◌==◌, nat_le, nat_lt, if◌then◌else◌}
use Rattle.codes.specs.declared.session.Partition.{Partition}
use Rattle.codes.specs.declared.report.Status.{Status}
use Rattle.limits.specs.declared.TheConstants.{SHARES}
use Rattle.reports.specs.declared.standing.Told.{Told}
use Rattle.reports.specs.declared.standing.Standing.{Standing}
use Rattle.reports.specs.declared.standing.Effect.{Effect}
use Rattle.reports.specs.declared.standing.Effect.TheVariants.{Adds, Fills, Undoes, Tells, Nothing}
use Rattle.reports.specs.Effects.{effect_of}

-- a figure that is not negative
abbrev pub natural : ℤ → Option ℕ
natural (pos n) = Some n
natural (negsuc n) = None

abbrev pub stands : Partition → Status → ℕ → ℕ → Standing
stands p s e l = record { partition = p; status = s; executed = e; leaves = l }

-- a new order has nothing executed
abbrev pub added_as : Effect → Partition → Status → Option ℕ → Option Standing
added_as Adds p s (Some l) = Some (stands p s 0 l)
added_as e p s l = None

abbrev pub added : Partition → Told → Option Standing
added p t = added_as (effect_of t.kind) p t.status (natural t.leaves)

-- executed after a fill, which takes at least one share, and just its shares, off what is open
abbrev pub filled_to : Option ℕ → ℕ → Standing → Option ℕ
filled_to None l s = None
filled_to (Some q) l s = if nat_lt 0 q && l + q == s.leaves then Some (s.executed + q) else None

-- executed after a report that leaves so many shares open
abbrev pub executed_after : Effect → ℤ → ℕ → Standing → Option ℕ
executed_after Adds q l s = None
executed_after Fills q l s = filled_to (natural q) l s
executed_after Undoes q l s = natural (pos s.executed -ℤ q)
executed_after Tells q l s = Some s.executed
executed_after Nothing q l s = Some s.executed

-- an order's standing, if what is executed is in bounds
abbrev pub bounded : Partition → Status → ℕ → Option ℕ → Option Standing
bounded p s l None = None
bounded p s l (Some e) = if nat_le e SHARES then Some (stands p s e l) else None

abbrev pub changed_to : Told → Standing → Option ℕ → Option Standing
changed_to t s None = None
changed_to t s (Some l) = bounded s.partition t.status l (executed_after (effect_of t.kind) t.quantity l s)

-- a known order's standing after a report that fits it
abbrev pub changed : Told → Standing → Option Standing
changed t s = changed_to t s (natural t.leaves)
