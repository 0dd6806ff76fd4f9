-- What can happen to an order, and the order after it. Assumes nothing.
use Rattle.std.specs.Prelude.{ℕ, Bool, Some, None, Option, is_none, if◌then◌else◌}
use Rattle.orders.specs.declared.row.Row.{Row}
use Rattle.orders.specs.Rows.{is_open, orderable, accepted, replaced, ended, filled, undone}
use Rattle.orders.specs.Orders.{fillable, undoable, replace_fault}
use Rattle.changes.specs.declared.change.Change.{Change}
use Rattle.changes.specs.declared.change.Change.TheVariants.{Accept, Replace, Withdraw, Fill, Undo}

-- a row, where a change may be made
abbrev pub where_allowed : Bool → Row → Option Row
where_allowed allowed r = if allowed then Some r else None

-- the order of a number after a change; none where the change may not be made
abbrev pub after : ℕ → Change → Option Row → Option Row
after n (Accept t a) None = where_allowed (orderable a.quantity) (accepted n t a)
after n (Accept t a) (Some r) = None
after n (Replace a) None = None
after n (Replace a) (Some r) = where_allowed (is_none (replace_fault a.quantity r)) (replaced a r)
after n (Withdraw e c) None = None
after n (Withdraw e c) (Some r) = where_allowed (is_open r) (ended e r)
after n (Fill f) None = None
after n (Fill f) (Some r) = where_allowed (fillable f.quantity r) (filled f.quantity r)
after n (Undo u) None = None
after n (Undo u) (Some r) = where_allowed (undoable u.quantity r) (undone u.quantity r)
