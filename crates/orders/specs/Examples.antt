-- Worked examples on the definitions. Assumes nothing.
use Rattle.std.specs.Prelude.{◌≡◌, ℕ, pos, None}
use Rattle.codes.specs.declared.report.Status.TheVariants as status
use Rattle.orders.specs.declared.row.Row.{Row}
use Rattle.orders.specs.declared.row.Terms.{Terms}
use Rattle.orders.specs.declared.row.Ask.{Ask}
use Rattle.orders.specs.declared.row.Ending.TheVariants.{Cancelled, Expired}
use Rattle.orders.specs.Rows.{accepted, replaced, ended, filled, undone, status_of}
use Rattle.orders.specs.Orders.{replace_fault}

-- the same request for another quantity
abbrev pub for : ℕ → Ask → Ask
for q a = record { client = a.client; price = a.price; display = pos q; quantity = q }

-- an order of 100 that has 40 executed
abbrev pub part_filled : Terms → Ask → Row
part_filled t a = filled 40 (accepted 1 t (for 100 a))

-- cancelled, and then its fill undone
abbrev pub taken_back : Terms → Ask → Row
taken_back t a = undone 40 (ended Cancelled (part_filled t a))

-- that order replaced by another quantity
abbrev pub replaced_by : ℕ → Terms → Ask → Row
replaced_by q t a = replaced (for q a) (part_filled t a)

-- by one that leaves it filled; its fill undone then opens nothing
pub record Lowered (q : ℕ) (t : Terms) (a : Ask) : Type 0 where
  pub allowed : replace_fault q (part_filled t a) ≡ None
  pub ordered : (replaced_by q t a).ordered ≡ 40
  pub left : (replaced_by q t a).leaves ≡ 0
  pub status : status_of (replaced_by q t a) ≡ status.Filled
  pub back_ordered : (undone 40 (replaced_by q t a)).ordered ≡ 0
  pub back_open : (undone 40 (replaced_by q t a)).leaves ≡ 0

pub record Worked (t : Terms) (a : Ask) : Type 0 where
  pub part : status_of (part_filled t a) ≡ status.PartiallyFilled
  pub left : (part_filled t a).leaves ≡ 60
  pub cancelled : status_of (ended Cancelled (part_filled t a)) ≡ status.Cancelled
  pub expired : status_of (ended Expired (part_filled t a)) ≡ status.Expired
  pub back_ordered : (taken_back t a).ordered ≡ 60
  pub back_withdrawn : (taken_back t a).withdrawn ≡ 60
  pub back_executed : (taken_back t a).executed ≡ 0
  pub back_open : (taken_back t a).leaves ≡ 0
  pub back_status : status_of (taken_back t a) ≡ status.Cancelled
  -- all of it filled and undone
  pub done : status_of (filled 60 (part_filled t a)) ≡ status.Filled
  pub nothing_left : status_of (undone 100 (filled 60 (part_filled t a))) ≡ status.Cancelled
  -- a replacement at or below what is executed leaves nothing open, and one above it leaves the rest
  pub at_executed : Lowered 40 t a
  pub below_executed : Lowered 10 t a
  pub above_executed : replace_fault 41 (part_filled t a) ≡ None
  pub one_left : (replaced_by 41 t a).leaves ≡ 1

abbrev pub Examples : Type 0
Examples = (t : Terms) (a : Ask) → Worked t a
