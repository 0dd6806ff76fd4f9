-- What a tape means, and which line it plays. Assumes nothing.
use Rattle.std.specs.Prelude.{◌≡◌, ℕ, Bool, true, false, if◌then◌else◌, List, [], ◌∷◌, drop, Some, None, vec_items, Option, ◌==◌, ◌≤◌, nat_le}
use Rattle.std.proofs.Common.{arith}
use Rattle.std.specs.FinMap.{len}
use Rattle.keyed.proofs.Tables.{count}
use Rattle.matching.specs.declared.event.Event.{Event}
use Rattle.matching.specs.declared.event.Event.TheVariants.{Nothing, Trade}
use Rattle.matching.specs.declared.tape.Line.{Line}
use Rattle.matching.specs.declared.tape.Row.{Row}
use Rattle.matching.specs.declared.tape.Tape.{Tape}
use Rattle.matching.specs.declared.tape.TheConstants.{CAPACITY}
use Rattle.matching.specs.Meaning.{Allowed, Meaning, Orders, open_quantity}
use Rattle.matching.specs.Asked.{Asked, Enter, Cancel, Amend, Next}
use Rattle.matching.specs.TapeRows.{FoundRow, orders_of, row_held, row_number}

-- such orders, of either book
abbrev pub taped : Orders → Meaning
taped os = record { orders = os; capacity = CAPACITY; dark_midpoint = true; integrated = true }

abbrev pub tape_meaning : Tape → Meaning
tape_meaning t = taped (orders_of (vec_items t.rows))

-- the lines that are still to be played
abbrev pub ahead : Tape → List Line
ahead t = drop t.at (vec_items t.lines)

-- a line fits where its order has as much open, and at least 1
abbrev pub fits : Orders → Line → Bool
fits os l = if l.quantity == 0 then false else nat_le l.quantity (open_quantity os l.number)

abbrev pub trade : Line → Event
trade l = Trade (Some l.number) None l.quantity l.price

-- the event that comes, and the lines after it: the first line that fits is played, those before it are passed
-- over
abbrev pub played : Orders → List Line → Event × List Line
played os [] = (Nothing, [])
played os (l ∷ ls) = if fits os l then (trade l, ls) else played os ls

-- what comes of a call: the next event is the first line that fits, and no other call moves the lines ahead
abbrev pub TapeDid : Tape → Asked → Tape → Type 0
TapeDid t (Next e) u = played (tape_meaning t).orders (ahead t) ≡ (e, ahead u)
TapeDid t (Enter n terms) u = ahead u ≡ ahead t
TapeDid t (Cancel n) u = ahead u ≡ ahead t
TapeDid t (Amend n q price) u = ahead u ≡ ahead t

-- what the search for the next line finds: nothing to play, or a line and the place of its order
abbrev pub NextLine : Orders → List Row → Event → Option (ℕ × Line) → Type 0
NextLine os rows e None = e ≡ Nothing
NextLine os rows e (Some (i, l)) = (e ≡ trade l) × Allowed os e × FoundRow rows l.number (Some i)

-- no more orders are open than it takes
pub tape_bounded : (t : Tape) → len (tape_meaning t).orders ≤ (tape_meaning t).capacity
tape_bounded t =
    let e = count row_number row_held (vec_items t.rows) t.apart in
    let l = t.limited in
    omega arith
