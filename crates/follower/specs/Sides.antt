-- A partition as a follower sees it. Assumes nothing.
use Rattle.std.specs.Prelude.{ℕ, Bool, true, false, List, [], ◌∷◌, ◌++◌, length, max, nat_le, nat_lt, if◌then◌else◌}
use Rattle.follower.specs.declared.answer.Live.{Live}
use Rattle.follower.specs.declared.answer.Live.TheVariants.{Held, Passed}
use Rattle.follower.specs.declared.heard.NumberedReport.{NumberedReport}
use Rattle.follower.specs.declared.hold.TheConstants.{HOLD}
use Rattle.follower.specs.declared.side.Side.{Side}
use Rattle.follower.specs.declared.side.State.{State}
use Rattle.follower.specs.declared.side.State.TheVariants.{Level, Behind, Overrun}
use Rattle.follower.specs.Numbers.{number_of}

abbrev pub new_side : Side
new_side = record { place = 0; state = Behind [] }

-- behind, with nothing held, at its place
abbrev pub fallen : Side → Side
fallen s = record s { state = Behind [] }

abbrev pub is_level : State → Bool
is_level Level = true
is_level (Behind hs) = false
is_level (Overrun n) = false

-- what is held, the first to come in front; only what is behind holds anything
abbrev pub held_in : State → List NumberedReport
held_in Level = []
held_in (Behind hs) = hs
held_in (Overrun n) = []

-- what becomes of a report that comes live above the place, where that is not level: it is held while there is room,
-- and passes from then on
abbrev pub laid_as : State → Live
laid_as Level = Passed
laid_as (Behind hs) = if nat_lt (length hs) HOLD then Held else Passed
laid_as (Overrun n) = Passed

-- and of the state: what is held is behind the others; the first that passes drops the hold, and the highest number that
-- passed is kept
abbrev pub laid : State → NumberedReport → State
laid Level h = Level
laid (Behind hs) h = if nat_lt (length hs) HOLD then Behind (hs ++ h ∷ []) else Overrun (number_of h)
laid (Overrun n) h = Overrun (max n (number_of h))

-- the state behind a complete download, by the place then: level, unless something that passed is above the place
abbrev pub completed_state : State → ℕ → State
completed_state Level place = Level
completed_state (Behind hs) place = Level
completed_state (Overrun n) place = if nat_le n place then Level else Overrun n
