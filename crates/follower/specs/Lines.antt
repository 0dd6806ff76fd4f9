-- Whether a follower is up, and how far its download is. Assumes nothing.
use Rattle.std.specs.Prelude.{Bool, true, false}
use Rattle.follower.specs.declared.line.Line.{Line}
use Rattle.follower.specs.declared.line.Line.TheVariants.{Away, Up}
use Rattle.follower.specs.declared.stage.Stage.{Stage}
use Rattle.follower.specs.declared.stage.Stage.TheVariants.{Idle}

abbrev pub up_on : Line → Bool
up_on Away = false
up_on (Up g) = true

-- none where it is not up
abbrev pub stage_on : Line → Stage
stage_on Away = Idle
stage_on (Up g) = g

-- up with no download, or not up
abbrev pub turned_line : Bool → Line
turned_line true = Up Idle
turned_line false = Away
