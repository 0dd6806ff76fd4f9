-- How far a connection of the line has come. Assumes nothing.
use Rattle.std.specs.Prelude.{Bool, true, false}
use Rattle.both_ends.specs.declared.connection.Connection.{Connection}
use Rattle.both_ends.specs.declared.connection.Connection.TheVariants.{Away, Ready, Up}

-- whether the follower is up
abbrev pub up_in : Connection → Bool
up_in Away = false
up_in Ready = false
up_in Up = true

-- what a lost line leaves
abbrev pub lost : Connection → Connection
lost Away = Away
lost Ready = Ready
lost Up = Away
