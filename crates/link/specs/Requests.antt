-- A message that a link writes. Assumes nothing.
use Rattle.std.specs.Prelude.{◌≡◌, ℕ, List, Some, Result, OnOk}
use Rattle.wire.specs.declared.kinds.Channel.TheVariants.{RealTime}
use Rattle.wire.specs.declared.message.Message.{Message}
use Rattle.wire.specs.declared.message.TooShort.{TooShort}
use Rattle.wire.specs.Kinds.{letter_of, takes}
use Rattle.wire.specs.Messages.{kind_of, GivenBack, Wrote}

-- a gateway takes such messages on its real-time channel, and reads this very one and no other from its bytes
pub record Heard (m : Message) : Type 0 where
  pub taken : takes RealTime (letter_of (kind_of m)) ≡ Some (kind_of m)
  pub back : GivenBack m

-- the message was written to the front of a buffer, or the buffer is too short and stands as it was
abbrev pub Sent : Message → List ℕ → List ℕ → Result ℕ TooShort → Type 0
Sent m before after r = Wrote m before after r × OnOk r (Heard m)
