-- What a call does: it changes a session, and does acts on the venue. Assumes nothing.
use Rattle.std.specs.Prelude.{◌≡◌, List}
use Rattle.answers.specs.declared.answer.Answer.{Answer}
use Rattle.gateway.specs.State.{State, with_venue}
use Rattle.matching.specs.Asked.{Asked, Asks}
use Rattle.texts.specs.declared.values.Time.{Time}
use Rattle.venue.specs.Acts.{Act, all_told, asked_all, enact_all}
use Rattle.venue.specs.Books.{Over}
use Rattle.venue.specs.Ledger.{Uses}

-- an answer, the state with the session's change, and the acts that are then done
pub record Outcome : Type 0 where
  pub answer : Answer
  pub changed : State
  pub acts : List Act

-- acts on the venue of a state
abbrev pub acted : Time → List Act → State → State
acted t acts s = with_venue s (enact_all t acts s.venue)

-- y comes of x by a change of the session, which gave u, and then by exactly these acts: the matcher is asked what they
-- ask, in their order, and nothing else
pub record Comes {M : Type 0} (did : M → Asked → M → Type 0) (t : Time) (x y : Over State M) (u : State)
    (acts : List Act) : Type 0 where
  pub state : y.state ≡ acted t acts u
  pub asked : Asks did (asked_all t acts u.venue) x.engine y.engine
  pub places : Uses (all_told acts) x.free y.free

-- nothing is done on the venue
abbrev pub Stays : {M : Type 0} → Over State M → Over State M → State → List Act → Type 0
Stays x y u acts = y ≡ record { state = u; engine = x.engine; free = x.free }
