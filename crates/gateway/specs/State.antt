-- What a gateway keeps. Assumes nothing.
use Rattle.std.specs.Prelude.{ℕ, List, length, replicate, slice_index_or, slice_set}
use Rattle.codes.specs.declared.session.Partition.TheVariants.{One, Two, Three}
use Rattle.configuration.specs.declared.participant.Participant.{Participant}
use Rattle.partitions.specs.PerPartition.{at}
use Rattle.partitions.specs.declared.per_partition.PerPartition.{PerPartition}
use Rattle.sessions.specs.Sessions.{fresh as fresh_session}
use Rattle.sessions.specs.declared.session.Session.{Session}
use Rattle.store.specs.Kept.{Kept}
use Rattle.venue.specs.Books.{Books, Over}

-- beside it stand the matcher as it is and how many places the store has free, as they do beside a venue's books
pub record State : Type 0 where
  -- the CompIDs; each has the line of its place in the list
  pub participants : List Participant
  -- the session of each line
  pub lines : List Session
  pub venue : Books

-- the session of a line
abbrev pub session : State → ℕ → Session
session s line = slice_index_or s.lines line fresh_session

abbrev pub with_session : State → ℕ → Session → State
with_session s line x = record s { lines = slice_set s.lines line x }

abbrev pub with_venue : State → Books → State
with_venue s v = record s { venue = v }

-- a gateway's venue
abbrev pub venue_of : {M : Type 0} → Over State M → Over Books M
venue_of x = record { state = x.state.venue; engine = x.engine; free = x.free }

-- the last number of each partition
abbrev pub lasts : Kept → PerPartition ℕ
lasts k = record { one = length (at k One); two = length (at k Two); three = length (at k Three) }

-- of a day that begins: nobody is logged on
abbrev pub fresh : List Participant → Books → State
fresh ps v = record { participants = ps; lines = replicate (length ps) fresh_session; venue = v }
