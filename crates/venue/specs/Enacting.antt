-- Acts that were done to a venue: the books after them, what the matcher was asked, and the places that were used.
-- Assumes nothing.
use Rattle.std.specs.Prelude.{◌≡◌, List, [], ◌∷◌, Ok}
use Rattle.matching.specs.Asked.{Asked, Asks}
use Rattle.matching.specs.Meaning.{Allowed}
use Rattle.matching.specs.declared.event.Event.{Event}
use Rattle.reports.specs.Fold.{Knowledge, fold}
use Rattle.reports.specs.Told.{told_of}
use Rattle.codes.specs.declared.session.Partition.{Partition}
use Rattle.reports.specs.declared.report.Report.{Report}
use Rattle.texts.specs.declared.values.Time.{Time}
use Rattle.venue.specs.Acts.{Act, Take, all_told, asked_all, enact_all, step_of}
use Rattle.venue.specs.Books.{Books, Over}
use Rattle.venue.specs.Ledger.{Uses}
use Rattle.venue.specs.declared.step.Step.{Step}

-- y comes of x by exactly these acts
pub record Enacts {M : Type 0} (did : M → Asked → M → Type 0) (t : Time) (acts : List Act) (x y : Over Books M)
    : Type 0 where
  pub books : y.state ≡ enact_all t acts x.state
  pub asked : Asks did (asked_all t acts x.state) x.engine y.engine
  pub places : Uses (all_told acts) x.free y.free

-- the matcher's next event happens, whichever of those that may come it is; it is answered
pub record Stepped {M : Type 0} (did : M → Asked → M → Type 0) (t : Time) (x : Over Books M) (r : Step)
    (y : Over Books M) : Type 0 where
  pub event : Event
  pub allowed : Allowed x.state.market.orders event
  pub answer : r ≡ step_of event x.state
  pub enacts : Enacts did t (Take event ∷ []) x y

-- whoever folds a report that is of no order knows what he knew
abbrev pub Silent : Report → Type 0
Silent r = (p : Partition) (k : Knowledge) → fold p (told_of r) k ≡ Ok k
