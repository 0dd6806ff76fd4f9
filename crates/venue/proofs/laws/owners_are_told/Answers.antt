use Rattle.venue.proofs.Owned.{changed_only, entered_only}
use Rattle.venue.proofs.laws.owners_are_told.Goals as goal

pub returns-clause-changes : goal.returns-clause-changes
returns-clause-changes c = changed_only

pub returns-clause-entries : goal.returns-clause-entries
returns-clause-entries c = entered_only
