use Rattle.reports.proofs.Rows.{known_nth}
use Rattle.reports.proofs.standings.Standings.get.Goals as goal

pub returns-clause-standing : goal.returns-clause-standing
returns-clause-standing c = known_nth _ _ _ _ _ c.item.ensures c.deref.ensures.value c.self.invariant.2 c.self.view_is
