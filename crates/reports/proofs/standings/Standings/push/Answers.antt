use Rattle.std.proofs.Common.{rules}
use Rattle.reports.proofs.Rows.{once_push}
use Rattle.reports.proofs.standings.Standings.push.Goals as goal

pub invariant_of-self : goal.invariant_of-self
invariant_of-self c = (
  search rules,
  search rules,
  once_push _ _ _ _ _ c.self.invariant.2 c.push_reserved.ensures.items c.requires.new
      c.self.view_is,
)
