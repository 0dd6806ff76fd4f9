use Rattle.both_ends.proofs.Rules.{as_the_rule}
use Rattle.both_ends.proofs.laws.the_rule_is_allowed.Goals as goal

pub returns : goal.returns
returns c = as_the_rule
