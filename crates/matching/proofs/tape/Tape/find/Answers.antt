use Rattle.std.proofs.Common.{rules}
use Rattle.matching.proofs.Rows.{found, found_known}
use Rattle.matching.proofs.tape.Tape.find.Goals as goal

pub returns-clause-found : goal.returns-clause-found
returns-clause-found c = found c.args.self.now.rows.items c.args.number _ (search rules)

pub returns-clause-test : goal.returns-clause-test
returns-clause-test c = found_known c.args.self.now.rows.items c.args.number _ (search rules)
