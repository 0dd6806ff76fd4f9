use Rattle.std.proofs.Common.{rules, ◌≡◌}
use Rattle.bench_words.specs.Commands.{by_verb}
use Rattle.bench_words.proofs.command.read.Goals as goal

pub returns-in-Some : goal.returns-in-Some
returns-in-Some c =
    let h : c.by_verb.result ≡ by_verb c.in-Some.verb c.args.words = c.by_verb.ensures in
    rw h (search rules)
