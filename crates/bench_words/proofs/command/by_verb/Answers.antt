use Rattle.std.proofs.Common.{◌≡◌}
use Rattle.bench_words.specs.Commands.{matcher_of}
use Rattle.bench_words.proofs.command.by_verb.Goals as goal

pub returns-in-Matcher : goal.returns-in-Matcher
returns-in-Matcher c = let h : c.matcher.result ≡ matcher_of c.args.words = c.matcher.ensures in rw c.in-Matcher.is h
