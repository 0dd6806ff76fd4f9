-- A word with no minus in front.
use Rattle.std.proofs.Common.{◌≡◌, false, arith}
use Rattle.std.specs.Str.Parse.{starts_with_minus}
use Rattle.std.proofs.lemmas.Grind.{common_steps}
use Rattle.bench_words.specs.Prices.{raw_of}
use Rattle.bench_words.proofs.Positions.{no_minus}
use Rattle.bench_words.proofs.prices.hundred_millionths.Goals as goal

pub returns-in-None : goal.returns-in-None
unfolding raw_of lib.Utf8.encode
returns-in-None c =
    let none : starts_with_minus c.args.word.now ≡ false =
    no_minus c.args.word.now (λ rest. c.in-None.ensures.cases rest) in
    grind (arith, common_steps, none)
