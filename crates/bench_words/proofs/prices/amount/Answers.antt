-- A word in which no point stands.
use Rattle.std.proofs.Common.{◌≡◌, false, arith, rules}
use Rattle.std.specs.List.{list_any}
use Rattle.std.proofs.lemmas.Grind.{common_steps}
use Rattle.bench_words.specs.Prices.{amount_of, is_point}
use Rattle.bench_words.proofs.Positions.{at_no_place}
use Rattle.bench_words.proofs.prices.amount.Goals as goal

pub returns-in_ok-digits-in-None : goal.returns-in_ok-digits-in-None
unfolding amount_of
returns-in_ok-digits-in-None c =
    let none : list_any is_point c.args.word.now ≡ false = at_no_place is_point c.args.word.now (search rules) in
    grind (arith, common_steps, none)
