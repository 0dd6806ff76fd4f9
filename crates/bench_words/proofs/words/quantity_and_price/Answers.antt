-- A word in which no comma stands.
use Rattle.std.proofs.Common.{◌≡◌, false, arith, rules}
use Rattle.std.specs.List.{list_any}
use Rattle.std.proofs.lemmas.Grind.{common_steps}
use Rattle.bench_words.specs.Words.{is_comma}
use Rattle.bench_words.proofs.Positions.{at_no_place}
use Rattle.bench_words.proofs.words.quantity_and_price.Goals as goal

pub returns-in_err-quantity : goal.returns-in_err-quantity
returns-in_err-quantity c =
    let none : list_any is_comma c.args.word.now ≡ false = at_no_place is_comma c.args.word.now (search rules) in
    grind (arith, common_steps, none)
