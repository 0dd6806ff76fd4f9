use Rattle.std.proofs.Common.{rules}
use Rattle.bench_words.specs.Commands.{marked_of}
use Rattle.bench_words.proofs.command.marked.Goals as goal

pub returns-in_err-book-in-marked : goal.returns-in_err-book-in-marked
unfolding marked_of
returns-in_err-book-in-marked c = search rules

pub returns-in_err-book-in_default : goal.returns-in_err-book-in_default
unfolding marked_of
returns-in_err-book-in_default c = search rules

pub returns-in_ok-book-in-marked : goal.returns-in_ok-book-in-marked
unfolding marked_of
returns-in_ok-book-in-marked c = search rules

pub returns-in_ok-book-in_default : goal.returns-in_ok-book-in_default
unfolding marked_of
returns-in_ok-book-in_default c = search rules
