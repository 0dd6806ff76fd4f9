use Rattle.std.proofs.Common.{rules}
use Rattle.bench_words.specs.Commands.{waits_of}
use Rattle.bench_words.proofs.command.waits.Goals as goal

pub returns-in_err-book-in-ioc : goal.returns-in_err-book-in-ioc
unfolding waits_of
returns-in_err-book-in-ioc c = search rules

pub returns-in_err-book-in_default : goal.returns-in_err-book-in_default
unfolding waits_of
returns-in_err-book-in_default c = search rules

pub returns-in_ok-book-in-ioc : goal.returns-in_ok-book-in-ioc
unfolding waits_of
returns-in_ok-book-in-ioc c = search rules

pub returns-in_ok-book-in_default : goal.returns-in_ok-book-in_default
unfolding waits_of
returns-in_ok-book-in_default c = search rules
