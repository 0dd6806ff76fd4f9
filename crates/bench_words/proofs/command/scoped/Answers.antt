use Rattle.std.proofs.Common.{rules}
use Rattle.bench_words.specs.Commands.{scope_of}
use Rattle.bench_words.proofs.command.scoped.Goals as goal

pub returns-in-empty : goal.returns-in-empty
unfolding scope_of
returns-in-empty c = search rules

pub returns-in-instrument : goal.returns-in-instrument
unfolding scope_of
returns-in-instrument c = search rules

pub returns-in-segment : goal.returns-in-segment
unfolding scope_of
returns-in-segment c = search rules

pub returns-in-instrument-2 : goal.returns-in-instrument-2
unfolding scope_of
returns-in-instrument-2 c = search rules

pub returns-in_default : goal.returns-in_default
unfolding scope_of
returns-in_default c = search rules
