-- Which words fit the fields of messages. Assumes nothing.
use Rattle.std.specs.Prelude.{ℕ, if◌then◌else◌, List, Some, None, Option}
use Rattle.texts.specs.Texts.{fitting, fitting_name}
use Rattle.bench_words.specs.declared.misread.Misread.{Misread}
use Rattle.bench_words.specs.declared.misread.Misread.TheVariants as why

abbrev pub symbol_wrong : List ℕ → Option Misread
symbol_wrong w = if fitting 6 w then None else Some why.Symbol

abbrev pub segment_wrong : List ℕ → Option Misread
segment_wrong w = if fitting 4 w then None else Some why.Segment

abbrev pub client_wrong : List ℕ → Option Misread
client_wrong w = if fitting_name 20 w then None else Some why.ClientId

abbrev pub original_wrong : List ℕ → Option Misread
original_wrong w = if fitting 20 w then None else Some why.ClientId

-- the first of two that is wrong
