-- The trades that a tape is to play, as the words of a line. Assumes nothing.
use Rattle.std.specs.Prelude.{Bool, List, drop, is_some}
use Rattle.std.specs.List.{filter_map, list_all}
use Rattle.matching.specs.declared.tape.Line.{Line}
use Rattle.bench_words.specs.Lines.{Words}
use Rattle.bench_words.specs.Words.{tape_line_of}

-- each word behind the second is a trade
abbrev pub is_tape : Words → Bool
is_tape ws = list_all (λ w. is_some (tape_line_of w.now)) (drop 2 ws)

abbrev pub lines_of : Words → List Line
lines_of ws = filter_map (λ w. tape_line_of w.now) (drop 2 ws)
