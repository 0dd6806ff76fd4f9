-- How it is told why a script cannot be drilled. Assumes nothing.
use Rattle.std.specs.Prelude.{ℕ, List, ◌++◌, codes, decimal}
use Rattle.bench_words.specs.declared.mistake.Mistake.{Mistake}
use Rattle.bench_words.specs.declared.mistake.Mistake.TheVariants as mistake
use Rattle.bench_words.specs.Sentences.{sentence_of}

abbrev pub mistake_text : Mistake → List ℕ
mistake_text (mistake.Line n why) = codes "line " ++ (decimal n ++ (codes ": " ++ sentence_of why))
mistake_text (mistake.Refused n check) =
    codes "line " ++ (decimal n ++ (codes ": the gateway does not start: refused " ++ decimal check))
mistake_text mistake.NotStarted = codes "no line of the script is 'start'"
mistake_text mistake.NotFollowed = codes "no line of the script is 'follow LINE', which says whose desk is drilled"
mistake_text mistake.Nobody = codes "the line that is followed is no CompID's"
mistake_text mistake.NoCall = codes "the script makes no call behind 'start'"
