-- Why a line is not understood, in words. Assumes nothing.
use Rattle.std.specs.Prelude.{ℕ, List, codes}
use Rattle.inspector.specs.declared.line.Unclear.{Unclear}
use Rattle.inspector.specs.declared.line.Unclear.TheVariants as why

abbrev pub sentence_of : Unclear → List ℕ
sentence_of why.UnknownReader = codes "not understood: the reader is none of real-time, recovery and follower"
sentence_of why.NoBytes = codes "not understood: no bytes are given; a message of none is written -"
sentence_of why.MoreWords = codes "not understood: there are more words than a reader and its bytes"
sentence_of why.NotHex = codes "not understood: one of the characters is no hex digit"
sentence_of why.OddDigits = codes "not understood: the number of hex digits is odd"
