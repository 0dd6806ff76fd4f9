-- What the line that is followed says to a day. Assumes nothing.
use Rattle.std.specs.Prelude.{ℕ, List, ◌++◌, codes, Ok, Err, Result}
use Rattle.bench_play.specs.declared.ruling.Ruling.{Ruling}
use Rattle.bench_play.specs.declared.ruling.Ruling.TheVariants.{Allows, Forbids}
use Rattle.both_ends.specs.Breaches.{breach_text}
use Rattle.both_ends.specs.declared.allowed.Breach.{Breach}

-- by what was decided of the log
abbrev pub ruling_of : Result (Unit {0}) Breach → Ruling
ruling_of (Ok u) = Allows
ruling_of (Err b) = Forbids b

abbrev pub ruling_text : Ruling → List ℕ
ruling_text Allows = codes "the line allows this day: no report was lost unnoticed, and none was counted twice"
ruling_text (Forbids b) = codes "the line does not allow this day: " ++ breach_text b
