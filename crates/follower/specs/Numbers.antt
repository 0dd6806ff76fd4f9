-- The number of a report. Assumes nothing.
use Rattle.std.specs.Prelude.{ℕ, ℤ, pos, negsuc}
use Rattle.follower.specs.declared.heard.NumberedReport.{NumberedReport}

-- the number that a message states; one below 0 counts as 0, which every place has reached
abbrev pub stated : ℤ → ℕ
stated (pos n) = n
stated (negsuc n) = 0

abbrev pub number_of : NumberedReport → ℕ
number_of h = stated h.sequence
