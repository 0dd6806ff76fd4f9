-- What a program answers that decides whether the line allows a log. Assumes nothing.
use Rattle.std.specs.Prelude.{ℕ, Bool, true, false, Ok, Err, Result}
use Rattle.both_ends.specs.Allowed.{Line, after_call}
use Rattle.both_ends.specs.declared.allowed.Breach.{Breach}
use Rattle.both_ends.specs.declared.entry.Entry.{Entry}
use Rattle.both_ends.specs.declared.entry.Entry.TheVariants.{Made, Midpoint, Asked}
use Rattle.both_ends.specs.declared.opening.Opening.{Opening}
use Rattle.both_ends.specs.declared.opening.Opening.TheVariants.{Awaited, Open, Failed}

-- the line after a call that was allowed, or the breach
abbrev pub onto : Result (Unit {0}) Breach → Line → Result Line Breach
onto (Ok u) l = Ok l
onto (Err b) l = Err b

-- the line after an entry of a log: a midpoint and a question leave it as it is
abbrev pub after_entry : {Q A : Type 0} → ℕ → Entry Q A → Line → Result Line Breach
after_entry c (Made x) l = after_call c x l
after_entry c (Midpoint i p r) l = Ok l
after_entry c (Asked q a) l = Ok l

-- whether a log was allowed, or the breach
abbrev pub verdict : Result Line Breach → Result (Unit {0}) Breach
verdict (Ok l) = Ok tt
verdict (Err b) = Err b

abbrev pub is_failed : Opening → Bool
is_failed Awaited = false
is_failed Open = false
is_failed Failed = true

-- whether the recovery channel of the line began with a Logon that is no message
abbrev pub failed_in : Result Line Breach → Bool
failed_in (Ok l) = is_failed l.opening
failed_in (Err b) = false
