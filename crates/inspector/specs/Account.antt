-- The account of a run. Assumes nothing.
use Rattle.std.specs.Prelude.{ℕ, ◌+◌, ◌-◌, ◌^◌, min, true, false, List, ◌++◌, codes, decimal}
use Rattle.layout.specs.declared.fault.Fault.{Fault}
use Rattle.layout.specs.declared.fault.Fault.TheVariants as fault
use Rattle.inspector.specs.declared.account.Account.{Account}
use Rattle.inspector.specs.declared.account.Outcome.{Outcome}
use Rattle.inspector.specs.declared.account.Outcome.TheVariants as outcome

-- one more, as long as there is room
abbrev pub more : ℕ → ℕ
more n = min (n + 1) (2 ^ 64 - 1)

abbrev pub nothing : Account
nothing = record {
  lines = 0;
  read = 0;
  same_again = 0;
  refused = 0;
  short = 0;
  start = 0;
  unknown = 0;
  length = 0;
  field = 0;
  not_understood = 0;
}

-- a refused line under its fault
abbrev pub by_fault : Fault → Account → Account
by_fault fault.Short a = record a { short = more a.short }
by_fault fault.Start a = record a { start = more a.start }
by_fault fault.Unknown a = record a { unknown = more a.unknown }
by_fault fault.Length a = record a { length = more a.length }
by_fault (fault.Field offset) a = record a { field = more a.field }

abbrev pub by_outcome : Outcome → Account → Account
by_outcome (outcome.Read false) a = record a { read = more a.read }
by_outcome (outcome.Read true) a = record a { read = more a.read; same_again = more a.same_again }
by_outcome (outcome.Refused f) a = by_fault f (record a { refused = more a.refused })
by_outcome outcome.NotUnderstood a = record a { not_understood = more a.not_understood }

-- one line more
abbrev pub counted : Account → Outcome → Account
counted a o = by_outcome o (record a { lines = more a.lines })

abbrev pub totals_text : Account → List ℕ
totals_text a = decimal a.lines ++ (codes " lines: " ++ (decimal a.read
    ++ (codes " read (" ++ (decimal a.same_again ++ codes " come out the same when written again), "))))

abbrev pub rules_text : Account → List ℕ
rules_text a =
    decimal a.refused ++ (codes " refused (rule 1: " ++ (decimal a.short ++ (codes ", rule 2: " ++ (decimal a.start
    ++ (codes ", rule 3: " ++ (decimal a.unknown ++ (codes ", rule 4: " ++ (decimal a.length
    ++ (codes ", rule 5: " ++ (decimal a.field ++ codes "), "))))))))))

abbrev pub summary_text : Account → List ℕ
summary_text a = totals_text a ++ (rules_text a ++ (decimal a.not_understood ++ codes " not understood"))
