-- The table of a drill. Assumes nothing.
use Rattle.std.specs.Prelude.{ℕ, ◌-◌, ◌^◌, Bool, true, false, if◌then◌else◌, ◌==◌, List, ◌++◌, codes, decimal}
use Rattle.std.specs.Fmt.{format_spec, styled_decimal, styled_text}
use Rattle.bench_account.specs.declared.cut.Cut.{Cut}
use Rattle.bench_account.specs.declared.cut.Drilled.{Drilled}
use Rattle.bench_account.specs.declared.verdict.Verdict.{Verdict}
use Rattle.bench_account.specs.declared.verdict.Verdict.TheVariants as verdict
use Rattle.bench_account.specs.Accounts.{more}
use Rattle.bench_account.specs.Verdicts.{verdict_text}

-- a number behind as many blanks as a column has places left of it
abbrev pub column : ℕ → ℕ → List ℕ
column width n = styled_decimal (format_spec 32 3 0 width (2 ^ 64 - 1)) n

-- a text with blanks behind it, cut to the column's width
abbrev pub words_column : ℕ → List ℕ → List ℕ
words_column width text = styled_text (format_spec 32 1 0 width width) text

abbrev pub cut_text : Cut → List ℕ
cut_text c =
    (column 4 c.number ++ (codes "  " ++ (column 4 c.line ++ (codes "  " ++ words_column 34 c.after.now))))
    ++ ((codes "  " ++ (column 9 c.live ++ (codes "  " ++ column 9 c.recovered)))
    ++ ((codes "  " ++ (column 4 c.held ++ (codes "  " ++ (column 6 c.folded ++ (codes "  " ++ column 10 c.again)))))
    ++ (codes "  " ++ (column 6 c.orders ++ (codes "  " ++ verdict_text c.verdict)))))

abbrev pub no_cuts : Drilled
no_cuts = record { cuts = 0; agree = 0 }

abbrev pub agreed : Verdict → Bool
agreed verdict.Agree = true
agreed verdict.NoLine = false
agreed (verdict.Behind p) = false
agreed (verdict.Differ p) = false

-- one run more, and one that agrees more where it does
abbrev pub with_cut : Drilled → Verdict → Drilled
with_cut d v = record { cuts = more d.cuts; agree = if agreed v then more d.agree else d.agree }

abbrev pub passes : Drilled → Bool
passes d = d.agree == d.cuts

abbrev pub drilled_text : Drilled → List ℕ
drilled_text d = decimal d.cuts ++ (codes " cuts, " ++ (decimal d.agree ++ codes " agree"))
