use Rattle.std.specs.Prelude.{[], ◌∷◌}
use Rattle.std.proofs.Common.{refl, subst}
use Rattle.reports.specs.declared.report.ExecutionReport.{ExecutionReport}
use Rattle.reports.specs.declared.report.Report.TheVariants.{Execution}
use Rattle.venue.specs.Acts.{Note}
use Rattle.venue.specs.Enacting.{Enacts}
use Rattle.requests.proofs.new_order.reject.Goals as goal

pub returns : goal.returns
returns g c = (
  refl,
  subst (λ (e : ExecutionReport). Enacts g.M.Matcher.Did c.args.time
      (Note c.args.listing.now.instrument.partition (record { owner = c.args.line; report = Execution e }) ∷ [])
      c.args.venue.now c.note.new.self) c.rejected.ensures (c.note.ensures c.args.time),
)
