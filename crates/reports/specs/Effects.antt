-- What each kind of Execution Report does to the figures of its order. Assumes nothing.
use Rattle.codes.specs.declared.report.ExecType.{ExecType}
use Rattle.codes.specs.declared.report.ExecType.TheVariants as exec
use Rattle.reports.specs.declared.standing.Effect.{Effect}
use Rattle.reports.specs.declared.standing.Effect.TheVariants.{Adds, Fills, Undoes, Tells, Nothing}

abbrev pub effect_of : ExecType → Effect
effect_of exec.New = Adds
effect_of exec.Trade = Fills
effect_of exec.TradeCancel = Undoes
effect_of exec.Rejected = Nothing
effect_of exec.Unspecified = Tells
effect_of exec.Cancelled = Tells
effect_of exec.Replaced = Tells
effect_of exec.Expired = Tells
effect_of exec.Restated = Tells
