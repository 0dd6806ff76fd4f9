-- The exec type of an Execution Report. Assumes nothing.
use Rattle.codes.specs.declared.report.ExecType.{ExecType}
use Rattle.codes.specs.declared.report.ExecType.TheVariants as exec
use Rattle.terms.specs.declared.execution.Execution.{Execution}
use Rattle.terms.specs.declared.execution.Execution.TheVariants as execution

abbrev pub kind_of : {R : Type 0} → Execution R → ExecType
kind_of execution.New = exec.New
kind_of execution.Cancelled = exec.Cancelled
kind_of execution.Replaced = exec.Replaced
kind_of (execution.Rejected reason) = exec.Rejected
kind_of execution.Expired = exec.Expired
kind_of execution.Restated = exec.Restated
kind_of (execution.Trade liquidity kind) = exec.Trade
kind_of (execution.TradeCancel liquidity) = exec.TradeCancel
