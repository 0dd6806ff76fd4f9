use Rattle.std.proofs.Common.{◌≡◌, drop}
use Rattle.both_ends.specs.Allowed.{after_log, quiet}
use Rattle.both_ends.specs.Asking.{made}
use Rattle.both_ends.proofs.allowed.watched.Given as goal

-- what is left of the log decides, from the line as it is
abbrev pub invariant-loop-entry : goal.invariant-loop-entry
invariant-loop-entry g l =
    after_log l.line (made l.log) quiet ≡ after_log l.line (made (drop l.entry-index l.log)) l.watch
