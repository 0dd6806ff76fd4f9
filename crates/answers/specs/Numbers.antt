-- The numbers in answers. Assumes nothing.
use Rattle.std.specs.Prelude.{ℕ}
use Rattle.layout.specs.Faults.{fault_number}
use Rattle.refusals.specs.Numbers.{logon_number, request_number, turned_number}
use Rattle.answers.specs.declared.answer.Admission.{Admission}
use Rattle.answers.specs.declared.answer.Admission.TheVariants.{Accepted, Refused}
use Rattle.answers.specs.declared.answer.Reason.{Reason}
use Rattle.answers.specs.declared.answer.Reason.TheVariants.{Fault, NotLoggedOn, Turned, Request}

-- told in a Logon Reply
abbrev pub admission_number : Admission → ℕ
admission_number Accepted = 0
admission_number (Refused e) = logon_number e

-- told in a Reject
abbrev pub reason_number : Reason → ℕ
reason_number (Fault f) = fault_number f
reason_number NotLoggedOn = 10
reason_number (Turned t) = turned_number t
reason_number (Request e) = request_number e
