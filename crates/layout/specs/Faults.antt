-- The checks of a message by number, and where what fails them stands. Assumes nothing.
use Rattle.std.specs.Prelude.{ℕ}
use Rattle.layout.specs.declared.fault.Fault.{Fault}
use Rattle.layout.specs.declared.fault.Fault.TheVariants.{Short, Start, Unknown, Length, Field}

abbrev pub fault_number : Fault → ℕ
fault_number Short = 1
fault_number Start = 2
fault_number Unknown = 3
fault_number Length = 4
fault_number (Field at) = 5

abbrev pub fault_offset : Fault → ℕ
fault_offset Short = 1
fault_offset Start = 0
fault_offset Unknown = 3
fault_offset Length = 1
fault_offset (Field at) = at
