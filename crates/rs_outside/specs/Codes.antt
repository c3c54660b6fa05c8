-- The exit codes of the program.
use Rattle.std.specs.Prelude.{ℕ}
use Rattle.rs_outside.specs.declared.status.Status.{Status}
use Rattle.rs_outside.specs.declared.status.Status.TheVariants.{Done, Usage, BadInput, BadLog}
use Rattle.rs_outside.specs.declared.status.Status.TheVariants.{SourceFault, SinkFault, LogFault, WireFault}
use Rattle.rs_outside.specs.declared.status.Status.TheVariants.{TurnsSpent, NoMemory, InputTooLong}

abbrev pub code_of : Status → ℕ
code_of Done = 0
code_of Usage = 2
code_of (BadInput line) = 3
code_of (BadLog place) = 4
code_of SourceFault = 5
code_of SinkFault = 6
code_of LogFault = 7
code_of WireFault = 8
code_of (TurnsSpent turns) = 9
code_of NoMemory = 10
code_of (InputTooLong bytes) = 12
