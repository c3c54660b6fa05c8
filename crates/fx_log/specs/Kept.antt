-- What a reader of a log keeps.
use Rattle.fx_log.specs.declared.reader.State.{State}
use Rattle.fx_log.specs.declared.reader.State.TheVariants.{Reading, Failed, OutOfMemory}
use Rattle.fx_log.specs.Items.{IsOpen}

-- the records of the group that is open are within the limits
abbrev pub IsKept : State → Type 0
IsKept (Reading reader opened) = IsOpen opened
IsKept Failed = Unit {0}
IsKept OutOfMemory = Unit {0}
