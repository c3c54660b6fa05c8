-- Counts of faults. A count is a `u64` that never falls, and stands still at its last value.
use Rattle.std.specs.Prelude.{ℕ, ◌+◌, ◌-◌, ◌^◌, ◌≤◌, min, Result, IsErrOf}
use Rattle.rs_outside.specs.declared.stops.IoStop.{IoStop}
use Rattle.rs_outside.specs.declared.stops.IoStop.TheVariants.{Failed}

-- the count is greater now, or stands at its last value
abbrev pub Rose : ℕ → ℕ → Type 0
Rose before now = min (before + 1) (2 ^ 64 - 1) ≤ now

-- a call that answers `Failed` counted a fault
abbrev pub StopsByFault : {T : Type 0} → ℕ → ℕ → Result T IoStop → Type 0
StopsByFault before now result = IsErrOf result Failed → Rose before now
