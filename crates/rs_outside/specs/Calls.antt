-- The numbered calls of an object that fails where it is told to.
use Rattle.std.specs.Prelude.{◌≡◌, ℕ, ◌+◌, ◌-◌, ◌^◌, ◌<◌, ◌↔◌, min, Bool, true, false, IsTrue, if◌then◌else◌}
use Rattle.std.specs.Prelude.{List, Contains, Result, Ok, Err}
use Rattle.rs_outside.specs.declared.stops.IoStop.{IoStop}
use Rattle.rs_outside.specs.declared.stops.IoStop.TheVariants.{Failed, NoMemory}
use Rattle.rs_outside.specs.declared.doubles.calls.NumberedCalls.{NumberedCalls}

-- one more, but for the last value of a `u64`, which stays
abbrev pub one_more : ℕ → ℕ
one_more n = min (n + 1) (2 ^ 64 - 1)

-- the call of this number is to fail; the numbers end below the last value of a `u64`
abbrev pub IsToFail : List ℕ → ℕ → Type 0
IsToFail failing number = Contains failing number × (number < 2 ^ 64 - 1)

-- a numbered call: it fails exactly where it is to, and counts a fault exactly then
pub record IsNumberedCall (failed : Bool) (old new : NumberedCalls) : Type 0 where
  pub fails : IsTrue failed ↔ IsToFail old.failing old.count
  pub count : new.count ≡ one_more old.count
  pub faults : new.faults ≡ (if failed then one_more old.faults else old.faults)
  pub failing : new.failing ≡ old.failing

-- the call answered `Failed`
abbrev pub gave_fault : {T : Type 0} → Result T IoStop → Bool
gave_fault (Ok x) = false
gave_fault (Err Failed) = true
gave_fault (Err NoMemory) = false
