-- Records that give no deadline that is past.
use Rattle.std.specs.Prelude.{ℕ, ◌≤◌}
use Rattle.fx_record.specs.declared.record.Record.{Record}
use Rattle.fx_record.specs.declared.record.Record.TheVariants.{SetUntil, ExpireAt}

-- the deadline that the record gives, if it gives one, is not below the time
abbrev pub IsTimelyRecord : ℕ → Record → Type 0
IsTimelyRecord time (SetUntil key value deadline) = time ≤ deadline
IsTimelyRecord time (ExpireAt key deadline) = time ≤ deadline
IsTimelyRecord time _ = Unit {0}
