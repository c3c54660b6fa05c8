-- Exponents that are short enough to be raised to.
use Rattle.std.specs.Prelude.{ℕ, ◌+◌, ◌%◌, nat_lt, if◌then◌else◌}

-- at most 65: with it each number has the same power, or both powers pass 2^53
abbrev pub short_exponent : ℕ → ℕ
short_exponent n = if nat_lt n 64 then n else 64 + n % 2
