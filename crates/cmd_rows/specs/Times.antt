-- The deadlines that commands give (Redis manual, EXPIRE, PEXPIRE, EXPIREAT, PEXPIREAT and the options of SET).
use Rattle.std.specs.Prelude.{ℕ, suc, ◌^◌, nat_le, nat_lt, if◌then◌else◌, ℤ, pos, negsuc, ◌+ℤ◌, ◌*ℤ◌, List, Result}
use Rattle.std.specs.Prelude.{Ok, Err}
use Rattle.cmd_args.specs.declared.commands.CmdId.{CmdId}
use Rattle.cmd_args.specs.declared.refusal.Refusal.{Refusal}
use Rattle.cmd_args.specs.declared.refusal.Refusal.TheVariants.{ExpireTime}
use Rattle.fx_record.specs.declared.record.Record.{Record}
use Rattle.fx_record.specs.declared.record.Record.TheVariants.{SetUntil, Del, ExpireAt}
use Rattle.cmd_rows.specs.declared.times.Expiry.{Expiry}
use Rattle.cmd_rows.specs.declared.times.Expiry.TheVariants.{InSeconds, InMillis, AtSecond, AtMillis}
use Rattle.cmd_rows.specs.Numbers.{is_within_64}

-- the time that a number of this kind means, in milliseconds since the Unix epoch
abbrev pub moment : Expiry → ℕ → ℤ → ℤ
moment InSeconds now n = pos now +ℤ (n *ℤ pos 1000)
moment InMillis now n = pos now +ℤ n
moment AtSecond now n = n *ℤ pos 1000
moment AtMillis now n = n

-- the deadline of a string that is written or read with one: the number is at least 1, and the time at most 2^63-1
abbrev pub deadline_in : CmdId → ℤ → ℤ → Result ℕ Refusal
deadline_in command (pos (suc n)) (pos at) = if nat_lt at (2 ^ 63) then Ok at else Err (ExpireTime command)
deadline_in command _ _ = Err (ExpireTime command)

abbrev pub deadline : CmdId → Expiry → ℕ → ℤ → Result ℕ Refusal
deadline command kind now n = deadline_in command n (moment kind now n)

-- the time at which EXPIRE and its kin let a key expire: within 64 signed bits
abbrev pub expire_time : CmdId → Expiry → ℕ → ℤ → Result ℤ Refusal
expire_time command kind now n =
    if is_within_64 (moment kind now n) then Ok (moment kind now n) else Err (ExpireTime command)

-- a string until a deadline: where it is past already, the key leaves instead
abbrev pub set_until : List ℕ → List ℕ → ℕ → ℕ → Record
set_until key value now deadline = if nat_le deadline now then Del key else SetUntil key value deadline

-- a key that is there expires at this time: where that is past already, it leaves
abbrev pub expire_at : List ℕ → ℕ → ℤ → Record
expire_at key now (pos at) = if nat_le at now then Del key else ExpireAt key at
expire_at key now (negsuc n) = Del key
