use Rattle.std.proofs.Common.{◌≡◌, ◌-◌, ◌^◌, drop, take, min}
use Rattle.std.specs.Str.Parse.{AllDigits, digits_value}
use Rattle.rs_whole.proofs.digits.number_up_to_last.Given as goal

abbrev pub invariant-loop-byte : goal.invariant-loop-byte
invariant-loop-byte l =
    AllDigits 10 (drop l.byte-index l.digits) × (l.n ≡ min (digits_value 10 (take l.byte-index l.digits)) (2 ^ 64 - 1))
