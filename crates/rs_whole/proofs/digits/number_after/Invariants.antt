use Rattle.std.proofs.Common.{◌≡◌, ◌≤◌, ◌^◌, drop}
use Rattle.std.specs.Str.Parse.{AllDigits, digits_value_after}
use Rattle.rs_whole.proofs.digits.number_after.Given as goal

abbrev pub invariant-loop-byte : goal.invariant-loop-byte
invariant-loop-byte l = (l.n ≤ 2 ^ 53) × AllDigits l.radix (drop l.byte-index l.digits)
    × (digits_value_after l.radix l.n (drop l.byte-index l.digits) ≡ digits_value_after l.radix l.fn.start l.digits)
