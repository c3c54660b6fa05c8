-- Numbers in words: integers of 64 signed bits.
use Rattle.std.specs.Prelude.{ℕ, ◌^◌, nat_lt, Bool, ◌==◌, ◌&&◌, if◌then◌else◌, ℤ, pos, negsuc, neg_ℤ, List, [], ◌∷◌}
use Rattle.std.specs.Prelude.{Result, Ok, Err, bytes_eq}
use Rattle.std.specs.Str.Parse.{digits_value}
use Rattle.rs_whole.specs.Integers.{integer_text}
use Rattle.cmd_args.specs.declared.refusal.Refusal.{Refusal}
use Rattle.cmd_args.specs.declared.refusal.Refusal.TheVariants.{NotInteger}

-- from -2^63 to 2^63-1
abbrev pub is_within_64 : ℤ → Bool
is_within_64 (pos n) = nat_lt n (2 ^ 63)
is_within_64 (negsuc n) = nat_lt n (2 ^ 63)

-- the one integer that a word can spell: its digits, behind a minus below 0
abbrev pub read_digits : List ℕ → ℤ
read_digits [] = pos 0
read_digits (c ∷ digits) = if c == 45 then neg_ℤ (pos (digits_value 10 digits)) else pos (digits_value 10 (c ∷ digits))

-- the integer that a word spells, without leading zeros and within 64 bits; any other word is refused
abbrev pub number : List ℕ → Result ℤ Refusal
number word = if bytes_eq word (integer_text (read_digits word)) && is_within_64 (read_digits word) then Ok
    (read_digits word) else Err NotInteger
