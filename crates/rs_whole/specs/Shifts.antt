-- Exponents as the code holds them.
use Rattle.std.specs.Prelude.{ℕ, ◌-◌, ◌^◌, ◌==◌, nat_lt, ◌&&◌, min, if◌then◌else◌, List, [], ◌∷◌, length, Bool}
use Rattle.std.specs.Prelude.{Option, Some, None, option_map}
use Rattle.std.specs.Char.{is_digit}
use Rattle.std.specs.List.{list_all}
use Rattle.std.specs.Str.Parse.{digits_value}
use Rattle.rs_whole.specs.declared.shifts.Shift.{Shift}
use Rattle.rs_whole.specs.declared.shifts.Shift.TheVariants.{Rises, Falls}
use Rattle.rs_whole.specs.Numerals.{Sign, Exponent}

abbrev pub rises_by : Shift → ℕ
rises_by (Rises by) = by
rises_by (Falls by) = 0

abbrev pub falls_by : Shift → ℕ
falls_by (Rises by) = 0
falls_by (Falls by) = by

-- the number that digits write, at most the last of 64 bits
abbrev pub up_to_last : List ℕ → ℕ
up_to_last digits = min (digits_value 10 digits) (2 ^ 64 - 1)

-- an exponent's shift
abbrev pub shift_of : Exponent → Shift
shift_of Exponent.absent = Rises 0
shift_of (Exponent.power letter Sign.none digits) = Rises (up_to_last digits)
shift_of (Exponent.power letter Sign.plus digits) = Rises (up_to_last digits)
shift_of (Exponent.power letter Sign.minus digits) = Falls (up_to_last digits)

abbrev pub are_digits : List ℕ → Bool
are_digits digits = nat_lt 0 (length digits) && list_all (λ b. is_digit b 10) digits

abbrev pub places : List ℕ → Option ℕ
places digits = if are_digits digits then Some (up_to_last digits) else None

-- the shift of what stands behind the letter
abbrev pub signed_shift : List ℕ → Option Shift
signed_shift [] = None
signed_shift (b ∷ digits) = if b == 45 then option_map Falls (places digits)
    else (if b == 43 then option_map Rises (places digits) else option_map Rises (places (b ∷ digits)))
