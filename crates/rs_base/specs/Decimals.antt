-- Numbers in digits at the front of a text.
use Rattle.std.specs.Prelude.{◌≡◌, ℕ, false, List, [], ◌∷◌}
use Rattle.std.specs.Char.{is_ascii_digit}

-- the text does not go on with a digit
abbrev pub NoDigitFirst : List ℕ → Type 0
NoDigitFirst [] = Unit {0}
NoDigitFirst (b ∷ text) = is_ascii_digit b ≡ false
