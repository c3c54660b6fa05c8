-- The escape read from the left, for the functions that take a byte's spelling off a text.
use Rattle.std.specs.Prelude.{ℕ, ◌+◌, ◌-◌, ◌*◌, Bool, ◌==◌, nat_le, not, ◌&&◌, if◌then◌else◌, List, [], ◌∷◌, Option}
use Rattle.std.specs.Prelude.{Some, None, option_and_then}
use Rattle.rs_base.specs.Escape.{is_plain}

-- what a hexadecimal digit in lower case stands for
abbrev pub hex_value : ℕ → Option ℕ
hex_value c = if nat_le 48 c && nat_le c 57 then Some (c - 48)
    else (if nat_le 97 c && nat_le c 102 then Some (c - 87) else None)

-- a byte that is spelled by its two digits
abbrev pub needs_digits : ℕ → Bool
needs_digits b = not (is_plain b) && (not (b == 92) && (not (b == 32) && (not (b == 13) && not (b == 10))))

-- the byte that two digits spell
abbrev pub digits_value : ℕ → ℕ → Option ℕ
digits_value high low =
    option_and_then (λ h. option_and_then (λ l. if needs_digits (16 * h + l) then Some (16 * h + l) else None)
    (hex_value low)) (hex_value high)

-- what follows `\x`: the byte, and the text after it
abbrev pub digits_at : List ℕ → Option (ℕ × List ℕ)
digits_at [] = None
digits_at (high ∷ []) = None
digits_at (high ∷ low ∷ rest) = option_and_then (λ b. Some (b, rest)) (digits_value high low)

-- what follows a backslash
abbrev pub escaped_at : List ℕ → Option (ℕ × List ℕ)
escaped_at [] = None
escaped_at (c ∷ rest) =
    if c == 92 then Some (92, rest)
    else (if c == 115 then Some (32, rest)
    else (if c == 114 then Some (13, rest)
    else (if c == 110 then Some (10, rest)
    else (if c == 120 then digits_at rest else None))))

-- the byte whose spelling the text begins with, and the text after it
abbrev pub byte_at : List ℕ → Option (ℕ × List ℕ)
byte_at [] = None
byte_at (c ∷ rest) = if c == 92 then escaped_at rest else (if is_plain c then Some (c, rest) else None)
