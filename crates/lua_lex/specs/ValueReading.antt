-- The bytes of pieces read from the left, for the functions that take a piece off a text.
use Rattle.std.specs.Prelude.{ℕ, zero, suc, ◌+◌, ◌-◌, ◌*◌, ◌==◌, nat_le, if◌then◌else◌, List, [], ◌∷◌}
use Rattle.std.specs.Char.{is_ascii_digit}
use Rattle.lua_lex.specs.Lines.{is_break}
use Rattle.lua_lex.specs.Values.{letter_byte}

-- the number of the digits of an escape, of which `left` may still come, behind those that stand for `value`
abbrev pub digits_byte : ℕ → ℕ → List ℕ → ℕ
digits_byte zero value text = value
digits_byte (suc left) value [] = value
digits_byte (suc left) value (b ∷ text) =
    if is_ascii_digit b then (if nat_le (value * 10 + (b - 48)) 255 then digits_byte left (value * 10 + (b - 48)) text
    else value) else value

-- the byte of an escape behind its backslash
unfoldable pub escape_byte : List ℕ → ℕ
escape_byte [] = 92
escape_byte (b ∷ text) = if is_break b then 10
    else (if is_ascii_digit b then digits_byte 2 (b - 48) text else letter_byte b)

-- the byte of the piece that begins with this byte
unfoldable pub first_byte : ℕ → List ℕ → ℕ
first_byte b text = if b == 92 then escape_byte text else b
