-- Quoted strings read from the left, for the functions that take a piece off a text.
use Rattle.std.specs.Prelude.{ℕ, zero, suc, ◌+◌, ◌-◌, ◌*◌, ◌==◌, nat_le, if◌then◌else◌, List, [], ◌∷◌, Result, Ok, Err}
use Rattle.std.specs.Char.{is_ascii_digit}
use Rattle.lua_lex.specs.Lines.{is_break, is_pair}
use Rattle.lua_lex.specs.declared.kinds.LexKind.{LexKind}
use Rattle.lua_lex.specs.declared.kinds.LexKind.TheVariants as fault

-- what follows a line break that begins with this byte
abbrev pub after_break : ℕ → List ℕ → List ℕ
after_break b [] = []
after_break b (c ∷ text) = if is_pair b c then text else c ∷ text

-- what follows the digits of an escape, of which `left` may still come
abbrev pub after_digits : ℕ → ℕ → List ℕ → Result (List ℕ) LexKind
after_digits zero value text = Ok text
after_digits (suc left) value [] = Ok []
after_digits (suc left) value (b ∷ text) =
    if is_ascii_digit b then (if nat_le (value * 10 + (b - 48)) 255 then after_digits left (value * 10 + (b - 48)) text
    else Err fault.BadEscape) else Ok (b ∷ text)

-- what follows an escape behind its backslash
unfoldable pub after_escape : List ℕ → Result (List ℕ) LexKind
after_escape [] = Err fault.OpenString
after_escape (b ∷ text) = if is_break b then Ok (after_break b text)
    else (if is_ascii_digit b then after_digits 2 (b - 48) text else Ok text)

-- what follows the piece that begins with this byte
unfoldable pub after_piece : ℕ → List ℕ → Result (List ℕ) LexKind
after_piece b text = if is_break b then Err fault.OpenString else (if b == 92 then after_escape text else Ok text)
