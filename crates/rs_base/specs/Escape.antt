-- The escape: the one spelling of a string of bytes in the printable ASCII bytes other than the space, so that a text
-- in it stands between spaces on a line.
use Rattle.std.specs.Prelude.{ℕ, ◌+◌, ◌/◌, ◌%◌, Bool, ◌==◌, nat_le, nat_lt, not, ◌&&◌, if◌then◌else◌, List, [], ◌∷◌}
use Rattle.std.specs.List.{flat_map}

-- `!` to `~`, other than the backslash
abbrev pub is_plain : ℕ → Bool
is_plain b = nat_le 33 b && (nat_le b 126 && not (b == 92))

-- a hexadecimal digit, in lower case
abbrev pub hex_digit : ℕ → ℕ
hex_digit n = if nat_lt n 10 then 48 + n else 87 + n

-- `\\`, `\s` for the space, `\r` and `\n`; a plain byte as it is; `\xHH` for any other byte
abbrev pub spelling_of_byte : ℕ → List ℕ
spelling_of_byte b =
    if b == 92 then 92 ∷ 92 ∷ []
    else (if b == 32 then 92 ∷ 115 ∷ []
    else (if b == 13 then 92 ∷ 114 ∷ []
    else (if b == 10 then 92 ∷ 110 ∷ []
    else (if is_plain b then b ∷ []
    else 92 ∷ 120 ∷ hex_digit (b / 16) ∷ hex_digit (b % 16) ∷ []))))

-- byte by byte; `\e` for no bytes at all
abbrev pub spelling : List ℕ → List ℕ
spelling [] = 92 ∷ 101 ∷ []
spelling (b ∷ bytes) = flat_map spelling_of_byte (b ∷ bytes)
