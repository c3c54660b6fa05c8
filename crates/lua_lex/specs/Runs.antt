-- The longest name and the longest numeral at the front of a text (Lua 5.1 manual, 2.1).
use Rattle.std.specs.Prelude.{ℕ, ◌+◌, Bool, ◌==◌, ◌||◌, if◌then◌else◌, List, [], ◌∷◌, drop}
use Rattle.std.specs.Char.{is_ascii_digit, is_ascii_alphabetic, is_ascii_alphanumeric}
use Rattle.std.specs.List.{prefix_len}

abbrev pub is_letter : ℕ → Bool
is_letter b = is_ascii_alphabetic b || b == 95

abbrev pub is_name_byte : ℕ → Bool
is_name_byte b = is_ascii_alphanumeric b || b == 95

abbrev pub is_number_byte : ℕ → Bool
is_number_byte b = is_ascii_digit b || b == 46

-- letters, digits and `_`, as many as there are
abbrev pub name_len : List ℕ → ℕ
name_len text = prefix_len is_name_byte text

abbrev pub sign_len : List ℕ → ℕ
sign_len [] = 0
sign_len (b ∷ text) = if b == 43 || b == 45 then 1 else 0

-- an exponent's letter and its sign
abbrev pub mark_len : List ℕ → ℕ
mark_len [] = 0
mark_len (b ∷ text) = if b == 101 || b == 69 then 1 + sign_len text else 0

-- digits and points, then an exponent's letter and sign, then letters, digits and `_`, of each as many as there are
abbrev pub numeral_len : List ℕ → ℕ
numeral_len text =
    let number = prefix_len is_number_byte text in
    let mark = mark_len (drop number text) in
    number + mark + name_len (drop mark (drop number text))
