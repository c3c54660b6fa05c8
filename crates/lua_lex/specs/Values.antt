-- The bytes that a string stands for (Lua 5.1 manual, 2.1).
use Rattle.std.specs.Prelude.{◌≡◌, ℕ, ◌+◌, ◌-◌, ◌==◌, ◌⊎◌, if◌then◌else◌, List, [], ◌∷◌, ◌++◌, length, map, take, drop}
use Rattle.std.specs.Prelude.{Some}
use Rattle.std.specs.Str.Parse.{digits_value}
use Rattle.lua_lex.specs.Lines.{is_break, is_pair}
use Rattle.lua_lex.specs.Long.{level, long_len}
use Rattle.lua_lex.specs.Pieces.{Piece, pieces_text, ArePieces}
use Rattle.lua_lex.specs.Strings.{after_break}

-- the byte that a letter stands for behind a backslash: `a`, `b`, `f`, `n`, `r`, `t` and `v` for 7, 8, 12, 10, 13, 9
-- and 11, any other for itself
abbrev pub letter_byte : ℕ → ℕ
letter_byte b = if b == 97 then 7
    else (if b == 98 then 8
    else (if b == 102 then 12
    else (if b == 110 then 10
    else (if b == 114 then 13
    else (if b == 116 then 9
    else (if b == 118 then 11 else b))))))

-- the byte that a piece stands for: a line break is one LF
abbrev pub piece_byte : Piece → ℕ
piece_byte (Piece.plain b) = b
piece_byte (Piece.one_break b) = 10
piece_byte (Piece.two_breaks b c) = 10
piece_byte (Piece.digits ds) = digits_value 10 ds
piece_byte (Piece.other b) = letter_byte b

-- each line break of the text as one LF
abbrev pub line_feeds : List ℕ → List ℕ
line_feeds [] = []
line_feeds (b ∷ []) = (if is_break b then 10 else b) ∷ []
line_feeds (b ∷ c ∷ text) = if is_pair b c then 10
    ∷ line_feeds text else ((if is_break b then 10 else b) ∷ line_feeds (c ∷ text))

-- the text without a line break at its front
abbrev pub without_break : List ℕ → List ℕ
without_break [] = []
without_break (b ∷ text) = if is_break b then after_break b text else b ∷ text

-- a quoted string, and its bytes
pub record IsQuoted (text bytes : List ℕ) : Type 0 where
  pub quote : ℕ
  pub pieces : List Piece
  pub is_quote : (quote ≡ 34) ⊎ (quote ≡ 39)
  pub are : ArePieces quote pieces (quote ∷ [])
  pub text_is : text ≡ quote ∷ pieces_text pieces ++ quote ∷ []
  pub bytes_are : bytes ≡ map piece_byte pieces

-- a long string, and its bytes: those between its brackets, without a first line break
pub record IsLong (text bytes : List ℕ) : Type 0 where
  pub bracket : List ℕ
  pub at : ℕ
  pub text_is : text ≡ 91 ∷ bracket
  pub opened : level bracket ≡ Some at
  pub closed : long_len bracket ≡ Some (length bracket)
  pub bytes_are : bytes ≡ line_feeds (without_break
      (take (length bracket - (at + 2 + (at + 1))) (drop (at + 1) bracket)))

-- the text is one string that stands for these bytes
abbrev pub IsString : List ℕ → List ℕ → Type 0
IsString text bytes = IsQuoted text bytes ⊎ IsLong text bytes
