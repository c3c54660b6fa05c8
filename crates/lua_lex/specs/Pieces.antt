-- What a quoted string is made of (Lua 5.1 manual, 2.1), and where it is broken off.
use Rattle.std.specs.Prelude.{◌≡◌, ◌≢◌, ℕ, ◌<◌, ◌≤◌, true, false, ◌⊎◌, List, [], ◌∷◌, ◌++◌, length}
use Rattle.std.specs.Char.{is_ascii_digit}
use Rattle.std.specs.List.{AllByRecursion, flat_map}
use Rattle.std.specs.Str.Parse.{digits_value}
use Rattle.lua_lex.specs.Lines.{is_break, is_pair}
use Rattle.lua_lex.specs.declared.kinds.LexKind.{LexKind}
use Rattle.lua_lex.specs.declared.kinds.LexKind.TheVariants as fault

-- a byte that stands for itself; a backslash and a line break of one byte or two; a backslash and up to three digits; a
-- backslash and another byte
pub data Piece : Type 0 where
  plain : ℕ → Piece
  one_break : ℕ → Piece
  two_breaks : ℕ → ℕ → Piece
  digits : List ℕ → Piece
  other : ℕ → Piece

abbrev pub piece_text : Piece → List ℕ
piece_text (Piece.plain b) = b ∷ []
piece_text (Piece.one_break b) = 92 ∷ b ∷ []
piece_text (Piece.two_breaks b c) = 92 ∷ b ∷ c ∷ []
piece_text (Piece.digits ds) = 92 ∷ ds
piece_text (Piece.other b) = 92 ∷ b ∷ []

abbrev pub pieces_text : List Piece → List ℕ
pieces_text pieces = flat_map piece_text pieces

abbrev pub AreDigits : List ℕ → Type 0
AreDigits ds = AllByRecursion (λ b. is_ascii_digit b ≡ true) ds

-- the text does not go on with the other half of a pair
abbrev pub NoPair : ℕ → List ℕ → Type 0
NoPair b [] = Unit {0}
NoPair b (c ∷ text) = is_pair b c ≡ false

-- nor with a digit
abbrev pub NoDigit : List ℕ → Type 0
NoDigit [] = Unit {0}
NoDigit (b ∷ text) = is_ascii_digit b ≡ false

-- a piece of a string in these quotes, with `rest` behind it: the longest one
abbrev pub IsPiece : ℕ → Piece → List ℕ → Type 0
IsPiece quote (Piece.plain b) rest = (b ≢ quote) × (b ≢ 92) × (is_break b ≡ false)
IsPiece quote (Piece.one_break b) rest = (is_break b ≡ true) × NoPair b rest
IsPiece quote (Piece.two_breaks b c) rest = is_pair b c ≡ true
IsPiece quote (Piece.digits ds) rest = AreDigits ds × (0 < length ds) × (length ds ≤ 3) × (digits_value 10 ds ≤ 255)
    × ((length ds ≡ 3) ⊎ NoDigit rest)
IsPiece quote (Piece.other b) rest = (is_break b ≡ false) × (is_ascii_digit b ≡ false)

-- pieces one behind the other, with `rest` behind them
abbrev pub ArePieces : ℕ → List Piece → List ℕ → Type 0
ArePieces quote [] rest = Unit {0}
ArePieces quote (p ∷ pieces) rest = IsPiece quote p (pieces_text pieces ++ rest) × ArePieces quote pieces rest

abbrev pub BreaksOff : List ℕ → Type 0
BreaksOff [] = Unit {0}
BreaksOff (b ∷ []) = (is_break b ≡ true) ⊎ (b ≡ 92)
BreaksOff (b ∷ c ∷ text) = is_break b ≡ true

abbrev pub EscapesTooFar : List ℕ → Type 0
EscapesTooFar bad = (ds rest : List ℕ) × (bad ≡ 92 ∷ ds ++ rest) × AreDigits ds × (length ds ≡ 3)
    × (255 < digits_value 10 ds)

-- what stands where no piece and no quote does: the end of the text, a line break, or a last backslash; or an escape of
-- three digits past 255
abbrev pub IsBroken : LexKind → List ℕ → Type 0
IsBroken fault.OpenString bad = BreaksOff bad
IsBroken fault.BadEscape bad = EscapesTooFar bad
IsBroken _ bad = ⊥
