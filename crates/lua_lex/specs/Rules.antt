-- The lexical rules: what stands at the front of a text (Lua 5.1 manual, 2.1).
use Rattle.std.specs.Prelude.{◌≡◌, ℕ, ◌+◌, Bool, ◌==◌, ◌&&◌, ◌||◌, not, if◌then◌else◌, List, [], ◌∷◌, ◌++◌, length}
use Rattle.std.specs.Prelude.{take, drop, Some, None, is_some, option_map, ok_or, Result, Ok, MatchResult, ℤ}
use Rattle.std.specs.Char.{is_ascii_digit}
use Rattle.std.specs.List.{prefix_len}
use Rattle.rs_whole.specs.Numerals.{is_space, Numeral, IsProper, numeral_text, StandsFor}
use Rattle.rs_whole.specs.Wholes.{IsWhole}
use Rattle.lua_lex.specs.declared.kinds.TokenKind.{TokenKind}
use Rattle.lua_lex.specs.declared.kinds.TokenKind.TheVariants as kind
use Rattle.lua_lex.specs.declared.kinds.LexKind.{LexKind}
use Rattle.lua_lex.specs.declared.kinds.LexKind.TheVariants as fault
use Rattle.lua_lex.specs.declared.items.Item.{Item}
use Rattle.lua_lex.specs.declared.items.Class.{Class}
use Rattle.lua_lex.specs.declared.items.Class.TheVariants as class
use Rattle.lua_lex.specs.Lines.{is_break}
use Rattle.lua_lex.specs.Long.{begins, level, long_len}
use Rattle.lua_lex.specs.Pieces.{Piece, pieces_text, ArePieces, IsBroken}
use Rattle.lua_lex.specs.Runs.{is_letter, name_len, numeral_len}
use Rattle.lua_lex.specs.Symbols.{symbol}
use Rattle.lua_lex.specs.Words.{word_kind}

abbrev pub begins_with_digit : List ℕ → Bool
begins_with_digit [] = Bool.false
begins_with_digit (b ∷ text) = is_ascii_digit b

-- a long bracket opens here
abbrev pub opens_long : List ℕ → Bool
opens_long [] = Bool.false
opens_long (b ∷ text) = b == 91 && is_some (level text)

-- the text behind `--`
abbrev pub comment_class : List ℕ → Class
comment_class text = if opens_long text then class.LongComment else class.LineComment

-- the class of what the text begins with, as its first bytes tell
unfoldable pub class_of : List ℕ → Class
class_of [] = class.Symbol
class_of (b ∷ text) = if is_space b then class.Blank
    else (if is_letter b then class.Word
    else (if is_ascii_digit b then class.Numeral
    else (if b == 34 || b == 39 then class.Quoted
    else (if b == 46 && begins_with_digit text then class.Numeral
    else (if opens_long (b ∷ text) then class.LongString
    else (if b == 45 && begins 45 text then comment_class (drop 1 text) else class.Symbol))))))

abbrev pub gap : ℕ → Item
gap n = record { kind = None; len = n }

abbrev pub token : TokenKind → ℕ → Item
token k n = record { kind = Some k; len = n }

-- the bytes are a numeral
abbrev pub IsNumeral : List ℕ → Type 0
IsNumeral run = (numeral : Numeral) × IsProper numeral × (run ≡ numeral_text numeral)

-- and stand for z
abbrev pub IsNumber : List ℕ → ℤ → Type 0
IsNumber run z = IsWhole z × IsNumeral run × ((numeral : Numeral) → IsProper numeral → run ≡ numeral_text numeral
    → StandsFor numeral z)

-- they are a numeral, and stand for no whole number of 53 bits
abbrev pub IsNoWhole : List ℕ → Type 0
IsNoWhole run = IsNumeral run × ((numeral : Numeral) → IsProper numeral → run ≡ numeral_text numeral → (z : ℤ)
    → IsWhole z → StandsFor numeral z → ⊥)

abbrev pub NumeralFault : LexKind → List ℕ → Type 0
NumeralFault fault.BadNumber run = IsNumeral run → ⊥
NumeralFault fault.NotWhole run = IsNoWhole run
NumeralFault _ run = ⊥

-- the longest numeral, and its number
abbrev pub NumeralRule : List ℕ → Result Item LexKind → Type 0
NumeralRule run found = MatchResult found
    (λ item. (z : ℤ) × IsNumber run z × (item ≡ token (kind.Number z) (length run))) (λ k. NumeralFault k run)

-- pieces between two quotes, or pieces up to where they break off
abbrev pub QuotedRule : List ℕ → Result Item LexKind → Type 0
QuotedRule text found = MatchResult found
    (λ item. (quote : ℕ) × (pieces : List Piece) × (rest : List ℕ) × ArePieces quote pieces (quote ∷ rest)
    × (text ≡ quote ∷ pieces_text pieces ++ quote ∷ rest) × (item ≡ token kind.Text (2 + length (pieces_text pieces))))
    (λ k. (quote : ℕ) × (pieces : List Piece) × (bad : List ℕ) × ArePieces quote pieces bad
    × (text ≡ quote ∷ pieces_text pieces ++ bad) × IsBroken k bad)

-- what stands at the front of a text of each class
abbrev pub Rule : Class → List ℕ → Result Item LexKind → Type 0
Rule class.Blank text found = found ≡ Ok (gap 1)
Rule class.LineComment text found = found ≡ Ok (gap (2 + prefix_len (λ b. not (is_break b)) (drop 2 text)))
Rule class.LongComment text found = found ≡ ok_or (option_map (λ n. gap (3 + n)) (long_len (drop 3 text)))
    fault.OpenLong
Rule class.Word text found = found ≡ Ok (token (word_kind (take (name_len text) text)) (name_len text))
Rule class.Numeral text found = NumeralRule (take (numeral_len text) text) found
Rule class.Quoted text found = QuotedRule text found
Rule class.LongString text found = found ≡ ok_or (option_map (λ n. token kind.Text (1 + n)) (long_len (drop 1 text)))
    fault.OpenLong
Rule class.Symbol text found = found ≡ ok_or (option_map (λ s. token s.0 s.1) (symbol text)) fault.BadByte

-- the text begins with this item, or with this fault
abbrev pub IsFirst : List ℕ → Result Item LexKind → Type 0
IsFirst text found = Rule (class_of text) text found
