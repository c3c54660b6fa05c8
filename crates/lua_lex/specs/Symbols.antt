-- The symbols (Lua 5.1 manual, 2.1): the longest one counts.
use Rattle.std.specs.Prelude.{ℕ, ◌==◌, if◌then◌else◌, List, [], ◌∷◌, Option, Some, None, option_map}
use Rattle.lua_lex.specs.declared.kinds.TokenKind.{TokenKind}
use Rattle.lua_lex.specs.declared.kinds.TokenKind.TheVariants as kind

-- a byte and `=`: `==`, `~=`, `<=` and `>=`
abbrev pub with_equal : ℕ → Option TokenKind
with_equal b = if b == 61 then Some kind.Equal
    else (if b == 126 then Some kind.NotEqual
    else (if b == 60 then Some kind.LessEqual
    else (if b == 62 then Some kind.GreaterEqual else None)))

-- a byte alone, the arithmetic
abbrev pub single_operator : ℕ → Option TokenKind
single_operator b = if b == 43 then Some kind.Plus
    else (if b == 45 then Some kind.Minus
    else (if b == 42 then Some kind.Star
    else (if b == 47 then Some kind.Slash
    else (if b == 37 then Some kind.Percent
    else (if b == 94 then Some kind.Caret
    else (if b == 35 then Some kind.Hash
    else (if b == 60 then Some kind.Less
    else (if b == 62 then Some kind.Greater
    else (if b == 61 then Some kind.Assign else None)))))))))

-- and the rest
abbrev pub single_mark : ℕ → Option TokenKind
single_mark b = if b == 40 then Some kind.LeftParen
    else (if b == 41 then Some kind.RightParen
    else (if b == 123 then Some kind.LeftBrace
    else (if b == 125 then Some kind.RightBrace
    else (if b == 91 then Some kind.LeftBracket
    else (if b == 93 then Some kind.RightBracket
    else (if b == 59 then Some kind.Semicolon
    else (if b == 58 then Some kind.Colon
    else (if b == 44 then Some kind.Comma
    else (if b == 46 then Some kind.Dot else None)))))))))

abbrev pub or_else : {X : Type 0} → Option X → Option X → Option X
or_else (Some x) other = Some x
or_else None other = other

unfoldable pub single : ℕ → Option TokenKind
single b = or_else (single_operator b) (single_mark b)

-- what two points are, with what follows them: `...` or `..`
abbrev pub points : List ℕ → TokenKind × ℕ
points [] = (kind.Concat, 2)
points (b ∷ text) = if b == 46 then (kind.Dots, 3) else (kind.Concat, 2)

-- a symbol of two bytes or three that begins with this one
unfoldable pub pair : ℕ → List ℕ → Option (TokenKind × ℕ)
pair b [] = None
pair b (c ∷ text) = if c == 61 then option_map (λ k. (k, 2)) (with_equal b)
    else (if c == 46 then (if b == 46 then Some (points text) else None) else None)

-- the longest symbol at the front of the text, and how many bytes it has
unfoldable pub symbol : List ℕ → Option (TokenKind × ℕ)
symbol [] = None
symbol (b ∷ text) = or_else (pair b text) (option_map (λ k. (k, 1)) (single b))
