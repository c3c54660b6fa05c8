-- The tokens of a text, and where it has none.
use Rattle.std.specs.Prelude.{◌≡◌, ℕ, ◌+◌, ◌<◌, List, [], ◌∷◌, ◌++◌, length, Option, Some, None, Ok, Err}
use Rattle.std.specs.List.{flat_map}
use Rattle.lua_lex.specs.declared.kinds.TokenKind.{TokenKind}
use Rattle.lua_lex.specs.declared.kinds.LexKind.{LexKind}
use Rattle.lua_lex.specs.declared.kinds.Token.{Token}
use Rattle.lua_lex.specs.declared.items.Item.{Item}
use Rattle.lua_lex.specs.Lines.{breaks}
use Rattle.lua_lex.specs.Rules.{IsFirst}

-- a token with its kind, or white space or a comment
pub record Lexeme : Type 0 where
  pub kind : Option TokenKind
  pub bytes : List ℕ

abbrev pub bytes_of : Lexeme → List ℕ
bytes_of lexeme = lexeme.bytes

abbrev pub text_of : List Lexeme → List ℕ
text_of lexemes = flat_map bytes_of lexemes

-- lexemes one behind the other, each the one that the rules give there, with `rest` behind them
abbrev pub AreLexemes : List Lexeme → List ℕ → Type 0
AreLexemes [] rest = Unit {0}
AreLexemes (x ∷ lexemes) rest = (0 < length x.bytes)
    × IsFirst (x.bytes ++ (text_of lexemes ++ rest)) (Ok (record { kind = x.kind; len = length x.bytes }))
    × AreLexemes lexemes rest

-- the token of this item, if it is one
abbrev pub token_of : ℕ → ℕ → Option TokenKind → ℕ → List Token
token_of start line None len = []
token_of start line (Some k) len = record { kind = k; start = start; stop = start + len; line = line } ∷ []

abbrev pub token_from : ℕ → ℕ → Item → List Token
token_from start line item = token_of start line item.kind item.len

-- the tokens among them, behind the text `before`
abbrev pub tokens_behind : List ℕ → List Lexeme → List Token
tokens_behind before [] = []
tokens_behind before (x ∷ lexemes) = token_of (length before) (1 + breaks before) x.kind (length x.bytes)
    ++ tokens_behind (before ++ x.bytes) lexemes

-- the text is these lexemes, and these are its tokens
pub record HasTokens (text : List ℕ) (tokens : List Token) : Type 0 where
  pub lexemes : List Lexeme
  pub are_lexemes : AreLexemes lexemes []
  pub text_is : text ≡ text_of lexemes
  pub tokens_are : tokens ≡ tokens_behind [] lexemes

-- behind some lexemes the text has this fault, on this line
pub record StopsAt (text : List ℕ) (line : ℕ) (kind : LexKind) : Type 0 where
  pub lexemes : List Lexeme
  pub bad : List ℕ
  pub are_lexemes : AreLexemes lexemes bad
  pub some : 0 < length bad
  pub faulty : IsFirst bad (Err kind)
  pub text_is : text ≡ text_of lexemes ++ bad
  pub line_is : line ≡ 1 + breaks (text_of lexemes)
