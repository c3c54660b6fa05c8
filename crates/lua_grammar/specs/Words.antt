-- Which tokens go on with what stands before them, and which end it.
use Rattle.std.specs.Prelude.{Bool, true, false, Option, Some, None}
use Rattle.lua_lex.specs.declared.kinds.TokenKind.{TokenKind}
use Rattle.lua_lex.specs.declared.kinds.TokenKind.TheVariants as kind

-- the token, or the end of the text, goes on with a name or a parenthesis
abbrev pub begins_suffix : Option TokenKind → Bool
begins_suffix (Some kind.LeftBracket) = true
begins_suffix (Some kind.Dot) = true
begins_suffix (Some kind.Colon) = true
begins_suffix (Some kind.LeftParen) = true
begins_suffix (Some kind.LeftBrace) = true
begins_suffix (Some kind.Text) = true
begins_suffix _ = false

-- a block ends there
abbrev pub ends_block : Option TokenKind → Bool
ends_block None = true
ends_block (Some kind.End) = true
ends_block (Some kind.Else) = true
ends_block (Some kind.ElseIf) = true
ends_block (Some kind.Until) = true
ends_block _ = false

-- a `return` ends there without values
abbrev pub ends_return : Option TokenKind → Bool
ends_return (Some kind.Semicolon) = true
ends_return found = ends_block found
