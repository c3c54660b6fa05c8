-- The operators, and the precedence of the binary ones (Lua 5.1 manual, 2.5.6).
use Rattle.std.specs.Prelude.{Option, Some, None}
use Rattle.lua_lex.specs.declared.kinds.TokenKind.{TokenKind}
use Rattle.lua_lex.specs.declared.kinds.TokenKind.TheVariants as kind
use Rattle.lua_grammar.specs.declared.operators.Unary.{Unary}
use Rattle.lua_grammar.specs.declared.operators.Unary.TheVariants as single
use Rattle.lua_grammar.specs.declared.operators.Binary.TheVariants as pair
use Rattle.lua_grammar.specs.declared.operators.Operator.{Operator}

-- the binary operator that the token is, from the weakest to the strongest
abbrev pub binary_operator : TokenKind → Option Operator
binary_operator kind.Or = Some (record { rank = 1; by = pair.Or })
binary_operator kind.And = Some (record { rank = 2; by = pair.And })
binary_operator kind.Less = Some (record { rank = 3; by = pair.Less })
binary_operator kind.Greater = Some (record { rank = 3; by = pair.Greater })
binary_operator kind.LessEqual = Some (record { rank = 3; by = pair.LessEqual })
binary_operator kind.GreaterEqual = Some (record { rank = 3; by = pair.GreaterEqual })
binary_operator kind.NotEqual = Some (record { rank = 3; by = pair.NotEqual })
binary_operator kind.Equal = Some (record { rank = 3; by = pair.Equal })
binary_operator kind.Concat = Some (record { rank = 4; by = pair.Concat })
binary_operator kind.Plus = Some (record { rank = 5; by = pair.Add })
binary_operator kind.Minus = Some (record { rank = 5; by = pair.Subtract })
binary_operator kind.Star = Some (record { rank = 6; by = pair.Multiply })
binary_operator kind.Slash = Some (record { rank = 6; by = pair.Divide })
binary_operator kind.Percent = Some (record { rank = 6; by = pair.Modulo })
binary_operator kind.Caret = Some (record { rank = 7; by = pair.Power })
binary_operator _ = None

-- the unary operator that the token is; all bind stronger than the binary ones but `^`
abbrev pub unary_operator : TokenKind → Option Unary
unary_operator kind.Not = Some single.Not
unary_operator kind.Hash = Some single.Length
unary_operator kind.Minus = Some single.Minus
unary_operator _ = None
