-- Why a text has no tree.
use Rattle.std.specs.Prelude.{ℕ, ◌+◌, List}
use Rattle.lua_lex.specs.declared.kinds.LexStop.{LexStop}
use Rattle.lua_lex.specs.declared.kinds.LexStop.TheVariants as lexical
use Rattle.lua_lex.specs.declared.kinds.Token.{Token}
use Rattle.lua_lex.specs.Lines.{breaks}
use Rattle.lua_lex.specs.Tokens as lex
use Rattle.lua_lex.specs.Tokens.{HasTokens}
use Rattle.lua_grammar.specs.declared.words.Word.{Word}
use Rattle.lua_grammar.specs.declared.kinds.SyntaxKind.{SyntaxKind}
use Rattle.lua_grammar.specs.Trees.{AreWords}
use Rattle.lua_grammar.specs.Stops.{StopsAt}
use Rattle.lua_parse.specs.declared.stops.ParseKind.TheVariants as why
use Rattle.lua_parse.specs.declared.stops.ParseStop.{ParseStop}
use Rattle.lua_parse.specs.declared.stops.ParseStop.TheVariants as stop_of

-- the tokens of the text have this fault, on this line
pub record HasFault (text : List ℕ) (line : ℕ) (kind : SyntaxKind) : Type 0 where
  pub tokens : List Token
  pub words : List Word
  pub texts : List (List ℕ)
  pub has_tokens : HasTokens text tokens
  pub are_words : AreWords text tokens words texts
  pub stops : StopsAt words (1 + breaks text) line kind

-- the text has no tokens, or they are those of no tree, for this reason
abbrev pub IsStop : List ℕ → ParseStop → Type 0
IsStop text (stop_of.Bad line (why.Lex kind)) = lex.StopsAt text line kind
IsStop text (stop_of.Bad line (why.Syntax kind)) = HasFault text line kind
IsStop text stop_of.NoMemory = Unit {0}

-- a lexical stop as a stop of the parser
abbrev pub of_lexical : LexStop → ParseStop
of_lexical (lexical.Bad line kind) = stop_of.Bad line (why.Lex kind)
of_lexical lexical.NoMemory = stop_of.NoMemory
