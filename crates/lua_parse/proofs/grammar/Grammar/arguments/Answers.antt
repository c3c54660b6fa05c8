use Rattle.std.proofs.Common.{rules}
use Rattle.lua_lex.specs.declared.kinds.TokenKind.TheVariants as kind
use Rattle.lua_grammar.specs.Positions.{SeesNot}
use Rattle.lua_grammar.specs.Stuck as stuck
use Rattle.lua_parse.proofs.Kept.{no_arguments}
use Rattle.lua_parse.proofs.grammar.Grammar.arguments.Goals as goal

pub returns-in_default : goal.returns-in_default
returns-in_default g c =
    let no_paren : SeesNot kind.LeftParen c.args.reader.now = search rules in
    let no_brace : SeesNot kind.LeftBrace c.args.reader.now = search rules in
    let no_text : SeesNot kind.Text c.args.reader.now = search rules in
    rw c.unexpected.ensures (stuck.arguments (no_arguments _ no_paren no_brace no_text))
