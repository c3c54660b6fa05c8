use Rattle.std.proofs.Common.{rules}
use Rattle.std.proofs.lemmas.Result.{err_from_is_err_and}
use Rattle.lua_lex.specs.declared.kinds.TokenKind.TheVariants as kind
use Rattle.lua_grammar.specs.Grammar as rule
use Rattle.lua_grammar.specs.Positions.{SeesNot}
use Rattle.lua_grammar.specs.Productions as parts
use Rattle.lua_parse.proofs.Kept.{plain_call}
use Rattle.lua_parse.proofs.Passed.{passed}
use Rattle.lua_parse.proofs.grammar.Grammar.suffix.Goals as goal

pub returns-in_ok-arguments-in_default : goal.returns-in_ok-arguments-in_default
returns-in_ok-arguments-in_default g c = rule.call c.in_ok-arguments-in_default.ensures

pub returns-in_err-arguments-in_default : goal.returns-in_err-arguments-in_default
returns-in_err-arguments-in_default g c =
    let p = err_from_is_err_and c.from_residual-in_err-arguments-in_default.result
    c.from_residual-in_err-arguments-in_default.ensures.1 in
    let no_dot : SeesNot kind.Dot c.args.reader.now = search rules in
    let no_bracket : SeesNot kind.LeftBracket c.args.reader.now = search rules in
    let no_colon : SeesNot kind.Colon c.args.reader.now = search rules in
    rw (p.1, p.2) (passed _ _ (parts.call (plain_call _ c.requires.begins no_dot no_bracket no_colon))
    parts.nothing c.in_err-arguments-in_default.ensures)
