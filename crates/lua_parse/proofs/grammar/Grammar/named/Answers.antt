use Rattle.lua_grammar.specs.Grammar as rule
use Rattle.std.proofs.lemmas.Result.{err_from_is_err_and}
use Rattle.lua_grammar.specs.Productions as parts
use Rattle.lua_parse.proofs.Passed.{passed, lacks, lacks_name}
use Rattle.lua_parse.proofs.Seen.{named_is}
use Rattle.lua_parse.proofs.grammar.Grammar.named.Goals as goal

pub returns : goal.returns
returns g c = rule.named c.in_ok-name.ensures c.in_ok-take.ensures c.in_ok-expression.ensures

pub returns-in_err-name : goal.returns-in_err-name
returns-in_err-name g c = let p = err_from_is_err_and c.from_residual.result c.from_residual.ensures.1 in
    rw (p.1, p.2) (lacks_name _ _ (let n = named_is _ _ c.requires.named in parts.named n.0 n.1) parts.nothing
    c.in_err-name.ensures)

pub returns-in_err-take : goal.returns-in_err-take
returns-in_err-take g c = let p = err_from_is_err_and c.from_residual-in_err-take.result
    c.from_residual-in_err-take.ensures.1 in
    rw (p.1, p.2) (lacks _ _ (let n = named_is _ _ c.requires.named in parts.named n.0 n.1)
    (parts.more (_, c.in_ok-name.ensures) parts.nothing) c.in_err-take.ensures)

pub returns-in_err-expression : goal.returns-in_err-expression
returns-in_err-expression g c = let p = err_from_is_err_and c.from_residual-in_err-expression.result
    c.from_residual-in_err-expression.ensures.1 in
    rw (p.1, p.2) (passed _ _ (let n = named_is _ _ c.requires.named in parts.named n.0 n.1)
    (parts.more (_, c.in_ok-name.ensures) (parts.more c.in_ok-take.ensures parts.nothing)) c.in_err-expression.ensures)
