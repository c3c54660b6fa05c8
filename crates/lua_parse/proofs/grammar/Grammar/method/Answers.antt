use Rattle.std.proofs.lemmas.Result.{err_from_is_err_and}
use Rattle.lua_grammar.specs.Grammar as rule
use Rattle.lua_grammar.specs.Productions as parts
use Rattle.lua_parse.proofs.Passed.{lacks_name, passed}
use Rattle.lua_parse.proofs.grammar.Grammar.method.Goals as goal

pub returns : goal.returns
returns g c = rule.method c.in_ok-take.ensures c.in_ok-name.ensures c.in_ok-arguments.ensures

pub returns-in_err-name : goal.returns-in_err-name
returns-in_err-name g c = let p = err_from_is_err_and c.from_residual-in_err-name.result
    c.from_residual-in_err-name.ensures.1 in
    rw (p.1, p.2) (lacks_name _ _ (parts.method c.requires.seen) (parts.more c.in_ok-take.ensures parts.nothing)
    c.in_err-name.ensures)

pub returns-in_err-arguments : goal.returns-in_err-arguments
returns-in_err-arguments g c = let p = err_from_is_err_and c.from_residual-in_err-arguments.result
    c.from_residual-in_err-arguments.ensures.1 in
    rw (p.1, p.2) (passed _ _ (parts.method c.requires.seen)
    (parts.more c.in_ok-take.ensures (parts.more (_, c.in_ok-name.ensures) parts.nothing)) c.in_err-arguments.ensures)
