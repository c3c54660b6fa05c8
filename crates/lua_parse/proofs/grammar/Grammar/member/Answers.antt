use Rattle.std.proofs.lemmas.Result.{err_from_is_err_and}
use Rattle.lua_grammar.specs.Grammar as rule
use Rattle.lua_grammar.specs.Productions as parts
use Rattle.lua_parse.proofs.Passed.{lacks_name}
use Rattle.lua_parse.proofs.grammar.Grammar.member.Goals as goal

pub returns : goal.returns
returns g c = rule.member c.in_ok-take.ensures c.in_ok-take_name.ensures

pub returns-in_err-take_name : goal.returns-in_err-take_name
returns-in_err-take_name g c = let p = err_from_is_err_and c.from_residual-in_err-take_name.result
    c.from_residual-in_err-take_name.ensures.1 in
    rw (p.1, p.2) (lacks_name _ _ (parts.member c.requires) (parts.more c.in_ok-take.ensures parts.nothing)
    c.in_err-take_name.ensures)
