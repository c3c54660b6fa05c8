use Rattle.std.proofs.lemmas.Result.{err_from_is_err_and}
use Rattle.lua_grammar.specs.Grammar as rule
use Rattle.lua_grammar.specs.Productions as parts
use Rattle.lua_parse.proofs.Passed.{lacks, passed}
use Rattle.lua_parse.proofs.grammar.Grammar.index.Goals as goal

pub returns : goal.returns
returns g c = rule.index c.in_ok-take.ensures c.requires.room c.in_ok-index.ensures c.in_ok-take-2.ensures

pub returns-in_err-index : goal.returns-in_err-index
returns-in_err-index g c = let p = err_from_is_err_and c.from_residual-in_err-index.result
    c.from_residual-in_err-index.ensures.1 in
    rw (p.1, p.2) (passed _ _ (parts.index c.requires.seen c.requires.room)
    (parts.more c.in_ok-take.ensures parts.nothing) c.in_err-index.ensures)

pub returns-in_err-take-2 : goal.returns-in_err-take-2
returns-in_err-take-2 g c = let p = err_from_is_err_and c.from_residual-in_err-take-2.result
    c.from_residual-in_err-take-2.ensures.1 in
    rw (p.1, p.2) (lacks _ _ (parts.index c.requires.seen c.requires.room)
    (parts.more c.in_ok-take.ensures (parts.more (_, c.in_ok-index.ensures) parts.nothing)) c.in_err-take-2.ensures)
