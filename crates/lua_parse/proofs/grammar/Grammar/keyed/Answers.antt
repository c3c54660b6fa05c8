use Rattle.lua_grammar.specs.Grammar as rule
use Rattle.std.proofs.lemmas.Result.{err_from_is_err_and}
use Rattle.lua_grammar.specs.Productions as parts
use Rattle.lua_parse.proofs.Passed.{passed, lacks}
use Rattle.lua_parse.proofs.grammar.Grammar.keyed.Goals as goal

pub returns : goal.returns
returns g c = rule.keyed c.in_ok-take.ensures c.in_ok-key.ensures c.in_ok-take-2.ensures c.in_ok-take-3.ensures
    c.in_ok-expression.ensures

pub returns-in_err-key : goal.returns-in_err-key
returns-in_err-key g c = let p = err_from_is_err_and c.from_residual-in_err-key.result
    c.from_residual-in_err-key.ensures.1 in
    rw (p.1, p.2) (passed _ _ (parts.keyed c.requires.seen) (parts.more c.in_ok-take.ensures parts.nothing)
    c.in_err-key.ensures)

pub returns-in_err-take-2 : goal.returns-in_err-take-2
returns-in_err-take-2 g c = let p = err_from_is_err_and c.from_residual-in_err-take-2.result
    c.from_residual-in_err-take-2.ensures.1 in
    rw (p.1, p.2) (lacks _ _ (parts.keyed c.requires.seen) (parts.more c.in_ok-take.ensures
    (parts.more (_, c.in_ok-key.ensures) parts.nothing)) c.in_err-take-2.ensures)

pub returns-in_err-take-3 : goal.returns-in_err-take-3
returns-in_err-take-3 g c = let p = err_from_is_err_and c.from_residual-in_err-take-3.result
    c.from_residual-in_err-take-3.ensures.1 in
    rw (p.1, p.2) (lacks _ _ (parts.keyed c.requires.seen)
    (parts.more c.in_ok-take.ensures (parts.more (_, c.in_ok-key.ensures)
    (parts.more c.in_ok-take-2.ensures parts.nothing)))
    c.in_err-take-3.ensures)

pub returns-in_err-expression : goal.returns-in_err-expression
returns-in_err-expression g c = let p = err_from_is_err_and c.from_residual-in_err-expression.result
    c.from_residual-in_err-expression.ensures.1 in
    rw (p.1, p.2) (passed _ _ (parts.keyed c.requires.seen)
    (parts.more c.in_ok-take.ensures (parts.more (_, c.in_ok-key.ensures) (parts.more c.in_ok-take-2.ensures
    (parts.more c.in_ok-take-3.ensures parts.nothing)))) c.in_err-expression.ensures)
