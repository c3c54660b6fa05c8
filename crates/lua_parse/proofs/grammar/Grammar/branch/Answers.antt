use Rattle.lua_grammar.specs.Grammar as rule
use Rattle.std.proofs.lemmas.Result.{err_from_is_err_and}
use Rattle.lua_grammar.specs.Productions as parts
use Rattle.lua_parse.proofs.Passed.{passed, lacks}
use Rattle.lua_parse.proofs.grammar.Grammar.branch.Goals as goal

pub returns : goal.returns
returns g c = rule.branch c.in_ok-test.ensures c.in_ok-take.ensures c.requires.room
    (rw c.inner.ensures at c.in_ok-block.ensures)

pub returns-in_err-test : goal.returns-in_err-test
returns-in_err-test g c = let p = err_from_is_err_and c.from_residual.result c.from_residual.ensures.1 in
    rw (p.1, p.2) (passed _ _ (parts.branch c.requires.room) parts.nothing c.in_err-test.ensures)

pub returns-in_err-take : goal.returns-in_err-take
returns-in_err-take g c = let p = err_from_is_err_and c.from_residual-in_err-take.result
    c.from_residual-in_err-take.ensures.1 in
    rw (p.1, p.2) (lacks _ _ (parts.branch c.requires.room) (parts.more (_, c.in_ok-test.ensures) parts.nothing)
    c.in_err-take.ensures)

pub returns-in_err-block : goal.returns-in_err-block
returns-in_err-block g c = let p = err_from_is_err_and c.from_residual-in_err-block.result
    c.from_residual-in_err-block.ensures.1 in
    rw (p.1, p.2) (passed _ _ (parts.branch c.requires.room)
    (parts.more (_, c.in_ok-test.ensures) (parts.more c.in_ok-take.ensures parts.nothing))
    (rw c.inner.ensures at c.in_err-block.ensures))
