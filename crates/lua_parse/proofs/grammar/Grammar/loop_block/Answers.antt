use Rattle.lua_grammar.specs.Grammar as rule
use Rattle.std.proofs.lemmas.Result.{err_from_is_err_and}
use Rattle.lua_grammar.specs.Productions as parts
use Rattle.lua_parse.proofs.Passed.{passed, lacks}
use Rattle.lua_parse.proofs.grammar.Grammar.loop_block.Goals as goal

pub returns : goal.returns
returns g c = rule.loop_block c.in_ok-take.ensures c.requires.room (rw c.looped.ensures at c.in_ok-block.ensures)
    c.in_ok-take-2.ensures

pub returns-in_err-take : goal.returns-in_err-take
returns-in_err-take g c = let p = err_from_is_err_and c.from_residual.result c.from_residual.ensures.1 in
    rw (p.1, p.2) (lacks _ _ (parts.loop_block c.requires.room) parts.nothing c.in_err-take.ensures)

pub returns-in_err-block : goal.returns-in_err-block
returns-in_err-block g c = let p = err_from_is_err_and c.from_residual-in_err-block.result
    c.from_residual-in_err-block.ensures.1 in
    rw (p.1, p.2) (passed _ _ (parts.loop_block c.requires.room) (parts.more c.in_ok-take.ensures parts.nothing)
    (rw c.looped.ensures at c.in_err-block.ensures))

pub returns-in_err-take-2 : goal.returns-in_err-take-2
returns-in_err-take-2 g c = let p = err_from_is_err_and c.from_residual-in_err-take-2.result
    c.from_residual-in_err-take-2.ensures.1 in
    rw (p.1, p.2) (lacks _ _ (parts.loop_block c.requires.room) (parts.more c.in_ok-take.ensures
    (parts.more (_, rw c.looped.ensures at c.in_ok-block.ensures) parts.nothing))
    c.in_err-take-2.ensures)
