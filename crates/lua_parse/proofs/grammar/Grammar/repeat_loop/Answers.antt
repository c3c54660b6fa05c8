use Rattle.lua_grammar.specs.Grammar as rule
use Rattle.std.proofs.lemmas.Result.{err_from_is_err_and}
use Rattle.std.proofs.Common.{ap}
use Rattle.lua_grammar.specs.Productions as parts
use Rattle.lua_grammar.specs.Stuck as stuck
use Rattle.lua_parse.proofs.Passed.{passed, lacks, faulty}
use Rattle.lua_parse.proofs.grammar.Grammar.repeat_loop.Goals as goal

pub returns : goal.returns
returns g c = rule.repeat_loop c.in_ok-take.ensures c.in_ok-room.ensures (rw c.looped.ensures at c.in_ok-block.ensures)
    c.in_ok-take-2.ensures c.in_ok-test.ensures

pub returns-in_err-room : goal.returns-in_err-room
returns-in_err-room g c = let p = err_from_is_err_and c.from_residual.result c.from_residual.ensures.1 in
    rw (p.1, p.2) (faulty _ _ _ _ _ _ c.in_err-room.ensures.0
    (stuck.deed_level (ap stuck.nests_statement c.requires.seen) c.in_err-room.ensures.1))

pub returns-in_err-block : goal.returns-in_err-block
returns-in_err-block g c = let p = err_from_is_err_and c.from_residual-in_err-block.result
    c.from_residual-in_err-block.ensures.1 in
    rw (p.1, p.2) (passed _ _ (parts.repeat_loop c.requires.seen c.in_ok-room.ensures)
    (parts.more c.in_ok-take.ensures parts.nothing)
    (rw c.looped.ensures at c.in_err-block.ensures))

pub returns-in_err-take-2 : goal.returns-in_err-take-2
returns-in_err-take-2 g c = let p = err_from_is_err_and c.from_residual-in_err-take-2.result
    c.from_residual-in_err-take-2.ensures.1 in
    rw (p.1, p.2) (lacks _ _ (parts.repeat_loop c.requires.seen c.in_ok-room.ensures)
    (parts.more c.in_ok-take.ensures (parts.more (_, rw c.looped.ensures at c.in_ok-block.ensures) parts.nothing))
    c.in_err-take-2.ensures)

pub returns-in_err-test : goal.returns-in_err-test
returns-in_err-test g c = let p = err_from_is_err_and c.from_residual-in_err-test.result
    c.from_residual-in_err-test.ensures.1 in
    rw (p.1, p.2) (passed _ _ (parts.repeat_loop c.requires.seen c.in_ok-room.ensures) (parts.more c.in_ok-take.ensures
    (parts.more (_, rw c.looped.ensures at c.in_ok-block.ensures) (parts.more c.in_ok-take-2.ensures parts.nothing)))
    c.in_err-test.ensures)
