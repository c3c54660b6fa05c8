use Rattle.std.proofs.lemmas.Result.{err_from_is_err_and}
use Rattle.std.proofs.Common.{ap}
use Rattle.lua_grammar.specs.Grammar as rule
use Rattle.lua_grammar.specs.Productions as parts
use Rattle.lua_grammar.specs.Stuck as stuck
use Rattle.lua_parse.proofs.Passed.{passed, faulty}
use Rattle.lua_parse.proofs.grammar.Grammar.while_loop.Goals as goal

pub returns : goal.returns
returns g c = rule.while_loop c.in_ok-take.ensures c.in_ok-test.ensures c.in_ok-loop_block.ensures

pub returns-in_err-room : goal.returns-in_err-room
returns-in_err-room g c = let p = err_from_is_err_and c.from_residual.result c.from_residual.ensures.1 in
    rw (p.1, p.2) (faulty _ _ _ _ _ _ c.in_err-room.ensures.0
    (stuck.deed_level (ap stuck.nests_statement c.requires.seen) c.in_err-room.ensures.1))

pub returns-in_err-test : goal.returns-in_err-test
returns-in_err-test g c = let p = err_from_is_err_and c.from_residual-in_err-test.result
    c.from_residual-in_err-test.ensures.1 in
    rw (p.1, p.2) (passed _ _ (parts.while_loop c.requires.seen c.in_ok-room.ensures)
    (parts.more c.in_ok-take.ensures parts.nothing) c.in_err-test.ensures)

pub returns-in_err-loop_block : goal.returns-in_err-loop_block
returns-in_err-loop_block g c = let p = err_from_is_err_and c.from_residual-in_err-loop_block.result
    c.from_residual-in_err-loop_block.ensures.1 in
    rw (p.1, p.2) (passed _ _ (parts.while_loop c.requires.seen c.in_ok-room.ensures)
    (parts.more c.in_ok-take.ensures (parts.more (_, c.in_ok-test.ensures) parts.nothing)) c.in_err-loop_block.ensures)
