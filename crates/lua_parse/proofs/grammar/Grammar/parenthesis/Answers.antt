use Rattle.std.proofs.lemmas.Result.{err_from_is_err_and}
use Rattle.lua_grammar.specs.Grammar as rule
use Rattle.lua_grammar.specs.Productions as parts
use Rattle.lua_grammar.specs.Stuck as stuck
use Rattle.lua_parse.proofs.Passed.{faulty, lacks, passed}
use Rattle.lua_parse.proofs.grammar.Grammar.parenthesis.Goals as goal

pub returns : goal.returns
returns g c = rw c.in_ok-new.ensures (rule.parenthesis c.in_ok-take.ensures c.in_ok-room.ensures c.in_ok-inside.ensures
    c.in_ok-take-2.ensures)

pub returns-in_err-room : goal.returns-in_err-room
returns-in_err-room g c = let p = err_from_is_err_and c.from_residual.result c.from_residual.ensures.1 in
    rw (p.1, p.2) (faulty _ _ _ _ _ _ c.in_err-room.ensures.0
    (stuck.head_level c.requires.seen c.in_err-room.ensures.1))

pub returns-in_err-inside : goal.returns-in_err-inside
returns-in_err-inside g c = let p = err_from_is_err_and c.from_residual-in_err-inside.result
    c.from_residual-in_err-inside.ensures.1 in
    rw (p.1, p.2) (passed _ _ (parts.parenthesis c.requires.seen c.in_ok-room.ensures)
    (parts.more c.in_ok-take.ensures parts.nothing) c.in_err-inside.ensures)

pub returns-in_err-take-2 : goal.returns-in_err-take-2
returns-in_err-take-2 g c = let p = err_from_is_err_and c.from_residual-in_err-take-2.result
    c.from_residual-in_err-take-2.ensures.1 in
    rw (p.1, p.2) (lacks _ _ (parts.parenthesis c.requires.seen c.in_ok-room.ensures)
    (parts.more c.in_ok-take.ensures (parts.more (_, c.in_ok-inside.ensures) parts.nothing)) c.in_err-take-2.ensures)
