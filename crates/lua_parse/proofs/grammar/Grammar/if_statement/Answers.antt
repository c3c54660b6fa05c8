use Rattle.lua_grammar.specs.Grammar as rule
use Rattle.std.proofs.lemmas.Result.{err_from_is_err_and}
use Rattle.std.proofs.Common.{ap}
use Rattle.lua_grammar.specs.Productions as parts
use Rattle.lua_grammar.specs.Stuck as stuck
use Rattle.lua_parse.proofs.Passed.{passed, lacks, faulty}
use Rattle.lua_parse.proofs.grammar.Grammar.if_statement.Goals as goal

pub returns : goal.returns
returns g c = let k = c.in_ok-branches.ensures in rw k.1
    (rule.if_statement c.in_ok-take.ensures c.in_ok-first.ensures k.2 c.in_ok-otherwise.ensures c.in_ok-take-2.ensures)

pub returns-in_err-room : goal.returns-in_err-room
returns-in_err-room g c = let p = err_from_is_err_and c.from_residual.result c.from_residual.ensures.1 in
    rw (p.1, p.2) (faulty _ _ _ _ _ _ c.in_err-room.ensures.0
    (stuck.deed_level (ap stuck.nests_statement c.requires.seen) c.in_err-room.ensures.1))

pub returns-in_err-first : goal.returns-in_err-first
returns-in_err-first g c = let p = err_from_is_err_and c.from_residual-in_err-first.result
    c.from_residual-in_err-first.ensures.1 in
    rw (p.1, p.2) (passed _ _ (parts.if_statement c.requires.seen c.in_ok-room.ensures)
    (parts.more c.in_ok-take.ensures parts.nothing)
    c.in_err-first.ensures)

pub returns-in_err-branches : goal.returns-in_err-branches
returns-in_err-branches g c = let p = err_from_is_err_and c.from_residual-in_err-branches.result
    c.from_residual-in_err-branches.ensures.1 in
    rw (p.1, p.2) (passed _ _ (parts.if_statement c.requires.seen c.in_ok-room.ensures)
    (parts.more c.in_ok-take.ensures (parts.more (_, c.in_ok-first.ensures) parts.nothing)) c.in_err-branches.ensures)

pub returns-in_err-otherwise : goal.returns-in_err-otherwise
returns-in_err-otherwise g c = let p = err_from_is_err_and c.from_residual-in_err-otherwise.result
    c.from_residual-in_err-otherwise.ensures.1 in
    rw (p.1, p.2) (passed _ _ (parts.if_statement c.requires.seen c.in_ok-room.ensures) (parts.more c.in_ok-take.ensures
    (parts.more (_, c.in_ok-first.ensures)
    (parts.more (_, c.in_ok-branches.ensures.2) parts.nothing))) c.in_err-otherwise.ensures)

pub returns-in_err-take-2 : goal.returns-in_err-take-2
returns-in_err-take-2 g c = let p = err_from_is_err_and c.from_residual-in_err-take-2.result
    c.from_residual-in_err-take-2.ensures.1 in
    rw (p.1, p.2) (lacks _ _ (parts.if_statement c.requires.seen c.in_ok-room.ensures) (parts.more c.in_ok-take.ensures
    (parts.more (_, c.in_ok-first.ensures)
    (parts.more (_, c.in_ok-branches.ensures.2) (parts.more (_, c.in_ok-otherwise.ensures) parts.nothing))))
    c.in_err-take-2.ensures)
