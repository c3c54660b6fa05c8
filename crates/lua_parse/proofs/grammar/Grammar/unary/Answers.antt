use Rattle.std.proofs.Common.{arith}
use Rattle.std.proofs.lemmas.Result.{err_from_is_err_and}
use Rattle.lua_grammar.specs.Grammar as rule
use Rattle.lua_grammar.specs.Productions as parts
use Rattle.lua_grammar.specs.Stuck as stuck
use Rattle.lua_parse.proofs.Passed.{passed, faulty}
use Rattle.lua_parse.proofs.Seen.{sign_passes}
use Rattle.lua_parse.proofs.grammar.Grammar.unary.Goals as goal

pub returns-clause-operand : goal.returns-clause-operand
returns-clause-operand g c = rw c.in_ok-new.ensures
    (rule.unary c.requires.sign (sign_passes c.requires.sign c.pass.ensures) c.in_ok-room.ensures
    c.in_ok-operand.ensures)

pub returns-clause-exponent : goal.returns-clause-exponent
returns-clause-exponent g c = rw c.in_ok-new.ensures
    (rule.unary_exponent c.requires.sign (sign_passes c.requires.sign c.pass.ensures) c.in_ok-room.ensures
    c.in_ok-operand.ensures)

pub returns-in_err-room-clause-operand : goal.returns-in_err-room-clause-operand
returns-in_err-room-clause-operand g c = let p = err_from_is_err_and c.from_residual.result c.from_residual.ensures.1 in
    rw (p.1, p.2) (faulty _ _ _ _ _ _ c.in_err-room.ensures.0
    (stuck.unary_level (omega arith) (omega arith) c.requires.sign c.in_err-room.ensures.1))

pub returns-in_err-room-clause-exponent : goal.returns-in_err-room-clause-exponent
returns-in_err-room-clause-exponent g c = let p =
    err_from_is_err_and c.from_residual.result c.from_residual.ensures.1 in
    rw (p.1, p.2) (faulty _ _ _ _ _ _ c.in_err-room.ensures.0
    (stuck.unary_level (omega arith) (omega arith) c.requires.sign c.in_err-room.ensures.1))

pub returns-in_err-operand-clause-operand : goal.returns-in_err-operand-clause-operand
returns-in_err-operand-clause-operand g c = let p =
    err_from_is_err_and c.from_residual-in_err-operand.result c.from_residual-in_err-operand.ensures.1 in
    rw (p.1, p.2) (passed _ _ (parts.unary c.requires.sign c.in_ok-room.ensures)
    (parts.more (sign_passes c.requires.sign c.pass.ensures) parts.nothing) c.in_err-operand.ensures)

pub returns-in_err-operand-clause-exponent : goal.returns-in_err-operand-clause-exponent
returns-in_err-operand-clause-exponent g c = let p =
    err_from_is_err_and c.from_residual-in_err-operand.result c.from_residual-in_err-operand.ensures.1 in
    rw (p.1, p.2) (passed _ _ (parts.unary_exponent c.requires.sign c.in_ok-room.ensures)
    (parts.more (sign_passes c.requires.sign c.pass.ensures) parts.nothing) c.in_err-operand.ensures)
