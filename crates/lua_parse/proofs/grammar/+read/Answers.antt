use Rattle.std.proofs.lemmas.Result.{err_from_is_err_and}
use Rattle.lua_parse.proofs.grammar.+read.Goals as goal

pub returns-in_err-expression-in-Expression : goal.returns-in_err-expression-in-Expression
returns-in_err-expression-in-Expression t c = let p =
    err_from_is_err_and c.from_residual.result c.from_residual.ensures.1 in
    rw (p.1, p.2, c.in-Expression.is) c.in_err-expression-in-Expression.ensures

pub returns-in_err-list-in-List : goal.returns-in_err-list-in-List
returns-in_err-list-in-List t c = let p =
    err_from_is_err_and c.from_residual-in_err-list-in-List.result c.from_residual-in_err-list-in-List.ensures.1 in
    rw (p.1, p.2, c.in-List.is) c.in_err-list-in-List.ensures

pub returns-in_err-fields-in-Fields : goal.returns-in_err-fields-in-Fields
returns-in_err-fields-in-Fields t c = let p =
    err_from_is_err_and c.from_residual-in_err-fields-in-Fields.result c.from_residual-in_err-fields-in-Fields.ensures.1
    in
    rw (p.1, p.2, c.in-Fields.is) c.in_err-fields-in-Fields.ensures

pub returns-in_err-power-in-Operand : goal.returns-in_err-power-in-Operand
returns-in_err-power-in-Operand t c = let p =
    err_from_is_err_and c.from_residual-in_err-power-in-Operand.result c.from_residual-in_err-power-in-Operand.ensures.1
    in
    rw (p.1, p.2, c.in-Operand.is) c.in_err-power-in-Operand.ensures

pub returns-in_err-block-in-Block : goal.returns-in_err-block-in-Block
returns-in_err-block-in-Block t c = let p =
    err_from_is_err_and c.from_residual-in_err-block-in-Block.result c.from_residual-in_err-block-in-Block.ensures.1 in
    rw (p.1, p.2, c.in-Block.is) c.in_err-block-in-Block.ensures
