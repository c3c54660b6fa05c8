use Rattle.std.proofs.lemmas.Result.{err_from_is_err_and}
use Rattle.std.proofs.Common.{is_some, sym, ap, ◌∙◌}
use Rattle.lua_grammar.specs.Stuck as stuck
use Rattle.lua_parse.proofs.Passed.{halts}
use Rattle.lua_parse.proofs.parser.whole_block.Goals as goal

pub returns-in_err-block : goal.returns-in_err-block
returns-in_err-block c = let p = err_from_is_err_and c.from_residual.result c.from_residual.ensures.1 in
    rw (p.1, p.2) (halts _ _ _ c.in_err-block.ensures)

pub returns-then-is_some : goal.returns-then-is_some
returns-then-is_some c = rw c.unexpected.ensures
    (stuck.behind_block c.in_ok-block.ensures (sym (c.is_some.ensures ∙ ap is_some c.peek.ensures) ∙ cc))
