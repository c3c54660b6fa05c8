use Rattle.std.proofs.Common.{sym, ◌∙◌}
use Rattle.std.proofs.lemmas.Result.{err_from_is_err_and}
use Rattle.lua_grammar.specs.Grammar as rule
use Rattle.lua_grammar.specs.Productions as parts
use Rattle.lua_parse.proofs.Passed.{passed}
use Rattle.lua_parse.proofs.grammar.Grammar.exponent.Goals as goal

pub returns : goal.returns
returns g c = rule.exponent (sym c.sign.ensures ∙ c.in_default.is) c.in_ok-operand.ensures

pub returns-in_err-operand : goal.returns-in_err-operand
returns-in_err-operand g c = let p = err_from_is_err_and c.from_residual.result c.from_residual.ensures.1 in
    rw (p.1, p.2) (passed _ _ (parts.exponent (sym c.sign.ensures ∙ c.in_default.is)) parts.nothing
    c.in_err-operand.ensures)
