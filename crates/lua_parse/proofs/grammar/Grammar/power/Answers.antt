use Rattle.std.proofs.Common.{sym, ◌∙◌}
use Rattle.std.proofs.lemmas.Result.{err_from_is_err_and}
use Rattle.lua_grammar.specs.Grammar as rule
use Rattle.lua_grammar.specs.Productions as parts
use Rattle.lua_parse.proofs.Passed.{passed}
use Rattle.lua_parse.proofs.grammar.Grammar.power.Goals as goal

pub returns : goal.returns
returns g c = rw c.in_ok-row.ensures (rule.power (sym c.sign.ensures ∙ c.in_default.is) c.in_ok-base.ensures
    c.in_ok-links.ensures)

pub returns-in_err-base : goal.returns-in_err-base
returns-in_err-base g c = let p = err_from_is_err_and c.from_residual.result c.from_residual.ensures.1 in
    rw (p.1, p.2) (passed _ _ (parts.power (sym c.sign.ensures ∙ c.in_default.is)) parts.nothing c.in_err-base.ensures)

pub returns-in_err-links : goal.returns-in_err-links
returns-in_err-links g c = let p = err_from_is_err_and c.from_residual-in_err-links.result
    c.from_residual-in_err-links.ensures.1 in
    rw (p.1, p.2) (passed _ _ (parts.power (sym c.sign.ensures ∙ c.in_default.is))
    (parts.more (_, c.in_ok-base.ensures) parts.nothing) c.in_err-links.ensures)
