use Rattle.std.proofs.lemmas.Result.{err_from_is_err_and}
use Rattle.lua_grammar.specs.Grammar as rule
use Rattle.lua_grammar.specs.Stuck as stuck
use Rattle.lua_parse.proofs.Passed.{goes_on}
use Rattle.lua_parse.proofs.grammar.Grammar.expression.Goals as goal

pub returns : goal.returns
returns g c = rule.expression c.begin_expression-counts.ensures.begun c.in_ok-expression.ensures
    (record { resumed = rw c.begin_expression-counts.ensures.counts at c.resume_expression.ensures })

pub returns-in_err-expression : goal.returns-in_err-expression
returns-in_err-expression g c = let p = err_from_is_err_and c.from_residual.result c.from_residual.ensures.1 in
    rw (p.1, p.2) (goes_on _ _ (λ f s. stuck.expression s)
    (rw c.begin_expression-counts.ensures.begun.begun at c.in_err-expression.ensures))
