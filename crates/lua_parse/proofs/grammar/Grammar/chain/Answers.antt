use Rattle.std.proofs.lemmas.Result.{err_from_is_err_and}
use Rattle.lua_grammar.specs.Grammar as rule
use Rattle.lua_grammar.specs.Stuck as stuck
use Rattle.lua_parse.proofs.Passed.{goes_on}
use Rattle.lua_parse.proofs.grammar.Grammar.chain.Goals as goal

pub returns : goal.returns
returns g c = record {
  spelled = rule.chain c.in_ok-head.ensures c.in_ok-suffixes.ensures.spelled;
  few = c.in_ok-suffixes.ensures.few;
}

pub returns-in_err-head : goal.returns-in_err-head
returns-in_err-head g c = let p = err_from_is_err_and c.from_residual.result c.from_residual.ensures.1 in
    rw (p.1, p.2) (goes_on _ _ (λ f s. stuck.chain_head s) c.in_err-head.ensures)

pub returns-in_err-suffixes : goal.returns-in_err-suffixes
returns-in_err-suffixes g c = let p = err_from_is_err_and c.from_residual-in_err-suffixes.result
    c.from_residual-in_err-suffixes.ensures.1 in
    rw (p.1, p.2) (goes_on _ _ (λ f s. stuck.chain_suffixes c.in_ok-head.ensures s)
    c.in_err-suffixes.ensures)
