use Rattle.std.proofs.lemmas.Result.{err_from_is_err_and}
use Rattle.lua_grammar.specs.Stuck as stuck
use Rattle.lua_parse.proofs.Passed.{goes_on}
use Rattle.lua_parse.proofs.grammar.Grammar.front.Goals as goal

pub returns-in_err-head : goal.returns-in_err-head
returns-in_err-head g c = let p = err_from_is_err_and c.from_residual.result c.from_residual.ensures.1 in
    rw (p.1, p.2) (goes_on _ _ (λ f s. stuck.own_chain s)
    (rw c.begin_expression-counts.ensures.begun.begun at c.in_err-head.ensures))

pub returns : goal.returns
returns g c = record {
  head = _;
  all = _;
  behind = _;
  spelled = rw c.begin_expression-counts.ensures.begun.begun at c.in_ok-head.ensures.spelled;
  resumes = record { resumed = rw c.begin_expression-counts.ensures.counts at c.resume_expression.ensures };
  few = c.in_ok-head.ensures.few;
  is = c.in_ok-made_front.ensures;
}
