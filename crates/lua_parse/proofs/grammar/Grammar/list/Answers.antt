use Rattle.std.proofs.Common.{◌∙◌}
use Rattle.lua_grammar.specs.Grammar as rule
use Rattle.lua_parse.proofs.Leads.{none_yet, one_more, ended_by, led}
use Rattle.lua_grammar.proofs.Progress.{goes, takes, also_eats}
use Rattle.std.proofs.lemmas.Result.{err_from_is_err_and}
use Rattle.lua_grammar.specs.Stuck as stuck
use Rattle.lua_parse.proofs.Passed.{goes_on}
use Rattle.lua_parse.proofs.grammar.Grammar.list.Goals as goal

pub more-init : goal.more-init
more-init g c = rw c.new-list.ensures none_yet

pub returns-then-not-eat : goal.returns-then-not-eat
returns-then-not-eat g c = let no = c.eat.ensures.unseen (cc) in
    rw no.0 (ended_by c.more.invariant (c.in_ok-exact.ensures ∙ c.in_ok-push.ensures.ok)
    (rule.last_expression c.in_ok-expression.ensures no.1))

pub more-preserved : goal.more-preserved
more-preserved g c = one_more c.more.invariant c.in_ok-push.ensures.ok
    (λ rest end s. rule.more_expressions c.in_ok-expression.ensures (c.eat.ensures.seen (cc)) s)
    (λ f z s. stuck.more_expressions c.in_ok-expression.ensures (c.eat.ensures.seen (cc)) s)

pub more-smaller : goal.more-smaller
more-smaller g c = (also_eats (goes c.in_ok-expression.ensures) (takes (c.eat.ensures.seen (cc)))).words

pub returns-in_err-expression : goal.returns-in_err-expression
returns-in_err-expression g c = let p = err_from_is_err_and c.from_residual.result c.from_residual.ensures.1 in
    rw (p.1, p.2) (led _ _ c.more.invariant (goes_on _ _ (λ f s. stuck.first_expression s) c.in_err-expression.ensures))
