use Rattle.std.proofs.Common.{sym, ap, ◌∙◌}
use Rattle.lua_grammar.specs.Grammar as rule
use Rattle.lua_parse.proofs.Leads.{none_yet, one_more, ended, ended_by, led}
use Rattle.lua_grammar.proofs.Progress.{eats_statement}
use Rattle.lua_grammar.specs.Words.{ends_block}
use Rattle.std.proofs.lemmas.Result.{err_from_is_err_and}
use Rattle.lua_grammar.specs.Productions as parts
use Rattle.lua_grammar.specs.Stuck as stuck
use Rattle.lua_grammar.specs.Productions.{begins_last}
use Rattle.lua_parse.proofs.Passed.{passed}
use Rattle.lua_parse.proofs.grammar.Grammar.block.Goals as goal

pub more-init : goal.more-init
more-init g c = rw c.new-block.ensures none_yet

pub returns-then-begins_last : goal.returns-then-begins_last
returns-then-begins_last g c = let k = c.in_ok-last.ensures in
    rw c.in_ok-exact.ensures (ended_by c.more.invariant c.in_ok-push.ensures.ok (rule.last_statement k.spelled k.ends))

pub more-preserved : goal.more-preserved
more-preserved g c = one_more c.more.invariant c.in_ok-push-2.ensures.ok
    (λ rest end s. rule.more_statements c.in_ok-statement.ensures s)
    (λ f z s. stuck.inside (parts.statements (sym (c.ends_block.ensures ∙ ap ends_block c.peek.ensures) ∙ cc)
    (sym (c.begins_last.ensures ∙ ap begins_last c.peek-in-more.ensures) ∙ cc))
    (parts.more (_, c.in_ok-statement.ensures) parts.nothing) s)

pub more-smaller : goal.more-smaller
more-smaller g c = (eats_statement c.in_ok-statement.ensures).words

pub returns : goal.returns
returns g c = rw c.in_ok-exact-2.ensures
    (ended c.more.invariant (rule.no_statements (sym (c.ends_block.ensures ∙ ap ends_block c.peek.ensures) ∙ cc)))

pub returns-in_err-last : goal.returns-in_err-last
returns-in_err-last g c = let p = err_from_is_err_and c.from_residual.result c.from_residual.ensures.1 in
    rw (p.1, p.2) (led _ _ c.more.invariant c.in_err-last.ensures)

pub returns-in_err-statement : goal.returns-in_err-statement
returns-in_err-statement g c = let p = err_from_is_err_and c.from_residual-in_err-statement.result
    c.from_residual-in_err-statement.ensures.1 in
    rw (p.1, p.2) (led _ _ c.more.invariant
    (passed _ _ (parts.statements (sym (c.ends_block.ensures ∙ ap ends_block c.peek.ensures) ∙ cc)
    (sym (c.begins_last.ensures ∙ ap begins_last c.peek-in-more.ensures) ∙ cc)) parts.nothing
    c.in_err-statement.ensures))

pub last-requires-clause-begins : goal.last-requires-clause-begins
last-requires-clause-begins g c = sym (c.begins_last.ensures ∙ ap begins_last c.peek-in-more.ensures) ∙ cc
