use Rattle.std.proofs.Common.{sym, ◌∙◌}
use Rattle.std.proofs.lemmas.Result.{err_from_is_err_and}
use Rattle.lua_grammar.specs.Grammar as rule
use Rattle.lua_grammar.specs.Productions as parts
use Rattle.lua_grammar.specs.Stuck as stuck
use Rattle.lua_parse.proofs.Leads.{none_yet, one_more, ended, led}
use Rattle.lua_parse.proofs.Passed.{passed, too_many}
use Rattle.lua_grammar.proofs.Progress.{goes, eats_also}
use Rattle.lua_parse.proofs.Seen.{operator_passes, operator_eats}
use Rattle.lua_parse.proofs.grammar.Grammar.powers.Goals as goal

pub more-init : goal.more-init
more-init g c = rw c.new-links.ensures none_yet

pub more-preserved : goal.more-preserved
more-preserved g c =
    let seen = sym c.in-Some.ensures in
    let past = c.in_ok-pass_operator.ensures in
    let by = operator_passes 7 seen past.passed in
    one_more c.more.invariant c.in_ok-push.ensures.ok
    (λ rest end s. rule.more_links seen past.short by c.in_ok-exponent.ensures s)
    (λ f z s. stuck.inside (parts.links seen)
    (parts.more (past.short, by) (parts.more (_, c.in_ok-exponent.ensures) parts.nothing)) s)

pub more-smaller : goal.more-smaller
more-smaller g c = let seen = sym c.in-Some.ensures in
    (eats_also (operator_eats 7 seen c.in_ok-pass_operator.ensures.passed) (goes c.in_ok-exponent.ensures)).words

pub returns : goal.returns
returns g c = rw c.in_ok-exact.ensures (ended c.more.invariant (rule.no_links (sym c.joint.ensures ∙ c.in_default.is)))

pub returns-in_err-pass_operator : goal.returns-in_err-pass_operator
returns-in_err-pass_operator g c = let p = err_from_is_err_and c.from_residual.result c.from_residual.ensures.1 in
    rw (p.1, p.2) (led _ _ c.more.invariant (too_many _ _ _ _ (sym c.in-Some.ensures)
    c.in_err-pass_operator.ensures.long))

pub returns-in_err-exponent : goal.returns-in_err-exponent
returns-in_err-exponent g c = let p = err_from_is_err_and c.from_residual-in_err-exponent.result
    c.from_residual-in_err-exponent.ensures.1 in
    let seen = sym c.in-Some.ensures in let past = c.in_ok-pass_operator.ensures in
    rw (p.1, p.2) (led _ _ c.more.invariant (passed _ _ (parts.links seen)
    (parts.more (past.short, operator_passes 7 seen past.passed) parts.nothing) c.in_err-exponent.ensures))
