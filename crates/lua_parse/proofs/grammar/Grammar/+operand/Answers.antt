use Rattle.std.proofs.Common.{sym, ◌∙◌, arith}
use Rattle.std.proofs.lemmas.Result.{err_from_is_err_and}
use Rattle.lua_grammar.specs.Grammar as rule
use Rattle.lua_grammar.specs.Productions as parts
use Rattle.lua_grammar.specs.Stuck as stuck
use Rattle.lua_parse.proofs.Leads.{none_yet, one_more, ended, led}
use Rattle.lua_parse.proofs.Passed.{passed, too_many}
use Rattle.lua_grammar.proofs.Progress.{goes, eats_also}
use Rattle.lua_parse.proofs.Seen.{operator_passes, operator_eats}
use Rattle.lua_parse.proofs.grammar.Grammar.+operand.Goals as goal

pub operand-returns : goal.operand-returns
operand-returns g t c = rw c.in_ok-row.ensures
    (rule.operands {rank = c.args.rank} (omega arith) c.in_ok-first.ensures c.in_ok-links.ensures)

pub operand-returns-in_err-first : goal.operand-returns-in_err-first
operand-returns-in_err-first g t c = let p = err_from_is_err_and c.from_residual.result c.from_residual.ensures.1 in
    rw (p.1, p.2) (passed _ _ (parts.operand {rank = c.args.rank} (omega arith)) parts.nothing c.in_err-first.ensures)

pub operand-returns-in_err-links : goal.operand-returns-in_err-links
operand-returns-in_err-links g t c = let p =
    err_from_is_err_and c.from_residual-in_err-links.result c.from_residual-in_err-links.ensures.1 in
    rw (p.1, p.2) (passed _ _ (parts.operand {rank = c.args.rank} (omega arith))
    (parts.more (_, c.in_ok-first.ensures) parts.nothing) c.in_err-links.ensures)

pub links-more-init : goal.links-more-init
links-more-init g t c = rw c.new-links.ensures none_yet

pub links-more-preserved : goal.links-more-preserved
links-more-preserved g t c =
    let seen = sym c.in-Some.ensures in
    let past = c.in_ok-pass_operator.ensures in
    let by = operator_passes c.args.rank seen past.passed in
    one_more c.more.invariant c.in_ok-push.ensures.ok
    (λ rest end s. rule.more_links seen past.short by c.in_ok-operand.ensures s)
    (λ f z s. stuck.inside (parts.links seen)
    (parts.more (past.short, by) (parts.more (_, c.in_ok-operand.ensures) parts.nothing)) s)

pub links-more-smaller : goal.links-more-smaller
links-more-smaller g t c = let seen = sym c.in-Some.ensures in
    (eats_also (operator_eats c.args.rank seen c.in_ok-pass_operator.ensures.passed)
    (goes c.in_ok-operand.ensures)).words

pub links-returns : goal.links-returns
links-returns g t c = rw c.in_ok-exact.ensures
    (ended c.more.invariant (rule.no_links (sym c.joint.ensures ∙ c.in_default.is)))

pub links-returns-in_err-pass_operator : goal.links-returns-in_err-pass_operator
links-returns-in_err-pass_operator g t c = let p =
    err_from_is_err_and c.from_residual.result c.from_residual.ensures.1 in
    rw (p.1, p.2) (led _ _ c.more.invariant (too_many _ _ _ _ (sym c.in-Some.ensures)
    c.in_err-pass_operator.ensures.long))

pub links-returns-in_err-operand : goal.links-returns-in_err-operand
links-returns-in_err-operand g t c = let p =
    err_from_is_err_and c.from_residual-in_err-operand.result c.from_residual-in_err-operand.ensures.1 in
    let seen = sym c.in-Some.ensures in let past = c.in_ok-pass_operator.ensures in
    rw (p.1, p.2) (led _ _ c.more.invariant (passed _ _ (parts.links seen)
    (parts.more (past.short, operator_passes c.args.rank seen past.passed) parts.nothing) c.in_err-operand.ensures))
