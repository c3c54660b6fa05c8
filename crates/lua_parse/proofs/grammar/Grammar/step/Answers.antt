use Rattle.lua_grammar.specs.Grammar as rule
use Rattle.std.proofs.lemmas.Result.{err_from_is_err_and}
use Rattle.lua_grammar.specs.Productions as parts
use Rattle.lua_parse.proofs.Passed.{passed}
use Rattle.lua_parse.proofs.grammar.Grammar.step.Goals as goal

pub returns-then-not-eat : goal.returns-then-not-eat
returns-then-not-eat g c = let no = c.eat.ensures.unseen (cc) in rw no.0 (rule.no_step no.1)

pub returns : goal.returns
returns g c = rule.step (c.eat.ensures.seen (cc)) c.in_ok-expression.ensures

pub returns-in_err-expression : goal.returns-in_err-expression
returns-in_err-expression g c = let p = err_from_is_err_and c.from_residual.result c.from_residual.ensures.1 in
    rw (p.1, p.2) (let t = c.eat.ensures.seen (cc) in
    passed _ _ (parts.step t.seen) (parts.more t parts.nothing) c.in_err-expression.ensures)
