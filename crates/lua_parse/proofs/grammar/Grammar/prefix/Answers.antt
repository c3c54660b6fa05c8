use Rattle.std.proofs.lemmas.Result.{err_from_is_err_and}
use Rattle.lua_grammar.specs.Grammar as rule
use Rattle.lua_grammar.specs.Productions as parts
use Rattle.lua_parse.proofs.Passed.{passed}
use Rattle.lua_parse.proofs.grammar.Grammar.prefix.Goals as goal

pub returns : goal.returns
returns g c = rw c.in_ok-suffixed.ensures (rule.prefix c.in_ok-head.ensures.spelled)

pub returns-in_err-head : goal.returns-in_err-head
returns-in_err-head g c = let p = err_from_is_err_and c.from_residual.result c.from_residual.ensures.1 in
    rw (p.1, p.2) (passed _ _ (parts.prefix c.requires.begins) parts.nothing
    c.in_err-head.ensures)
