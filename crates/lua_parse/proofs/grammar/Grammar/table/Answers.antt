use Rattle.std.proofs.lemmas.Result.{err_from_is_err_and}
use Rattle.lua_grammar.specs.Grammar as rule
use Rattle.lua_grammar.specs.Productions as parts
use Rattle.lua_parse.proofs.Passed.{passed}
use Rattle.lua_parse.proofs.grammar.Grammar.table.Goals as goal

pub returns : goal.returns
returns g c = rule.table c.in_ok-constructor.ensures

pub returns-in_err-constructor : goal.returns-in_err-constructor
returns-in_err-constructor g c = let p = err_from_is_err_and c.from_residual.result c.from_residual.ensures.1 in
    rw (p.1, p.2) (passed _ _ (parts.table c.requires.seen) parts.nothing c.in_err-constructor.ensures)
