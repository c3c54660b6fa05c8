use Rattle.std.proofs.lemmas.Result.{err_from_is_err_and}
use Rattle.lua_grammar.specs.Grammar as rule
use Rattle.lua_grammar.specs.Productions as parts
use Rattle.lua_parse.proofs.Passed.{passed}
use Rattle.lua_parse.proofs.grammar.Grammar.table_argument.Goals as goal

pub returns : goal.returns
returns g c = rw c.in_ok-only.ensures (rule.table_argument c.in_ok-fields.ensures)

pub returns-in_err-fields : goal.returns-in_err-fields
returns-in_err-fields g c = let p = err_from_is_err_and c.from_residual.result c.from_residual.ensures.1 in
    rw (p.1, p.2) (passed _ _ (parts.table_argument c.requires.seen) parts.nothing c.in_err-fields.ensures)
