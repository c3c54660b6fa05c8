use Rattle.std.proofs.Common.{ap}
use Rattle.lua_grammar.specs.Grammar as rule
use Rattle.lua_grammar.specs.declared.expressions.Name.{Name}
use Rattle.std.proofs.lemmas.Result.{err_from_is_err_and}
use Rattle.lua_grammar.specs.Productions as parts
use Rattle.lua_parse.proofs.Passed.{passed}
use Rattle.lua_parse.proofs.grammar.Grammar.statement.Goals as goal

pub returns : goal.returns
returns g c = rule.statement (ap (λ (n : Name). n.line) c.name-line.ensures) c.in_ok-deed.ensures
    c.pass_semicolon.ensures

pub returns-in_err-deed : goal.returns-in_err-deed
returns-in_err-deed g c = let p = err_from_is_err_and c.from_residual.result c.from_residual.ensures.1 in
    rw (p.1, p.2) (passed _ _ parts.statement parts.nothing c.in_err-deed.ensures)
