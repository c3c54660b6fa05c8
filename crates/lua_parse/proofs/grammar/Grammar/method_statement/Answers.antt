use Rattle.std.proofs.Common.{List, ap, ◌∙◌}
use Rattle.lua_grammar.specs.declared.expressions.Name.{Name}
use Rattle.lua_grammar.specs.declared.statements.Deed.TheVariants as deed_of
use Rattle.std.proofs.lemmas.Result.{err_from_is_err_and}
use Rattle.lua_parse.proofs.Functions.{no_method_name, no_method_body}
use Rattle.lua_parse.proofs.grammar.Grammar.method_statement.Goals as goal

pub returns : goal.returns
returns g c = record {
  last = _;
  number = _;
  named = _;
  takes = c.in_ok-take_name.ensures;
  spelled = c.in_ok-number.ensures;
  is = ap (λ (p : List Name). deed_of.Function c.args.name p c.in_ok-number.number)
      (c.in_ok-path.ensures ∙ c.in_ok-push.ensures.ok);
}

pub returns-in_err-take_name : goal.returns-in_err-take_name
returns-in_err-take_name g c = let p = err_from_is_err_and c.from_residual.result c.from_residual.ensures.1 in
    rw (p.1, p.2) (no_method_name _ _ _ _ c.in_err-take_name.ensures)

pub returns-in_err-number : goal.returns-in_err-number
returns-in_err-number g c = let p = err_from_is_err_and c.from_residual-in_err-number.result
    c.from_residual-in_err-number.ensures.1 in
    rw (p.1, p.2) (no_method_body _ _ _ _ c.in_ok-take_name.ensures c.in_err-number.ensures)
