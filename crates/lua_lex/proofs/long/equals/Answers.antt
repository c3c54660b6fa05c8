use Rattle.std.proofs.Common.{◌==◌}
use Rattle.lua_lex.proofs.Prefixes.{prefix_found}
use Rattle.lua_lex.proofs.long.equals.Goals as goal

pub returns-clause-value : goal.returns-clause-value
returns-clause-value c = prefix_found (λ b. b == 61) c.args.text.now c.first_no_equal.result c.unwrap_or.result
    c.first_no_equal.ensures.value c.unwrap_or.ensures
