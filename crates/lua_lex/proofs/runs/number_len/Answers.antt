use Rattle.lua_lex.specs.Runs.{is_number_byte}
use Rattle.lua_lex.proofs.Prefixes.{prefix_found}
use Rattle.lua_lex.proofs.runs.number_len.Goals as goal

pub returns-clause-value : goal.returns-clause-value
returns-clause-value c = prefix_found is_number_byte c.args.text.now c.first_no_number.result c.unwrap_or.result
    c.first_no_number.ensures.value c.unwrap_or.ensures
