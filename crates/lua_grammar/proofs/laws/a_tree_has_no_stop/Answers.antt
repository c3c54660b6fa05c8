use Rattle.lua_grammar.proofs.OneStop.{no_stop}
use Rattle.lua_grammar.proofs.laws.a_tree_has_no_stop.Goals as goal

pub returns-clause-no_stop : goal.returns-clause-no_stop
returns-clause-no_stop c = λ words block bodies last_line line kind tree stop. no_stop block bodies tree stop
