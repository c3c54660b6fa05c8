use Rattle.lua_grammar.proofs.OneStop.{one_stop}
use Rattle.lua_grammar.proofs.laws.one_stop.Goals as goal

pub returns : goal.returns
returns c = λ words last_line line line' kind kind' stop stop'. one_stop stop stop'
