use Rattle.std.proofs.Common.{length}
use Rattle.lua_grammar.specs.declared.context.Context.{Context}
use Rattle.lua_parse.proofs.Leads.{ParametersLead}
use Rattle.lua_parse.proofs.bodies.parameters.Given as goal

abbrev pub invariant-more : goal.invariant-more
invariant-more l = (c : Context) → ParametersLead c l.names l.fn.reader l.reader

abbrev pub decreases-more : goal.decreases-more
decreases-more l = length l.reader.words
