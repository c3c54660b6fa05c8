use Rattle.std.proofs.Common.{length}
use Rattle.lua_grammar.specs.declared.context.Context.{Context}
use Rattle.lua_grammar.specs.declared.expressions.Name.{Name}
use Rattle.lua_grammar.specs.Classes as class
use Rattle.lua_grammar.specs.Things as thing
use Rattle.lua_parse.proofs.Leads.{Leads}
use Rattle.lua_parse.proofs.lists.names.Given as goal

abbrev pub invariant-more : goal.invariant-more
invariant-more l = (c : Context) → Leads Name thing.names class.names c l.names l.fn.reader l.reader

abbrev pub decreases-more : goal.decreases-more
decreases-more l = length l.reader.words
