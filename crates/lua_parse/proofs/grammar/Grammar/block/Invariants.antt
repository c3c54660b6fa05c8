use Rattle.std.proofs.Common.{length}
use Rattle.lua_grammar.specs.declared.statements.Stat.{Stat}
use Rattle.lua_grammar.specs.Classes as class
use Rattle.lua_grammar.specs.Things as thing
use Rattle.lua_parse.proofs.Leads.{Leads}
use Rattle.lua_parse.proofs.grammar.Grammar.block.Given as goal

abbrev pub invariant-more : goal.invariant-more
invariant-more g l = Leads Stat thing.block class.block l.self.context l.block l.fn.reader l.reader

abbrev pub decreases-more : goal.decreases-more
decreases-more g l = length l.reader.words
