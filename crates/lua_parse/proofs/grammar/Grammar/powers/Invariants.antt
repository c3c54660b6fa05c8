use Rattle.std.proofs.Common.{length}
use Rattle.lua_grammar.specs.declared.expressions.Link.{Link}
use Rattle.lua_grammar.specs.Classes as class
use Rattle.lua_grammar.specs.Things as thing
use Rattle.lua_parse.proofs.Leads.{Leads}
use Rattle.lua_parse.proofs.grammar.Grammar.powers.Given as goal

abbrev pub invariant-more : goal.invariant-more
invariant-more g l = Leads Link (thing.links 7) (class.links 7) l.self.context l.links l.fn.reader l.reader

abbrev pub decreases-more : goal.decreases-more
decreases-more g l = length l.reader.words
