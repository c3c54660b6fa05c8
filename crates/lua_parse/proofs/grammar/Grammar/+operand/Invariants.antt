use Rattle.std.proofs.Common.{◌+◌, ◌*◌, ◌-◌, length}
use Rattle.lua_grammar.specs.declared.expressions.Link.{Link}
use Rattle.lua_grammar.specs.Classes as class
use Rattle.lua_grammar.specs.Things as thing
use Rattle.lua_parse.proofs.Leads.{Leads}
use Rattle.lua_parse.proofs.grammar.Grammar.+operand.Given as goal

abbrev pub decreases-operand : goal.decreases-operand
decreases-operand g l = 2 * (7 - l.rank) + 1

abbrev pub decreases-links : goal.decreases-links
decreases-links g l = 2 * (7 - l.rank)

abbrev pub invariant-links-more : goal.invariant-links-more
invariant-links-more g l = Leads Link (thing.links l.rank) (class.links l.rank) l.self.context l.links l.fn.reader
    l.reader

abbrev pub decreases-links-more : goal.decreases-links-more
decreases-links-more g l = length l.reader.words
