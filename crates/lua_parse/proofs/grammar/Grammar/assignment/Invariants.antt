use Rattle.std.proofs.Common.{length}
use Rattle.lua_grammar.specs.Positions.{Position}
use Rattle.lua_grammar.specs.Contexts.{every_rule}
use Rattle.lua_grammar.specs.Things as thing
use Rattle.lua_grammar.specs.Grammar.{Spelled}
use Rattle.lua_parse.proofs.Leads.{TargetsLead}
use Rattle.lua_parse.proofs.grammar.Grammar.assignment.Given as goal

abbrev pub invariant-more : goal.invariant-more
invariant-more g l = (start : Position) → Spelled every_rule l.self.context (thing.target l.fn.first) start l.fn.reader
    → TargetsLead l.self.context l.targets start l.reader

abbrev pub decreases-more : goal.decreases-more
decreases-more g l = length l.reader.words
