use Rattle.std.proofs.Common.{length}
use Rattle.lua_parse.specs.Sought.{sought_of}
use Rattle.lua_parse.proofs.Kept.{SuffixesLead}
use Rattle.lua_parse.proofs.grammar.Grammar.suffixes.Given as goal

abbrev pub invariant-more : goal.invariant-more
invariant-more g l = SuffixesLead l.self.context (sought_of l.sought) l.suffixes l.fn.reader l.reader

abbrev pub decreases-more : goal.decreases-more
decreases-more g l = length l.reader.words
