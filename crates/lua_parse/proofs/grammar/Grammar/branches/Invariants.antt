use Rattle.std.proofs.Common.{length}
use Rattle.lua_parse.proofs.Leads.{Behind}
use Rattle.lua_parse.proofs.grammar.Grammar.branches.Given as goal

abbrev pub invariant-more : goal.invariant-more
invariant-more g l = Behind l.self.context l.fn.first l.branches l.fn.reader l.reader

abbrev pub decreases-more : goal.decreases-more
decreases-more g l = length l.reader.words
