use Rattle.std.proofs.Common.{length}
use Rattle.lua_lex.proofs.LongLemmas.{IsAt}
use Rattle.lua_lex.proofs.long.close.Given as goal

abbrev pub invariant-loop-at : goal.invariant-loop-at
invariant-loop-at l = IsAt l.level l.fn.text l.rest

abbrev pub decreases-loop-at : goal.decreases-loop-at
decreases-loop-at l = length l.rest
