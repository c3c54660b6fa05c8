use Rattle.std.proofs.Common.{length}
use Rattle.lua_lex.proofs.PieceLemmas.{HasPieces}
use Rattle.lua_lex.proofs.quotes.after_string.Given as goal

abbrev pub invariant-loop-first : goal.invariant-loop-first
invariant-loop-first l = HasPieces l.quote l.fn.text l.rest

abbrev pub decreases-loop-first : goal.decreases-loop-first
decreases-loop-first l = length l.rest
