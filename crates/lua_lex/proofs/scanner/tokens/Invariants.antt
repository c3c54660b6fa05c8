use Rattle.std.proofs.Common.{length}
use Rattle.lua_lex.proofs.LexemeLemmas.{HasRead}
use Rattle.lua_lex.proofs.scanner.tokens.Given as goal

abbrev pub invariant-loop-rest : goal.invariant-loop-rest
invariant-loop-rest l = HasRead l.fn.text l.tokens l.lines l.rest

abbrev pub decreases-loop-rest : goal.decreases-loop-rest
decreases-loop-rest l = length l.rest
