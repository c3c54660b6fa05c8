use Rattle.std.proofs.Common.{length}
use Rattle.lua_lex.proofs.ValueLemmas.{HasValue}
use Rattle.lua_lex.proofs.values.quoted_bytes.Given as goal

abbrev pub invariant-loop-first : goal.invariant-loop-first
invariant-loop-first l = HasValue l.quote l.fn.text l.bytes l.rest

abbrev pub decreases-loop-first : goal.decreases-loop-first
decreases-loop-first l = length l.rest
