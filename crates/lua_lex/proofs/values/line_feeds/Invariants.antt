use Rattle.std.proofs.Common.{◌≡◌, ◌++◌, length}
use Rattle.lua_lex.specs.Values.{line_feeds}
use Rattle.lua_lex.proofs.values.line_feeds.Given as goal

abbrev pub invariant-loop-first : goal.invariant-loop-first
invariant-loop-first l = l.bytes ++ line_feeds l.rest ≡ line_feeds l.fn.text

abbrev pub decreases-loop-first : goal.decreases-loop-first
decreases-loop-first l = length l.rest
