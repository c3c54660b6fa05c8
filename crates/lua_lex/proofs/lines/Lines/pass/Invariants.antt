use Rattle.std.proofs.Common.{◌≡◌, ◌+◌, ◌≤◌, take}
use Rattle.lua_lex.specs.Lines.{pass}
use Rattle.lua_lex.proofs.lines.Lines.pass.Given as goal

abbrev pub invariant-loop-byte : goal.invariant-loop-byte
invariant-loop-byte l = (l.lines ≡ pass l.fn.self (take l.byte-index l.bytes))
    × (l.lines.breaks ≤ l.fn.self.breaks + l.byte-index)
