use Rattle.std.proofs.Common.{◌≡◌, ◌++◌, drop}
use Rattle.cmd_glob.specs.Symbols.{symbols_of, symbols_from}
use Rattle.cmd_glob.proofs.symbol.symbols_of.Given as goal

abbrev pub invariant-loop-byte : goal.invariant-loop-byte
invariant-loop-byte l = l.symbols.items ++ symbols_from l.escaped (drop l.byte-index l.pattern) ≡ symbols_of l.pattern
