use Rattle.std.proofs.Common.{◌≡◌, ◌++◌, false, length}
use Rattle.cmd_glob.specs.Patterns.{parts_from}
use Rattle.cmd_glob.proofs.parsing.parts_of.Given as goal

abbrev pub invariant-loop-first : goal.invariant-loop-first
invariant-loop-first l = l.parts ++ parts_from false l.rest ≡ parts_from false l.symbols

abbrev pub decreases-loop-first : goal.decreases-loop-first
decreases-loop-first l = length l.rest
