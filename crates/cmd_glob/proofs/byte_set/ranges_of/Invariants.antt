use Rattle.std.proofs.Common.{◌≡◌, ◌++◌, length}
use Rattle.cmd_glob.specs.Sets.{ranges_of}
use Rattle.cmd_glob.proofs.byte_set.ranges_of.Given as goal

abbrev pub invariant-loop-range : goal.invariant-loop-range
invariant-loop-range l = l.ranges ++ ranges_of l.rest ≡ ranges_of l.symbols

abbrev pub decreases-loop-range : goal.decreases-loop-range
decreases-loop-range l = length l.rest
