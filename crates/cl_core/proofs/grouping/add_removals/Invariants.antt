use Rattle.std.proofs.Common.{◌≡◌, ◌++◌, map, length}
use Rattle.cl_core.specs.Machine.{removal}
use Rattle.cl_core.proofs.grouping.add_removals.Given as goal

abbrev pub invariant-loop-key : goal.invariant-loop-key
invariant-loop-key l = l.groups ++ map removal l.left.items ≡ l.initial.groups ++ map removal l.initial.left.items

abbrev pub decreases-loop-key : goal.decreases-loop-key
decreases-loop-key l = length l.left.items
