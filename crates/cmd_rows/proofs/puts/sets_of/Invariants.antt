use Rattle.std.proofs.Common.{◌≡◌, ◌++◌, length}
use Rattle.cmd_rows.specs.Strings.{sets_of}
use Rattle.cmd_rows.proofs.puts.sets_of.Given as goal

abbrev pub invariant-loop-key : goal.invariant-loop-key
invariant-loop-key l = l.sets ++ sets_of l.left.items ≡ sets_of l.initial.left.items

abbrev pub decreases-loop-key : goal.decreases-loop-key
decreases-loop-key l = length l.left.items
