use Rattle.std.proofs.Common.{◌≡◌, ◌-◌, length, drop}
use Rattle.cmd_string.specs.StringRows.{has_any}
use Rattle.cmd_string.proofs.many.has_any.Given as goal

abbrev pub invariant-loop-place : goal.invariant-loop-place
invariant-loop-place l = has_any l.world.store (drop 1 l.words) ≡ has_any l.world.store (drop l.place l.words)

abbrev pub decreases-loop-place : goal.decreases-loop-place
decreases-loop-place l = length l.words - l.place
