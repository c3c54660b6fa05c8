use Rattle.std.proofs.Common.{drop}
use Rattle.cmd_keys.proofs.Leaving.{Leaves}
use Rattle.cmd_keys.proofs.removing.removals.Given as goal

abbrev pub invariant-loop-key : goal.invariant-loop-key
invariant-loop-key l = Leaves l.world.store l.keys l.gone l.records (drop l.key-index l.keys)
