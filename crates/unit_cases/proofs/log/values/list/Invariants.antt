use Rattle.std.specs.List.{All}
use Rattle.ks_space.specs.Store.{IsShort}
use Rattle.unit_cases.proofs.log.values.list.Given as goal

abbrev pub invariant-loop-item : goal.invariant-loop-item
invariant-loop-item l = All IsShort l.items
