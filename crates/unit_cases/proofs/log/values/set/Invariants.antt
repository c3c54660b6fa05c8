use Rattle.std.specs.List.{All}
use Rattle.ks_value.specs.Members.{IsAscending}
use Rattle.ks_space.specs.Store.{IsShort}
use Rattle.unit_cases.proofs.log.values.set.Given as goal

abbrev pub invariant-loop-member : goal.invariant-loop-member
invariant-loop-member l = All IsShort l.members × IsAscending l.members
