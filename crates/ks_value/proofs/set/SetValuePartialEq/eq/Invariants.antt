use Rattle.std.proofs.Common.{◌≡◌, drop}
use Rattle.std.specs.Cmp.Lexicographic.{pointwise}
use Rattle.std.specs.Str.{bytes_eq}
use Rattle.ks_value.proofs.set.SetValuePartialEq.eq.Given as goal

abbrev pub invariant-loop-at : goal.invariant-loop-at
invariant-loop-at l = pointwise bytes_eq l.self l.other ≡ pointwise bytes_eq (drop l.at l.self) (drop l.at l.other)
