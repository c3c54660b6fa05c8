use Rattle.std.proofs.Common.{sym, subst}
use Rattle.std.specs.List.Sorted.{IsStrictlySortedBy}
use Rattle.ks_value.specs.Members.{IsAscending}
use Rattle.ks_value.proofs.set.SetValue.new.Goals as goal

pub invariant_of-result : goal.invariant_of-result
unfolding IsStrictlySortedBy
invariant_of-result c = subst IsAscending (sym c.new.ensures) tt
