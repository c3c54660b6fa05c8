use Rattle.ks_space.proofs.Purged.{equal}
use Rattle.ks_space.proofs.laws.stores_with_equal_entries_are_equal.Goals as goal

pub returns : goal.returns
returns c = equal
