use Rattle.std.proofs.Common.{subst}
use Rattle.ks_space.specs.Store.{IsStore}
use Rattle.ks_space.proofs.space.Space.get.Goals as goal

pub returns-clause-store : goal.returns-clause-store
returns-clause-store c = subst IsStore c.self.view_is c.self.invariant.0
